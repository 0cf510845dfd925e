-- The errors of the text of a stimulus: the number and the name of each cause, and the order of causes at the same
-- offset.
use Rattle.std.specs.Prelude.{ℕ, List, codes}
use Rattle.ps_text.specs.declared.faults.Fault.{Fault}
use Rattle.ps_simulate.specs.declared.fault.StimulusCause.{StimulusCause}
use Rattle.ps_simulate.specs.declared.fault.StimulusCause.TheVariants.{Width, Stimulus}

-- why a stimulus was not parsed: a cause with an offset, or out of memory
abbrev pub StimulusFault : Type 0
StimulusFault = Fault StimulusCause

abbrev pub cause_number : StimulusCause → ℕ
cause_number Width = 70
cause_number Stimulus = 73

abbrev pub cause_name : StimulusCause → List ℕ
cause_name Width = codes "Width"
cause_name Stimulus = codes "Stimulus"

abbrev pub rank : StimulusCause → ℕ
rank Stimulus = 0
rank Width = 1
