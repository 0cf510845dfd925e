-- The program reports the fault of a parser by a line, or as lack of memory.
use Rattle.std.specs.Prelude.{◌≡◌, ⊤, ℕ, List}
use Rattle.ps_text.specs.declared.faults.Fault.{Fault}
use Rattle.ps_text.specs.declared.faults.Fault.TheVariants as fault
use Rattle.ps_program.specs.declared.answer.Refusal.{Refusal}
use Rattle.ps_program.specs.declared.answer.Refusal.TheVariants as refusal
use Rattle.ps_program.specs.Faults.{fault_text, text_line}

-- an error of a text is reported by a line with the error's number, name and offset; a lack of memory is reported as
-- `OutOfMemory`
abbrev pub IsRefusalOf : {C : Type 0} → (C → ℕ) → (C → List ℕ) → Fault C → Refusal → Type 0
IsRefusalOf number name (fault.Text cause offset) (refusal.Fault line) =
    fault_text line ≡ text_line (number cause) (name cause) offset
IsRefusalOf number name fault.OutOfMemory refusal.OutOfMemory = ⊤
IsRefusalOf number name given other = ⊥
