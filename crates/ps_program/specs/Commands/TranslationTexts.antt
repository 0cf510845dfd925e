-- The command `translate`, which makes an automaton for a specification.
-- - `AnswersTranslate gives text`: what the program answers to `translate`, with a translator that may give this
use Rattle.std.specs.Prelude.{◌≡◌, ℕ, List, Some, Result, Ok, Err}
use Rattle.ps_specification.specs.Promises.{KeepsTranslation}
use Rattle.ps_specification.specs.Translating.{MayGive}
use Rattle.ps_specification.specs.TranslationFaults.{IsTranslationFault}
use Rattle.ps_specification.specs.declared.fault.SpecificationFault.{SpecificationFault}
use Rattle.ps_program.specs.Replies.{Reply, text_reply}
use Rattle.ps_program.specs.Commands.SynthesisTlsf.{specification_line}

abbrev pub AnswersTranslate : MayGive → List ℕ → Result Reply (List ℕ) → Type 0
AnswersTranslate gives text (Ok reply) = (hoa : List ℕ) × KeepsTranslation text hoa × (reply ≡ text_reply hoa)
AnswersTranslate gives text (Err line) =
    (fault : SpecificationFault) × IsTranslationFault gives text fault × (specification_line fault ≡ Some line)
