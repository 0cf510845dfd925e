-- Why a specification gets no automaton. For each fault, these definitions state the reason.
-- - `IsTranslationFaultBy spec hoa fault`: the reason for this fault, once the translator gave the text of an automaton
-- - `IsTranslationFault Gave text fault`: the reason for which a text gets this fault instead of an automaton; none is
--   stated for `OutOfMemory`
use Rattle.std.specs.Prelude.{◌≡◌, ⊤, ℕ, List, Option, None, Some, Ok, Err}
use Rattle.ps_tlsf.specs.Reading.{answer_of}
use Rattle.ps_tlsf.specs.Specifications.{Specification}
use Rattle.ps_specification.specs.Promises.{IsTranslationOf}
use Rattle.ps_specification.specs.Translating.{IsBeyondLimits, MayGive}
use Rattle.ps_specification.specs.declared.fault.SpecificationFault.{SpecificationFault}
use Rattle.ps_specification.specs.declared.fault.SpecificationFault.TheVariants.{Text, NotTranslated, NotJudged}
use Rattle.ps_specification.specs.declared.fault.SpecificationFault.TheVariants.{OutOfMemory}

abbrev pub IsTranslationFaultBy : Specification → List ℕ → SpecificationFault → Type 0
IsTranslationFaultBy spec hoa NotTranslated = IsBeyondLimits hoa
IsTranslationFaultBy spec hoa NotJudged = ¬ IsBeyondLimits hoa × ¬ IsTranslationOf spec hoa
IsTranslationFaultBy spec hoa OutOfMemory = ⊤
IsTranslationFaultBy spec hoa fault = ⊥

abbrev pub IsTranslationFaultGiven : Specification → Option (List ℕ) → SpecificationFault → Type 0
IsTranslationFaultGiven spec None fault = fault ≡ NotTranslated
IsTranslationFaultGiven spec (Some hoa) fault = IsTranslationFaultBy spec hoa fault

-- the text is that of a specification, and the translator gave something for which P holds
pub record OfTranslation (Gave : MayGive) (text : List ℕ) (P : Specification → Option (List ℕ) → Type 0) : Type 0 where
  pub spec : Specification
  pub reads : answer_of text ≡ Ok spec
  pub given : Option (List ℕ)
  pub gave : Gave spec given
  pub holds : P spec given

abbrev pub IsTranslationFault : MayGive → List ℕ → SpecificationFault → Type 0
IsTranslationFault Gave text (Text cause offset) = answer_of text ≡ Err (record { cause = cause; offset = offset })
IsTranslationFault Gave text OutOfMemory = ⊤
IsTranslationFault Gave text fault = OfTranslation Gave text (λ spec given. IsTranslationFaultGiven spec given fault)
