-- A formula as a conjunction of sentences, each of which says that its antecedents imply its consequent.
-- - `IsEquivalent f g`: f holds where g does, along each word along which formulas are true or false
-- - `AllHold w i fs`: the word satisfies each of the formulas at the index
-- - `IsConjunction f fs`: f is equivalent to the conjunction of the formulas fs
-- - `IsObeyed w i s`: the word satisfies the sentence at the index
-- - `AreSentencesOf f sentences`: f is equivalent to the conjunction of the sentences
use Rattle.std.specs.Prelude.{◌↔◌, ℕ, List}
use Rattle.std.specs.List.{AllByRecursion}
use Rattle.ps_formula.specs.Formulas.{Formula}
use Rattle.ps_formula.specs.Satisfaction.{IsDecidedWord, Satisfies}

pub record IsEquivalent (f g : Formula) : Type 0 where
  pub each : (w : ℕ → ℕ) (i : ℕ) → IsDecidedWord w → (Satisfies f w i) ↔ (Satisfies g w i)

pub record SentenceData : Type 0 where
  pub antecedents : List Formula
  pub consequent : Formula

abbrev pub AllHold : (w : ℕ → ℕ) → (i : ℕ) → List Formula → Type 0
AllHold w i fs = AllByRecursion (λ f. Satisfies f w i) fs

pub record IsConjunction (f : Formula) (fs : List Formula) : Type 0 where
  pub same : (w : ℕ → ℕ) (i : ℕ) → IsDecidedWord w → (Satisfies f w i) ↔ (AllHold w i fs)

abbrev pub IsObeyed : (w : ℕ → ℕ) → (i : ℕ) → SentenceData → Type 0
IsObeyed w i s = AllHold w i s.antecedents → Satisfies s.consequent w i

pub record AreSentencesOf (f : Formula) (sentences : List SentenceData) : Type 0 where
  pub same : (w : ℕ → ℕ) (i : ℕ) → IsDecidedWord w →
      (Satisfies f w i) ↔ (AllByRecursion (IsObeyed w i) sentences)
