-- When an automaton and a formula agree on lassos, and what a difference between them is. Both read words of letters
-- over the formula's propositions. The automaton reads a letter by names: its own propositions are some of the
-- formula's, in any order, and it passes over the bits of the others.
-- - `IsReadAs own names letter read`: an automaton with the propositions `own` reads a letter over `names` as `read`
-- - `AcceptsByName file names stem lap`: the automaton accepts the lasso, as it reads it
-- - `IsAgreeing file f`: the automaton accepts exactly the lassos that satisfy the formula
-- - `IsAcceptedWrongly file f stem lap`, `IsRejectedWrongly file f stem lap`: the automaton accepts the lasso although
--   it violates the formula; it rejects the lasso although it satisfies the formula
-- - `IsAgreementOf file f agreement`: the answer is right: the automaton and the formula agree, or they differ on the
--   lasso in the way told
-- - `IsAgreementRefusal own own_controllable f fault`: the fault is a true reason why they are not compared
use Rattle.std.specs.Prelude.{◌≡◌, ℕ, ◌^◌, ◌<◌, ◌↔◌, All, List, [], ◌∷◌, Some, ⊤, length, slice_index_or}
use Rattle.ps_label.specs.Truth.{is_in}
use Rattle.ps_hoa.specs.Files.{FileData, is_among}
use Rattle.ps_automaton.specs.Acceptance.{IsAccepted}
use Rattle.ps_simulate.specs.Symbols.{IsPropositionOf}
use Rattle.ps_models.specs.Judgements.{IsSatisfied, NamedFormula}
use Rattle.ps_models.specs.declared.agreement.Agreement.{Agreement}
use Rattle.ps_models.specs.declared.agreement.Agreement.TheVariants.{Accepts, Agrees, Rejects}
use Rattle.ps_models.specs.declared.agreement.AgreementFault.{AgreementFault}
use Rattle.ps_models.specs.declared.agreement.AgreementFault.TheVariants.{OutOfMemory, Symbols}

-- ## Propositions

-- each proposition of an automaton is one of the formula's, of the same name and of the same player
abbrev pub ArePropositionsOf : (own : List (List ℕ)) → (own_controllable : List ℕ) → NamedFormula → Type 0
ArePropositionsOf own own_controllable f =
    (k : ℕ) → k < length own → (p : ℕ) ×
    IsPropositionOf f.names f.controllable (is_among k own_controllable) (slice_index_or own k []) (Some p)

-- ## Letters

-- each proposition of the automaton has the bit of the formula's proposition of the same name
pub record IsReadAs (own names : List (List ℕ)) (letter read : ℕ) : Type 0 where
  pub few : read < 2 ^ length own
  pub same : (k p : ℕ) → k < length own → p < length names → slice_index_or own k [] ≡ slice_index_or names p [] →
      is_in k read ≡ is_in p letter

-- the automaton reads the letter in exactly one way
pub record HasOneReading (own names : List (List ℕ)) (letter : ℕ) : Type 0 where
  pub read : ℕ
  pub is_read : IsReadAs own names letter read
  pub one : (other : ℕ) → IsReadAs own names letter other → other ≡ read

abbrev pub AreReadAs : (own names : List (List ℕ)) → (letters reads : List ℕ) → Type 0
AreReadAs own names [] reads = reads ≡ []
AreReadAs own names (letter ∷ letters) [] = ⊥
AreReadAs own names (letter ∷ letters) (read ∷ reads) =
    IsReadAs own names letter read × AreReadAs own names letters reads

-- a lasso of letters over the propositions
pub record IsLassoOver (names : List (List ℕ)) (stem lap : List ℕ) : Type 0 where
  pub some : 0 < length lap
  pub stem_letters : All (λ letter. letter < 2 ^ length names) stem
  pub lap_letters : All (λ letter. letter < 2 ^ length names) lap

-- the automaton accepts the lasso of the letters as it reads them
pub record AcceptsByName (file : FileData) (names : List (List ℕ)) (stem lap : List ℕ) : Type 0 where
  pub stem_read : List ℕ
  pub lap_read : List ℕ
  pub stem_is : AreReadAs file.names names stem stem_read
  pub lap_is : AreReadAs file.names names lap lap_read
  pub accepted : IsAccepted file stem_read lap_read

-- ## Agreement

-- the automaton's propositions are the formula's, and it accepts exactly the lassos that satisfy the formula
pub record IsAgreeing (file : FileData) (f : NamedFormula) : Type 0 where
  pub propositions : ArePropositionsOf file.names file.controllable f
  pub agree : (stem lap : List ℕ) → IsLassoOver f.names stem lap →
      (AcceptsByName file f.names stem lap) ↔ (IsSatisfied f stem lap)

-- the automaton accepts the lasso, which violates the formula
pub record IsAcceptedWrongly (file : FileData) (f : NamedFormula) (stem lap : List ℕ) : Type 0 where
  pub propositions : ArePropositionsOf file.names file.controllable f
  pub is_lasso : IsLassoOver f.names stem lap
  pub accepts : AcceptsByName file f.names stem lap
  pub violates : ¬ IsSatisfied f stem lap

-- the automaton rejects the lasso, which satisfies the formula
pub record IsRejectedWrongly (file : FileData) (f : NamedFormula) (stem lap : List ℕ) : Type 0 where
  pub propositions : ArePropositionsOf file.names file.controllable f
  pub is_lasso : IsLassoOver f.names stem lap
  pub rejects : ¬ AcceptsByName file f.names stem lap
  pub satisfies : IsSatisfied f stem lap

abbrev pub IsAgreementOf : FileData → NamedFormula → Agreement → Type 0
IsAgreementOf file f Agrees = IsAgreeing file f
IsAgreementOf file f (Accepts lasso) = IsAcceptedWrongly file f lasso.stem.items lasso.lap.items
IsAgreementOf file f (Rejects lasso) = IsRejectedWrongly file f lasso.stem.items lasso.lap.items

-- `Symbols`: some proposition of the automaton is none of the formula's, or not of the same player. `OutOfMemory`:
-- memory may run out at any time
abbrev pub IsAgreementRefusal :
    (own : List (List ℕ)) → (own_controllable : List ℕ) → NamedFormula → AgreementFault → Type 0
IsAgreementRefusal own own_controllable f Symbols = ¬ ArePropositionsOf own own_controllable f
IsAgreementRefusal own own_controllable f OutOfMemory = ⊤
