-- An automaton and a formula agree exactly if they differ on no lasso.
use Rattle.std.proofs.Common.{◌≡◌, ◌↔◌, ℕ, zero, suc, ◌^◌, ◌<◌, ◌≤◌, inl, inr, Bool, true, false, List, [], ◌∷◌}
use Rattle.std.proofs.Common.{◌++◌}
use Rattle.std.proofs.Common.{All, Some, get_or, length, map, refl, sym, subst, arith}
use Rattle.std.specs.Prelude.{IsTrue}
use Rattle.std.proofs.Math.Numerals.{add-one}
use Rattle.std.proofs.lemmas.List.{get_or-map, length-map}
use Rattle.ps_hoa.specs.Files.{FileData}
use Rattle.ps_formula.proofs.LassoTruths.{lasso_is_decided}
use Rattle.ps_automaton.specs.Acceptance.{IsAccepted}
use Rattle.ps_automaton.specs.Autos.{Auto, IsAutoOf}
use Rattle.ps_automaton.specs.Chains.{Chain, chain_of}
use Rattle.ps_simulate.specs.Symbols.{AreDistinct}
use Rattle.ps_traces.proofs.Verdicts.{accepted_or_not}
use Rattle.ps_tableau_product.specs.Joints.{read_by}
use Rattle.ps_models.specs.Agreements.{AcceptsByName, ArePropositionsOf, HasOneReading, IsAcceptedWrongly, IsAgreeing}
use Rattle.ps_models.specs.Agreements.{IsLassoOver, IsRejectedWrongly}
use Rattle.ps_models.specs.Inner.Comparing.{ArePlaces, ArePlacesUpTo}
use Rattle.ps_models.specs.Judgements.{NamedFormula}
use Rattle.ps_models.proofs.ComparedAutomata.NameReadings.{accepts_read, one_reading, places_more, places_none, read_is}
use Rattle.ps_models.proofs.ComparedAutomata.NameReadings.{read_low}

-- ## Numbers of propositions

module _ (own : List (List ℕ)) (own_controllable : List ℕ) (f : NamedFormula)
    (are : ArePropositionsOf own own_controllable f) where
  first_places : (count : ℕ) → count ≤ length own →
      (places : List ℕ) × ArePlacesUpTo own own_controllable f places count
  first_places zero le = ([], places_none own own_controllable f)
  first_places (suc count) le =
      let h = first_places count (omega arith) in
      let next = are count (omega arith) in (
        h.0 ++ next.0 ∷ [],
        subst (ArePlacesUpTo own own_controllable f (h.0 ++ next.0 ∷ [])) (add-one count)
            (places_more h.0 count next.0 h.1 next.1),
      )

  pub places_there : (places : List ℕ) × ArePlaces own own_controllable f places
  places_there = first_places (length own) (omega arith)

pub one_reading_there : (own : List (List ℕ)) (own_controllable : List ℕ) (f : NamedFormula) (letter : ℕ) →
    AreDistinct f.names → ArePropositionsOf own own_controllable f → HasOneReading own f.names letter
one_reading_there own own_controllable f letter distinct are =
    let there = places_there own own_controllable f are in
    record {
      read = read_by there.0 letter;
      is_read = read_is distinct there.1 letter;
      one = one_reading distinct there.1 letter;
    }

-- ## Agreement

module _ (file : FileData) (f : NamedFormula) (chain : Chain) (a : Auto)
    (is_chain : chain_of file.condition ≡ Some chain)
    (is_auto : IsAutoOf file chain a) (distinct : AreDistinct f.names)
    (are : ArePropositionsOf file.names file.controllable f)
    (not_accepted : (stem lap : List ℕ) → IsAcceptedWrongly file f stem lap → ⊥)
    (not_rejected : (stem lap : List ℕ) → IsRejectedWrongly file f stem lap → ⊥) where
  abbrev places : List ℕ
  places = (places_there file.names file.controllable f are).0

  are_places : ArePlaces file.names file.controllable f places
  are_places = (places_there file.names file.controllable f are).1

  low_reads : (letters : List ℕ) → All (λ letter. letter < 2 ^ length file.names) (map (read_by places) letters)
  low_reads letters k d low = subst (λ (n : ℕ). n < 2 ^ length file.names)
      (sym (get_or-map (read_by places) letters k d d (omega (arith, length-map letters (read_by places)))))
      (read_low distinct are_places (get_or letters k d))

  told : (b : Bool) (P Q : Type 0) → (IsTrue b ↔ P) → ((P → ⊥) → Q) → (P → Q) → Q
  told true P Q same none some = some (same.0 refl)
  told false P Q same none some = none (λ p. let h = same.1 p in cc)

  accepts_or : (stem lap : List ℕ) → IsLassoOver f.names stem lap → (Q : Type 0) →
      ((AcceptsByName file f.names stem lap → ⊥) → Q) → (AcceptsByName file f.names stem lap → Q) → Q
  accepts_or stem lap over Q rejects accepts =
      let reads = accepts_read distinct are_places stem lap in
      let decided = accepted_or_not file chain a is_chain is_auto (map (read_by places) stem)
      (map (read_by places) lap) (omega (arith, length-map lap (read_by places), over.some)) (low_reads stem)
      (low_reads lap) in
      told decided.0 (IsAccepted file (map (read_by places) stem) (map (read_by places) lap)) Q decided.1
      (λ none. rejects (λ by_name. none (reads.0 by_name))) (λ accepted. accepts (reads.1 accepted))

  pub agreeing : IsAgreeing file f
  agreeing = record {
    propositions = are;
    agree = λ stem lap over. (
      λ accepts. elim ((lasso_is_decided stem lap over.some).each f.formula 0) [
        | inl satisfied ↦ satisfied
        | inr violated ↦ absurd (not_accepted stem lap (record {
          propositions = are;
          is_lasso = over;
          accepts = accepts;
          violates = violated;
        }))
      ],
      λ satisfied. accepts_or stem lap over (AcceptsByName file f.names stem lap)
          (λ rejects. absurd (not_rejected stem lap (record {
            propositions = are;
            is_lasso = over;
            rejects = rejects;
            satisfies = satisfied;
          })))
          (λ accepts. accepts),
    );
  }
