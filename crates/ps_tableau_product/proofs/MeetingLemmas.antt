-- What was found of guards and states, while guards are made and more is found.
use Rattle.std.proofs.Common.{◌≡◌, ◌∙◌, ◌&&◌, ℕ, ◌<◌, inl, inr, List, [], ◌∷◌, ◌++◌, Some, Vec, ap, arith, get_or}
use Rattle.std.proofs.Common.{length, length-append, nat_eq, rules, subst, sym, true}
use Rattle.std.proofs.lemmas.Bool.{eqb-true}
use Rattle.std.proofs.lemmas.Option.{slice_get-get_or, slice_get_within}
use Rattle.std.specs.Global.{Global}
use Rattle.std.specs.List.{slice_get}
use Rattle.std.specs.Prelude.{is_some}
use Rattle.ps_automaton.specs.Automata.{AutomatonData}
use Rattle.ps_diagram.proofs.NodeTables.Keys.{and_both}
use Rattle.ps_diagram.specs.Table.{IsNode, Keeps, Table}
use Rattle.ps_diagram.proofs.TreeOperations.Truths.{leaf_kept}
use Rattle.ps_formula.proofs.Tables.{old_or_pushed}
use Rattle.ps_tableau_product.specs.Inner.Alphabets.{AreMeetings, AreMet}
use Rattle.ps_tableau_product.specs.declared.meetings.Meetings.{Meetings}

same_pair : (x y : ℕ × ℕ) → (nat_eq x.0 y.0 && nat_eq x.1 y.1) ≡ true → x ≡ y
same_pair (x, y) (a, b) e = search (rules, and_both, eqb-true)

-- the pair at a place that a search finds
pub pair_at : (pairs : List (ℕ × ℕ)) (pair : ℕ × ℕ) (place : ℕ) → place < length pairs →
    ((d : ℕ × ℕ) → (nat_eq (get_or pairs place d).0 pair.0 && nat_eq (get_or pairs place d).1 pair.1) ≡ true) →
    slice_get pairs place ≡ Some pair
pair_at pairs pair place within equal =
    slice_get-get_or pairs place pair within ∙ ap Some (same_pair (get_or pairs place pair) pair (equal pair))

module _ {few : ℕ} {places : List ℕ} {a : AutomatonData} where
  met_kept : {guards wider : Table} (own guard : ℕ) (found : List (ℕ × ℕ)) → Keeps guards wider →
      IsNode guards guard → AreMet few places a own guards guard found → AreMet few places a own wider guard found
  met_kept own guard found keeps held is = record {
    sound = λ k leaf letter at.
        let here = is.sound k leaf letter at in
        (here.0, ap is_some (leaf_kept letter keeps held) ∙ here.1, here.2);
    whole = λ letter low serves. is.whole letter low (sym (ap is_some (leaf_kept letter keeps held)) ∙ serves);
  }

  pub meetings_kept : {guards wider : Table} (m : Meetings) → Keeps guards wider →
      AreMeetings few places a guards m → AreMeetings few places a wider m
  meetings_kept m keeps are = record {
    count = are.count;
    held = λ place pair at. keeps.held pair.0 (are.held place pair at);
    each = λ place pair found at there.
        met_kept pair.1 pair.0 found.items keeps (are.held place pair at) (are.each place pair found at there);
  }

  pub meetings_none : {guards : Table} (m : Meetings) → m.pairs ≡ [] → m.found.items ≡ [] →
      AreMeetings few places a guards m
  meetings_none m pairs found = record {
    count = ap length pairs ∙ sym (ap length found);
    held = λ place pair at. absurd (omega (arith, slice_get_within m.pairs place pair at, ap length pairs));
    each = λ place pair list at there.
        absurd (omega (arith, slice_get_within m.pairs place pair at, ap length pairs));
  }

  pub meetings_same : {guards : Table} {old new : Meetings} → AreMeetings few places a guards old →
      new.pairs ≡ old.pairs → new.found.items ≡ old.found.items → AreMeetings few places a guards new
  meetings_same {guards} {old} {new} are pairs found = record {
    count = ap length pairs ∙ are.count ∙ sym (ap length found);
    held = λ place pair at.
        are.held place pair (subst (λ (xs : List (ℕ × ℕ)). slice_get xs place ≡ Some pair) pairs at);
    each = λ place pair list at there.
        are.each place pair list (subst (λ (xs : List (ℕ × ℕ)). slice_get xs place ≡ Some pair) pairs at)
        (subst (λ (xs : List (Vec (ℕ × ℕ) Global)). slice_get xs place ≡ Some list) found there);
  }

  pub meetings_more : {guards : Table} {old new : Meetings} (pair : ℕ × ℕ) (list : Vec (ℕ × ℕ) Global) →
      AreMeetings few places a guards old → new.pairs ≡ old.pairs ++ pair ∷ [] →
      new.found.items ≡ old.found.items ++ list ∷ [] → IsNode guards pair.0 →
      AreMet few places a pair.1 guards pair.0 list.items → AreMeetings few places a guards new
  meetings_more {guards} {old} {new} pair list are pairs found held met = record {
    count = ap length pairs ∙ length-append old.pairs (pair ∷ []) ∙ omega (arith, are.count)
        ∙ sym (length-append old.found.items (list ∷ [])) ∙ sym (ap length found);
    held = λ place other at. elim (old_or_pushed old.pairs pair other place
        (subst (λ (xs : List (ℕ × ℕ)). slice_get xs place ≡ Some other) pairs at)) [
          | inl was ↦ are.held place other was
          | inr here ↦ subst (λ (p : ℕ × ℕ). IsNode guards p.0) here.1 held
        ];
    each = λ place other kept at there.
        let first = old_or_pushed old.pairs pair other place
        (subst (λ (xs : List (ℕ × ℕ)). slice_get xs place ≡ Some other) pairs at) in
        let second = old_or_pushed old.found.items list kept place
        (subst (λ (xs : List (Vec (ℕ × ℕ) Global)). slice_get xs place ≡ Some kept) found there) in
        elim first [
          | inl was ↦ elim second [
            | inl known ↦ are.each place other kept was known
            | inr last ↦ absurd (omega (arith, last.0, are.count, slice_get_within old.pairs place other was))
          ]
          | inr here ↦ elim second [
            | inl known ↦ absurd (omega (arith, here.0, are.count, slice_get_within old.found.items place kept known))
            | inr last ↦ subst (λ (p : ℕ × ℕ). AreMet few places a p.1 guards p.0 kept.items) here.1
                (subst (λ (v : Vec (ℕ × ℕ) Global). AreMet few places a pair.1 guards pair.0 v.items) last.1 met)
          ]
        ];
  }
