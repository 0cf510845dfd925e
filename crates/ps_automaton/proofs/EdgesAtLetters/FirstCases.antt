-- If the cases of a diagram are the edges of a state, the leaf at a letter is the index of the step to the target of
-- the edge that is taken there.
use Rattle.std.proofs.Common.{◌≡◌, ℕ, zero, suc, ◌+◌, ◌<◌, ◌⊎◌, inl, inr, Bool, true, false, List, [], ◌∷◌, length}
use Rattle.std.proofs.Common.{◌++◌, length-append, get_or, Option, Some, None, refl, sym, ap, ◌∙◌, arith}
use Rattle.std.specs.List.{Contains, slice_get}
use Rattle.std.specs.Option.{IsSomeAnd}
use Rattle.std.specs.Prelude.{IsTrue, ◌↔◌}
use Rattle.std.proofs.lemmas.Option.{slice_get_within, slice_get-get_or}
use Rattle.ps_text.proofs.Combinators.Simple.{same_some}
use Rattle.ps_label.specs.Expression.{Expression}
use Rattle.ps_label.specs.Truth.{alias_truths, label_truth, truth}
use Rattle.ps_diagram.specs.Products.{IsLeafByCases, meets}
use Rattle.ps_diagram.specs.declared.cases.Case.{Case}
use Rattle.ps_diagram.specs.declared.products.Product.{Product}
use Rattle.ps_hoa.specs.Edges.{IsTaken}
use Rattle.ps_hoa.specs.Files.{EdgeData, FileData, RowData, of_state}
use Rattle.ps_hoa.specs.Sound.{IsSoundRow}
use Rattle.ps_automaton.specs.Chains.{Chain}
use Rattle.ps_automaton.specs.Inner.Cases.{AreCases, AreProducts, IsEdgeLabel, IsProductOf}
use Rattle.ps_automaton.specs.Inner.Drafts.{AreJoined, ArePlaces, AreTargets, IsTargetAt, TakenEdge, step_of_target}
use Rattle.ps_automaton.specs.Inner.LetterSets.{entry_for}
use Rattle.ps_automaton.specs.declared.step.Step.{Step}
use Rattle.ps_automaton.specs.declared.targets.Target.{Target}
use Rattle.ps_automaton.proofs.StepsByState.DistinctEntries.{at_last}
use Rattle.ps_automaton.proofs.EdgesAtLetters.LetterRows.{states_within}

-- ## Products and cases, one by one

-- the first `count` products are those of the first `count` edges
abbrev pub HaveProducts : FileData → RowData → ℕ → List Product → Type 0
HaveProducts file row count products = (k : ℕ) (edge : EdgeData) (product : Product) → k < count →
    slice_get row.edges k ≡ Some edge → slice_get products k ≡ Some product → IsProductOf file row edge product

pub products_more : {file : FileData} {row : RowData} (products : List Product) {more : List Product} {count : ℕ}
    {edge : EdgeData} {product : Product} → length products ≡ count → more ≡ products ++ product ∷ [] →
    slice_get row.edges count ≡ Some edge → IsProductOf file row edge product → HaveProducts file row count products →
    HaveProducts file row (count + 1) more
products_more {file} {row} products {more} {count} {edge} {product} size is at_edge is_product have k e x within there
    there_too =
    elim (at_last products product k (rw is at there_too)) [
      | inl old ↦ have k e x (let low = slice_get_within products k x old in omega (arith, low, size)) there old
      | inr last ↦
          let place : k ≡ count = last.1 ∙ size in
          let same : e ≡ edge = same_some e edge (sym there ∙ rw place at_edge) in
          rw (same, last.0) is_product
    ]

-- the product of an edge's label
pub product_of_label : {file : FileData} {row : RowData} {n : ℕ} {edge : EdgeData} {e : Expression} (product : Product)
    →
    IsEdgeLabel file row edge e → n ≡ length file.names →
    ((known : List Bool) (letter : ℕ) → meets n product letter ≡ truth known letter e) →
    IsProductOf file row edge product
unfolding label_truth
product_of_label {file} {row} {n} {edge} {e} product label letters same = record {
  taken = λ letter.
      let truth_of : meets (length file.names) product letter ≡ label_truth file.aliases letter e =
      rw (← letters) (same (alias_truths file.aliases letter) letter) in
      rw truth_of (label.taken letter);
}

pub cases_more : {products : List Product} {places : List ℕ} {targets : List Target} {count : ℕ}
    (cases : List Case) {more : List Case} (case : Case) → AreCases count products places targets cases →
    more ≡ cases ++ case ∷ [] → slice_get products count ≡ Some case.product → slice_get places count ≡ Some case.leaf →
    ((target : Target) → slice_get targets count ≡ Some target → case.kind ≡ target.sets) →
    AreCases (count + 1) products places targets more
cases_more {products} {places} {targets} {count} cases {more} case a is product leaf kind = record {
  one_each = omega (arith, ap length is, length-append cases (case ∷ []), a.one_each);
  product = λ k x at. by_place k x at (λ c. slice_get products k ≡ Some c.product) (a.product k x) (λ e. rw e product);
  leaf = λ k x at. by_place k x at (λ c. slice_get places k ≡ Some c.leaf) (a.leaf k x) (λ e. rw e leaf);
  kind = λ k x target at there.
      by_place k x at (λ c. c.kind ≡ target.sets) (λ e. a.kind k x target e there) (λ e. kind target (rw e at there));
}
  where
    by_place : (k : ℕ) (x : Case) → slice_get more k ≡ Some x → (P : Case → Type 0) →
        (slice_get cases k ≡ Some x → P x) →
        (k ≡ count → P case) → P x
    by_place k x at P before last = elim (at_last cases case k (rw is at at)) [
      | inl old ↦ before old
      | inr new ↦ rw new.0 (last (new.1 ∙ a.one_each))
    ]

-- ## The first case that holds

abbrev pub Found : (Case → Bool) → List Case → Type 0
Found holds cases = (k : ℕ) × (case : Case) × (slice_get cases k ≡ Some case) × (holds case ≡ true)

abbrev pub Lacking : (Case → Bool) → List Case → Type 0
Lacking holds cases = (k : ℕ) (case : Case) → slice_get cases k ≡ Some case → holds case ≡ true → ⊥

-- the index of a case that was found
abbrev pub index_of : (holds : Case → Bool) (cases : List Case) → Found holds cases ⊎ Lacking holds cases → Option ℕ
index_of holds cases (inl found) = Some found.0
index_of holds cases (inr lacking) = None

next_of : (holds : Case → Bool) (x : Case) (xs : List Case) → Found holds xs ⊎ Lacking holds xs → (b : Bool) →
    holds x ≡ b → Found holds (x ∷ xs) ⊎ Lacking holds (x ∷ xs)
next_of holds x xs rest true is = inl (0, x, refl, is)
next_of holds x xs (inl found) false is = inl (suc found.0, found.1, found.2, found.3)
next_of holds x xs (inr lacking) false is = inr none
  where
    none : Lacking holds (x ∷ xs)
    none zero case at h = cc
    none (suc k) case at h = lacking k case at h

pub first_of : (holds : Case → Bool) (cases : List Case) → Found holds cases ⊎ Lacking holds cases
first_of holds [] = inr (λ k case at h. cc)
first_of holds (x ∷ xs) = next_of holds x xs (first_of holds xs) (holds x) refl

-- ## The row

contained : (cases : List Case) (k : ℕ) (case : Case) → slice_get cases k ≡ Some case → Contains cases case
contained cases k case at =
    let within = slice_get_within cases k case at in
    (k, within, same_some (get_or cases k case) case (sym (slice_get-get_or cases k case within) ∙ at))

from_contained : (cases : List Case) (case : Case) → Contains cases case → (k : ℕ) × (slice_get cases k ≡ Some case)
from_contained cases case (k, within, is) = (k, slice_get-get_or cases k case within ∙ ap Some is)

module _ {file : FileData} {row : RowData} (row_sound : IsSoundRow file row) {targets : List Target}
    (are_targets : AreTargets row targets) {chain : Chain} {steps : List Step} {places : List ℕ}
    (are_places : ArePlaces chain targets steps places) {products : List Product}
    (are_products : AreProducts file row products) {cases : List Case}
    (are_cases : AreCases (length products) products places targets cases) where
  no_case : Case
  no_case = record { product = record { positive = 0; negative = 0 }; leaf = 0; kind = 0 }

  no_target : Target
  no_target = record { state = 0; sets = 0 }

  no_edge : EdgeData
  no_edge = record { guard = of_state; target = 0; marks = [] }

  abbrev pub holds_at : ℕ → Case → Bool
  holds_at letter case = meets (length file.names) case.product letter

  -- the index of the first case that holds at the letter
  abbrev pub place_at : ℕ → Option ℕ
  place_at letter = index_of (holds_at letter) cases (first_of (holds_at letter) cases)

  case_of : (k : ℕ) (edge : EdgeData) → slice_get row.edges k ≡ Some edge →
      (case : Case) × (slice_get cases k ≡ Some case)
  case_of k edge at =
      let within = slice_get_within row.edges k edge at in
      let few = are_cases.one_each in
      let size = are_products.one_each in
      (get_or cases k no_case, slice_get-get_or cases k no_case (omega (arith, within, few, size)))

  edge_of : (k : ℕ) (case : Case) → slice_get cases k ≡ Some case →
      (edge : EdgeData) × (slice_get row.edges k ≡ Some edge)
  edge_of k case at =
      let within = slice_get_within cases k case at in
      let few = are_cases.one_each in
      let size = are_products.one_each in
      (get_or row.edges k no_edge, slice_get-get_or row.edges k no_edge (omega (arith, within, few, size)))

  target_of : (k : ℕ) (case : Case) → slice_get cases k ≡ Some case →
      (target : Target) × (slice_get targets k ≡ Some target)
  target_of k case at =
      let within = slice_get_within cases k case at in
      let few = are_cases.one_each in
      let size = are_products.one_each in
      let each = are_targets.one_each in
      (get_or targets k no_target, slice_get-get_or targets k no_target (omega (arith, within, few, size, each)))

  -- cases with the same leaf and the same kind have the same target
  same_target : (j k : ℕ) (one other : Case) → slice_get cases j ≡ Some one → slice_get cases k ≡ Some other →
      one.leaf ≡ other.leaf → one.kind ≡ other.kind → slice_get targets j ≡ slice_get targets k
  same_target j k one other at_j at_k leaf kind =
      let s = target_of j one at_j in
      let t = target_of k other at_k in
      let step_s = are_places.each j one.leaf s.0 s.1 (are_cases.leaf j one at_j) in
      let step_t = are_places.each k other.leaf t.0 t.1 (are_cases.leaf k other at_k) in
      let step : step_of_target chain s.0 ≡ step_of_target chain t.0 = same_some _ _ (sym step_s ∙ rw leaf step_t) in
      let sets : s.0.sets ≡ t.0.sets = sym (are_cases.kind j one s.0 at_j s.1) ∙ kind
      ∙ are_cases.kind k other t.0 at_k t.1 in
      let state : s.0.state ≡ t.0.state = ap (λ (x : Step). x.state) step in
      let same : s.0 ≡ t.0 = λ i. record { state = state i; sets = sets i } in
      s.1 ∙ ap Some same ∙ sym t.1

  -- the case of an edge holds at exactly the letters at which the edge is taken
  taken_of : (k : ℕ) (edge : EdgeData) (case : Case) → slice_get row.edges k ≡ Some edge →
      slice_get cases k ≡ Some case → (letter : ℕ) → IsTrue (holds_at letter case) ↔ IsTaken file row edge letter
  taken_of k edge case at there letter =
      (are_products.each k edge case.product at (are_cases.product k case there)).taken letter

  module _ {leaf_at : ℕ → Option ℕ}
      (by : (letter : ℕ) → IsLeafByCases (holds_at letter) cases (Some 0) (leaf_at letter)) where
    there_of : (letter : ℕ) (e : TakenEdge file row (length row.edges) letter)
        (s : Found (holds_at letter) cases ⊎ Lacking (holds_at letter) cases) →
        IsSomeAnd (index_of (holds_at letter) cases s) (IsTargetAt row e.edge targets)
    there_of letter e (inl (k, case, at, h)) =
        let mine = case_of e.place e.edge e.at_place in
        let holds : holds_at letter mine.0 ≡ true =
        (taken_of e.place e.edge mine.0 e.at_place mine.1 letter).1 e.taken in
        let one = contained cases k case at in
        let more = contained cases e.place mine.0 mine.1 in
        let b = by letter in
        let leaf : case.leaf ≡ mine.0.leaf = same_some _ _ (sym (b.each case one h) ∙ b.each mine.0 more holds) in
        let same = same_target k e.place case mine.0 at mine.1 leaf (b.kind case mine.0 one more h holds) in
        let t = are_targets.each e.place e.edge e.at_place in
        (t.0, same ∙ t.1, t.2)
    there_of letter e (inr lacking) =
        let mine = case_of e.place e.edge e.at_place in
        absurd (lacking e.place mine.0 mine.1 ((taken_of e.place e.edge mine.0 e.at_place mine.1 letter).1 e.taken))

    from_of : (letter : ℕ) (s : Found (holds_at letter) cases ⊎ Lacking (holds_at letter) cases) (place : ℕ) →
        index_of (holds_at letter) cases s ≡ Some place → TakenEdge file row (length row.edges) letter
    from_of letter (inl (k, case, at, h)) place is =
        let edge = edge_of k case at in
        record {
          place = k;
          within = slice_get_within row.edges k edge.0 edge.1;
          edge = edge.0;
          at_place = edge.1;
          taken = (taken_of k edge.0 case edge.1 at letter).0 h;
        }
    from_of letter (inr lacking) place is = absurd cc

    pub joined_by_cases : AreJoined file row (length row.edges) targets place_at
    joined_by_cases = record {
      there = λ letter small e. there_of letter e (first_of (holds_at letter) cases);
      from = λ letter place small is. from_of letter (first_of (holds_at letter) cases) place is;
      within = states_within row_sound are_targets;
    }

    leaf_of_place : (letter : ℕ) (s : Found (holds_at letter) cases ⊎ Lacking (holds_at letter) cases) →
        leaf_at letter ≡ Some (entry_for places (index_of (holds_at letter) cases s))
    leaf_of_place letter (inl (k, case, at, h)) =
        let place = are_cases.leaf k case at in
        let is : get_or places k 0 ≡ case.leaf =
        same_some _ _ (sym (slice_get-get_or places k 0 (slice_get_within places k case.leaf place)) ∙ place) in
        (by letter).each case (contained cases k case at) h ∙ ap Some (sym is)
    leaf_of_place letter (inr lacking) = (by letter).none
        (λ case c h. let r = from_contained cases case c in lacking r.0 case r.1 h)

    pub leaf_by_cases : (letter : ℕ) → leaf_at letter ≡ Some (entry_for places (place_at letter))
    leaf_by_cases letter = leaf_of_place letter (first_of (holds_at letter) cases)
