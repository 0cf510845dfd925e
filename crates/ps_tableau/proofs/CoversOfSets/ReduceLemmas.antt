-- What the formulas of a set bring back.
use Rattle.std.proofs.Common.{◌≡◌, ◌∙◌, inl, inr, ℕ, ◌+◌, ◌<◌, List, [], ◌∷◌, ◌++◌, ap, arith, drop, get_or, length}
use Rattle.std.proofs.Common.{Some}
use Rattle.std.proofs.Common.{length-drop, subst, sym, take}
use Rattle.std.proofs.lemmas.List.Elements.{All-contains, All-contains_itself, All-drop, All-take}
use Rattle.std.proofs.lemmas.List.{map-append}
use Rattle.std.specs.List.{Contains, slice_get}
use Rattle.std.specs.Prelude.{IsTrue}
use Rattle.ps_formula.proofs.NormalTrees.{normal_formula_at-node}
use Rattle.ps_formula.specs.declared.normal_node.NormalNode.{NormalNode}
use Rattle.ps_formula.specs.declared.normal_node.NormalNode.TheVariants.{Release, Until}
use Rattle.ps_formula.specs.NormalForms.{IsNormalTable, NormalFormula, normal_formula_at}
use Rattle.ps_tableau.proofs.BoardLemmas.{cover_kept, covers_kept}
use Rattle.ps_tableau.proofs.CoversOfSets.Brought.{brought_more}
use Rattle.ps_tableau.proofs.CoversOfSets.JoinLemmas.{from_map, in_map}
use Rattle.ps_tableau.proofs.Members.{first_in, in_none, in_one}
use Rattle.ps_tableau.proofs.CoversOfSets.PruneLemmas.{pruned_both, pruned_trans}
use Rattle.ps_tableau.proofs.SetLemmas.{more_cases}
use Rattle.ps_tableau.proofs.CoversOfSets.WayLemmas.{needed_within}
use Rattle.ps_tableau.specs.Boards.{Grows, IsBoard, IsEdgeOf, IsState, MakesEdges, cover_of, covers_of, formulas_in}
use Rattle.ps_tableau.specs.Inner.Pruning.{Makes}
use Rattle.ps_tableau.specs.Inner.Reduction.{IsFormulaAt, IsOneOf, IsOneOfBoth, IsReduced, KeepsOrBrings}
use Rattle.ps_tableau.specs.Inner.SetSteps.{AreSetsWith}
use Rattle.ps_tableau.specs.Sets.{indices_in}
use Rattle.ps_tableau.specs.Covers.{Brings, Cover, of_end, of_kept, of_known}
use Rattle.ps_tableau.specs.Operators.{ArePruned, IsBetter}
use Rattle.ps_tableau.specs.declared.board.Board.{Board}
use Rattle.ps_tableau.specs.declared.edge.Edge.{Edge}

-- ## Single steps

pub step_down : (nodes : List NormalNode) (P : NormalFormula → Type 0) (k f g : ℕ) → IsNormalTable nodes →
    slice_get nodes k ≡ Some (Release f g) → Brings P (normal_formula_at nodes k) → Brings P (normal_formula_at nodes g)
step_down nodes P k f g table at brings = of_kept (subst (λ (h : NormalFormula). Brings P h)
    (normal_formula_at-node nodes k (Release f g) table.earlier at) brings)

pub step_up : (nodes : List NormalNode) (P : NormalFormula → Type 0) (k f g : ℕ) → IsNormalTable nodes →
    slice_get nodes k ≡ Some (Until f g) → Brings P (normal_formula_at nodes g) → Brings P (normal_formula_at nodes k)
step_up nodes P k f g table at brings = subst (λ (h : NormalFormula). Brings P h)
    (sym (normal_formula_at-node nodes k (Until f g) table.earlier at)) (of_end brings)

-- ## Lists of formulas

pub from_one : (nodes : List NormalNode) (known : List ℕ) (k : ℕ) (f : NormalFormula) → Contains known k →
    Brings (IsFormulaAt nodes k) f →
    Brings (IsOneOf nodes known) f
from_one nodes known k f there brings =
    brought_more (IsFormulaAt nodes k) (IsOneOf nodes known) (λ g is. of_known (k, there, is)) brings

pub kept_brings : (nodes : List NormalNode) (kept rest : List ℕ) (f : NormalFormula) → Brings (IsOneOf nodes kept) f →
    Brings (IsOneOfBoth nodes kept rest) f
kept_brings nodes kept rest f brings =
    brought_more (IsOneOf nodes kept) (IsOneOfBoth nodes kept rest) (λ g is. of_known (is.0, inl is.1, is.2)) brings

pub rest_brings : (nodes : List NormalNode) (kept rest : List ℕ) (f : NormalFormula) → Brings (IsOneOf nodes rest) f →
    Brings (IsOneOfBoth nodes kept rest) f
rest_brings nodes kept rest f brings =
    brought_more (IsOneOf nodes rest) (IsOneOfBoth nodes kept rest) (λ g is. of_known (is.0, inr is.1, is.2)) brings

-- one more formula is kept, or brought
pub brings_more : (nodes : List NormalNode) (kept new members : List ℕ) (place x : ℕ) (f : NormalFormula) →
    place < length members →
    x ≡ get_or members place x → KeepsOrBrings nodes kept (drop (place + 1) members) x new →
    Brings (IsOneOfBoth nodes kept (drop place members)) f → Brings (IsOneOfBoth nodes new (drop (place + 1) members)) f
brings_more nodes kept new members place x f within is step brings =
    let rest = drop (place + 1) members in
    brought_more (IsOneOfBoth nodes kept (drop place members)) (IsOneOfBoth nodes new rest) (λ g one. elim one.1 [
      | inl old ↦ of_known (one.0, inl (step.kept one.0 old), one.2)
      | inr more ↦ elim ((more_cases x members place one.0 within).0 more) [
        | inl here ↦
            let same : normal_formula_at nodes x ≡ g = ap (normal_formula_at nodes) (is ∙ here) ∙ one.2 in
            subst (λ (h : NormalFormula). Brings (IsOneOfBoth nodes new rest) h) same step.brings
        | inr later ↦ of_known (one.0, inr later, one.2)
      ]
    ]) brings

pub in_table : {b : Board} {set : ℕ} → IsBoard b → IsState b set → (k : ℕ) → Contains (indices_in b.sets set) k →
    k < length b.formulas
in_table {b} {set} board state k there =
    let low = needed_within b.needed.items k (state.each k there) in
    omega (arith, low, board.needs.few)

pub in_drop : (n : ℕ) (xs : List ℕ) (k : ℕ) → Contains (drop n xs) k → Contains xs k
in_drop n xs k there =
    All-contains (Contains xs) (drop n xs) k (All-drop (Contains xs) n xs (All-contains_itself xs)) there

pub in_take : (n : ℕ) (xs : List ℕ) (k : ℕ) → Contains (take n xs) k → Contains xs k
in_take n xs k there =
    All-contains (Contains xs) (take n xs) k (All-take (Contains xs) n xs (All-contains_itself xs)) there

pub in_dropped : {C : Type 0} (members : List ℕ) (k : ℕ) → Contains (drop (length members) members) k → C
in_dropped members k there = absurd (omega (arith, there.1, length-drop (length members) members))

-- the kept formulas are a reduced set
pub reduced_by : {old new : Board} {set result : ℕ} (kept members : List ℕ) → new.formulas ≡ old.formulas →
    new.needed.items ≡ old.needed.items → IsState old set →
    ((k : ℕ) → Contains kept k → Contains (indices_in old.sets set) k) →
    ((k : ℕ) → Contains (indices_in old.sets set) k →
    Brings (IsOneOfBoth old.formulas kept (drop (length members) members)) (normal_formula_at old.formulas k)) →
    AreSetsWith old.sets kept 0 new.sets result → IsReduced old set new result
reduced_by {old} {new} {set} {result} kept members formulas needed state fewer brings made =
    let is_fewer : (k : ℕ) → Contains (indices_in new.sets result) k → Contains (indices_in old.sets set) k = λ k there.
    elim ((made.each k).0 there) [ inl l ↦ fewer k l | inr none ↦ in_none k none ] in
    record {
      state = record { held = made.held; each = λ k there. rw needed (state.each k (is_fewer k there)) };
      fewer = is_fewer;
      brings = λ f there.
          let k = from_map (normal_formula_at old.formulas) (indices_in old.sets set) f there in
          let brought = brought_more (IsOneOfBoth old.formulas kept (drop (length members) members))
          (Contains (formulas_in new result)) (λ g is. elim is.1 [
            | inl here ↦
                let inside = in_map (normal_formula_at new.formulas) (indices_in new.sets result) is.0
                ((made.each is.0).1 (inl here)) in
                let same : normal_formula_at new.formulas is.0 ≡ g =
                ap (λ (nodes : List NormalNode). normal_formula_at nodes is.0) formulas ∙ is.2 in
                of_known (subst (λ (h : NormalFormula). Contains (formulas_in new result) h) same inside)
            | inr none ↦ in_dropped members is.0 none
          ]) (brings k.0 k.1) in
          subst (λ (h : NormalFormula). Brings (Contains (formulas_in new result)) h) k.2 brought;
    }

pub reduced_fewer : {old new : Board} {set reduced : ℕ} → new.formulas ≡ old.formulas → IsReduced old set new reduced →
    (f : NormalFormula) → Contains (formulas_in new reduced) f → Contains (formulas_in old set) f
reduced_fewer {old} {new} {set} {reduced} formulas is f there =
    let k = from_map (normal_formula_at new.formulas) (indices_in new.sets reduced) f there in
    let same : normal_formula_at old.formulas k.0 ≡ f =
    ap (λ (nodes : List NormalNode). normal_formula_at nodes k.0) (sym formulas) ∙ k.2 in
    subst (λ (h : NormalFormula). Contains (formulas_in old set) h) same
    (in_map (normal_formula_at old.formulas) (indices_in old.sets set) k.0 (is.fewer k.0 k.1))

-- ## Covers

-- a cover whose next obligations are some of another's, and bring all of them
pub pruned_reduced : (a c : Cover) → ((letter : ℕ) → IsTrue (a.guard letter) → IsTrue (c.guard letter)) →
    ((letter : ℕ) → IsTrue (c.guard letter) → IsTrue (a.guard letter)) →
    ((f : NormalFormula) → Contains c.next f → Contains a.next f) →
    ((f : NormalFormula) → Contains a.next f → Brings (Contains c.next) f) → c.postponed ≡ a.postponed →
    ArePruned (a ∷ []) (c ∷ [])
pruned_reduced a c there back fewer brings postponed = record {
  sound = λ d letter one serves.
      let is = in_one c d one in
      let on = subst (λ (e : Cover). IsTrue (e.guard letter)) (sym is) serves in
      let better : IsBetter a c letter = record {
        serves = back letter on;
        next = brings;
        postponed = λ f asked. subst (λ (fs : List NormalFormula). Contains fs f) (sym postponed) asked;
      } in
      (a, first_in a [], subst (λ (e : Cover). IsBetter a e letter) is better);
  complete = λ d letter one serves.
      let is = in_one a d one in
      let on = subst (λ (e : Cover). IsTrue (e.guard letter)) (sym is) serves in
      let better : IsBetter c a letter = record {
        serves = there letter on;
        next = λ f asked. of_known (fewer f asked);
        postponed = λ f asked. subst (λ (fs : List NormalFormula). Contains fs f) postponed asked;
      } in
      (c, first_in c [], subst (λ (e : Cover). IsBetter c e letter) is better);
}

-- one more cover is reduced and added
pub reduced_edge_more : {old mid next new : Board} {edge reduced : Edge} (edges : List Edge) {kept more : List Edge} →
    Grows old mid → Grows mid next → IsEdgeOf old edge → MakesEdges mid (ArePruned (covers_of old edges)) kept →
    Makes next (λ c. ArePruned (cover_of mid edge ∷ []) (c ∷ [])) reduced →
    MakesEdges new (ArePruned (covers_of next kept ++ cover_of next reduced ∷ [])) more →
    MakesEdges new (ArePruned (covers_of old (edges ++ edge ∷ []))) more
reduced_edge_more {old} {mid} {next} {new} {edge} {reduced} edges {kept} {more} before after here made one last =
    let first = subst (λ (cs : List Cover). ArePruned (covers_of old edges) cs) (sym (covers_kept after kept made.held))
    made.right in
    let second = subst (λ (c : Cover). ArePruned (c ∷ []) (cover_of next reduced ∷ [])) (cover_kept before here)
    one.right in
    let both = pruned_both (covers_of old edges) (covers_of next kept) (cover_of old edge ∷ [])
    (cover_of next reduced ∷ []) first second in
    record {
      held = last.held;
      right = subst (λ (cs : List Cover). ArePruned cs (covers_of new more))
          (sym (map-append (cover_of old) edges (edge ∷ []))) (pruned_trans both last.right);
    }
