-- The states of a board with their edges are a tableau.
use Rattle.std.proofs.Common.{◌≡◌, ℕ, ◌<◌, List, length, map, get_or, sym, subst, ◌∙◌, arith}
use Rattle.std.specs.Prelude.{Contains, Some, slice_get}
use Rattle.std.proofs.lemmas.List.{get_or-map, get_or_default, length-map}
use Rattle.std.proofs.lemmas.Option.{get_or_from_slice_get, slice_get_within}
use Rattle.ps_formula.specs.Formulas.{Formula}
use Rattle.ps_formula.specs.NormalForms.{normal_formula_at}
use Rattle.ps_tableau.specs.Boards.{IsEdgeOf, IsTableauOf, cover_of, formulas_in}
use Rattle.ps_tableau.specs.Covers.{Cover, SatisfiesAll}
use Rattle.ps_tableau.specs.Runs.{IsPartialTableau}
use Rattle.ps_tableau.specs.Sets.{indices_in}
use Rattle.ps_tableau.specs.declared.board.Board.{Board}
use Rattle.ps_tableau.specs.declared.edge.Edge.{Edge}
use Rattle.ps_tableau.proofs.CoversOfSets.JoinLemmas.{in_map}
use Rattle.ps_tableau_product.specs.BoardStates.{AreStatesOf, edges_of_state, tableau_of_states}
use Rattle.ps_tableau_product.specs.Products.{IsTableauFor}

-- an entry of a list made by a function is what the function makes of an entry
record IsMade {X Y : Type 0} (f : X → Y) (xs : List X) (y : Y) : Type 0 where
  entry : X
  there : Contains xs entry
  is : f entry ≡ y

made : {X Y : Type 0} (f : X → Y) (xs : List X) (y : Y) (d : X) → Contains (map f xs) y → IsMade f xs y
made f xs y d there =
    let k = there.0 in
    let within = there.1 in
    let low : k < length xs = omega (arith, length-map xs f) in
    record {
      entry = get_or xs k d;
      there = (k, low, get_or_default xs k (get_or xs k d) d low);
      is = sym (get_or-map f xs k d y low) ∙ there.2;
    }

no_edge_of : Edge
no_edge_of = record { guard = 0; next = 0; postponed = 0 }

module _ {b : Board} {sets : List ℕ} {edges : List (List Edge)} (states : AreStatesOf b sets edges) where
  held : (q : ℕ) (e : Edge) → q < length sets → Contains (edges_of_state edges q) e → IsEdgeOf b e
  held q e low there = subst (IsEdgeOf b) there.2 ((states.exact q low).held there.0 e there.1)

  pub is_tableau : IsPartialTableau (tableau_of_states b sets edges)
  is_tableau = record {
    exact = λ q low. (states.exact q low).right;
    untils = λ q c f low there postponed.
        (let edge = made (cover_of b) (edges_of_state edges q) c no_edge_of there in
        let among : Contains (formulas_in b edge.entry.postponed) f =
        subst (λ (cover : Cover). Contains cover.postponed f) (sym edge.is) postponed in
        let index = made (normal_formula_at b.formulas) (indices_in b.sets edge.entry.postponed) f 0 among in
        let is_until = (held q edge.entry low edge.there).postponed.each index.entry index.there in
        subst (Contains (map (normal_formula_at b.formulas) b.untils.items)) index.is
        (in_map (normal_formula_at b.formulas) b.untils.items index.entry is_until));
  }

  pub is_tableau_for : (f : Formula) → IsTableauOf b f → slice_get sets 0 ≡ Some b.initial →
      IsTableauFor (tableau_of_states b sets edges) 0 f
  is_tableau_for f is_of first =
      let same : get_or sets 0 0 ≡ b.initial = get_or_from_slice_get sets 0 b.initial 0 first in
      record {
        tableau = is_tableau;
        within = slice_get_within sets 0 b.initial first;
        same = λ w i decided. (
          λ all. (is_of.same w i decided).0 (subst (λ (set : ℕ). SatisfiesAll (formulas_in b set) w i) same all),
          λ holds.
              subst (λ (set : ℕ). SatisfiesAll (formulas_in b set) w i) (sym same) ((is_of.same w i decided).1 holds),
        );
      }
