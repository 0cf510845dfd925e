-- Marks of the stored product.
use Rattle.std.proofs.Common.{◌≡◌, ◌↔◌, ℕ, Bool, true, false, List, None, Option, Some, not, refl, sym, ◌∙◌}
use Rattle.std.specs.List.{Contains}
use Rattle.std.specs.Option.{option_map}
use Rattle.std.proofs.lemmas.List.{get_or_default}
use Rattle.ps_formula.specs.NormalForms.{normal_formula_at}
use Rattle.ps_hoa.specs.Files.{is_among}
use Rattle.ps_product.proofs.CircuitFunctions.RoleLemmas.{not_among_at}
use Rattle.ps_tableau.proofs.CoversOfSets.JoinLemmas.{in_map}
use Rattle.ps_tableau.proofs.CoversOfSets.WayLemmas.{formula_in}
use Rattle.ps_simulate.proofs.NamingLemmas.{some_same}
use Rattle.ps_tableau.specs.Boards.{IsBoard, IsEdgeOf, IsSetOf, formulas_in}
use Rattle.ps_tableau.specs.Sets.{indices_in}
use Rattle.ps_tableau.specs.declared.board.Board.{Board}
use Rattle.ps_tableau.specs.declared.edge.Edge.{Edge}
use Rattle.ps_machine.proofs.Machines.Listing.{there_among, among_there}

among_by : (p : ℕ) (list : List ℕ) (b : Bool) → is_among p list ≡ b → Contains list p → b ≡ true
among_by p list true e there = refl
among_by p list false e there =
    absurd (not_among_at p list e there.0 there.1 (get_or_default list there.0 0 p there.1 ∙ there.2))

-- a test whether an edge postpones an until agrees with the search among the set's formulas
postponed_by : {b : Board} (set until : ℕ) → IsBoard b → IsSetOf (Contains b.untils.items) b set →
    Contains b.untils.items until → (r s : Bool) → is_among until (indices_in b.sets set) ≡ s →
    ((r ≡ true) ↔ Contains (formulas_in b set) (normal_formula_at b.formulas until)) → r ≡ s
postponed_by {b} set until board all known true s e same =
    sym (among_by until (indices_in b.sets set) s e (formula_in b board set until all known (same.0 refl)))
postponed_by {b} set until board all known false true e same =
    same.1 (in_map (normal_formula_at b.formulas) (indices_in b.sets set) until
    (among_there until (indices_in b.sets set) e))
postponed_by {b} set until board all known false false e same = refl

pub postponed_is : {b : Board} (set until : ℕ) → IsBoard b → IsSetOf (Contains b.untils.items) b set →
    Contains b.untils.items until → (r : Bool) →
    ((r ≡ true) ↔ Contains (formulas_in b set) (normal_formula_at b.formulas until)) →
    r ≡ is_among until (indices_in b.sets set)
postponed_is {b} set until board all known r same =
    postponed_by set until board all known r (is_among until (indices_in b.sets set)) refl same

-- an edge's set of postponed untils is searched by their indices
pub among_postponed : {b : Board} → IsBoard b → (cover : Edge) (until : ℕ) → IsEdgeOf b cover →
    Contains b.untils.items until → (is_among until (indices_in b.sets cover.postponed) ≡ true)
    ↔ Contains (formulas_in b cover.postponed) (normal_formula_at b.formulas until)
among_postponed {b} board cover until held known = (
  λ e. in_map (normal_formula_at b.formulas) (indices_in b.sets cover.postponed) until
      (among_there until (indices_in b.sets cover.postponed) e),
  λ there. there_among until (indices_in b.sets cover.postponed)
      (formula_in b board cover.postponed until held.postponed known there),
)

-- what is not postponed bears the mark
pub not_true : (P : Type 0) (r : Bool) → ((r ≡ true) ↔ P) → (not r ≡ true) ↔ (P → ⊥)
not_true P true same = (λ e p. cc, λ none. absurd (none (same.0 refl)))
not_true P false same = (λ e p. let h = same.1 p in cc, λ none. refl)

-- a target is that of a stored edge
pub target_of : {X : Type 0} (to : X → ℕ) (o : Option X) (w : ℕ) → option_map to o ≡ Some w →
    (x : X) × (o ≡ Some x) × (to x ≡ w)
target_of to None w e = absurd (cc)
target_of to (Some x) w e = (x, refl, some_same (to x) w e)
