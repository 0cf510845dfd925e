use Rattle.std.proofs.Common.{◌∷◌, [], ℕ, Option, refl, subst, sym}
use Rattle.std.specs.List.{Contains}
use Rattle.std.specs.Prelude.{IsTrue, is_some}
use Rattle.ps_diagram.specs.Table.{leaf_of}
use Rattle.ps_tableau.proofs.BoardLemmas.{cover_with, made_of, state_kept, untils_kept}
use Rattle.ps_tableau.proofs.CoversOfSets.PruneLemmas.{first_guard, one_guard, pruned_one, second_guard}
use Rattle.ps_tableau.specs.Boards.{cover_of, formulas_in}
use Rattle.ps_tableau.specs.Covers.{Cover}
use Rattle.ps_tableau.specs.Operators.{ArePruned}
use Rattle.ps_tableau.specs.declared.edge.Edge.{Edge}
use Rattle.ps_tableau.proofs.pruning.one_of_both.Goals as goal

pub returns : goal.returns
returns c =
    let b = c.args.board.now in
    let s = b.guards in
    let edge = c.args.edge in
    let other = c.args.other in
    let held = c.requires.both.first in
    let grows = c.choose.ensures.grows in
    let guard = c.in_ok-guard.guard in
    let one : Edge = record edge { guard = guard } in
    let serves = λ (letter : ℕ). is_some (leaf_of c.choose.new.self.guards guard letter) in
    let is = c.in_ok-guard.ensures.node.leaf in
    let now = pruned_one (cover_of b edge) (cover_of b other)
    (made_of serves (cover_of b edge).next (cover_of b edge).postponed)
    (record { next = λ f h. h; postponed = λ f h. h }) (record { next = λ f h. h; postponed = λ f h. h }) (record {
      next = λ f h. subst (λ set. Contains (formulas_in b set) f) c.requires.next h;
      postponed = λ f h. subst (λ set. Contains (formulas_in b set) f) c.requires.postponed h;
    }) (record {
      next = λ f h. subst (λ set. Contains (formulas_in b set) f) (sym c.requires.next) h;
      postponed = λ f h. subst (λ set. Contains (formulas_in b set) f) (sym c.requires.postponed) h;
    }) (λ letter serves. one_guard (leaf_of s edge.guard letter) (leaf_of s other.guard letter)
    (subst (λ (l : Option ℕ). IsTrue (is_some l)) (is letter) serves))
    (λ letter serves. subst (λ (l : Option ℕ). IsTrue (is_some l)) (sym (is letter))
    (first_guard (leaf_of s edge.guard letter) (leaf_of s other.guard letter) serves))
    (λ letter serves. subst (λ (l : Option ℕ). IsTrue (is_some l)) (sym (is letter))
    (second_guard (leaf_of s edge.guard letter) (leaf_of s other.guard letter) serves)) in
    record {
      grows = grows;
      made = record {
        held = record {
          guard = c.in_ok-guard.ensures.node.held;
          next = state_kept grows held.next;
          postponed = untils_kept grows held.postponed;
        };
        right = subst (λ (d : Cover). ArePruned (cover_of b edge ∷ cover_of b other ∷ []) (d ∷ []))
            (sym (cover_with one serves grows held.next.held held.postponed.held refl)) now;
      };
    }
