use Rattle.std.proofs.Common.{◌∷◌, [], ℕ, Option, inl, inr, refl, subst, sym}
use Rattle.std.specs.Prelude.{IsTrue, is_some}
use Rattle.ps_diagram.specs.Table.{leaf_of}
use Rattle.ps_tableau.proofs.BoardLemmas.{cover_with, fails, grows_trans, made_of, state_kept, untils_kept}
use Rattle.ps_tableau.proofs.CoversOfSets.PruneLemmas.{less_guard, less_or, pruned_two}
use Rattle.ps_tableau.proofs.CoversOfSets.CoverRows.{guard_less}
use Rattle.ps_tableau.specs.Boards.{cover_of}
use Rattle.ps_tableau.specs.Covers.{Cover}
use Rattle.ps_tableau.specs.Operators.{ArePruned}
use Rattle.ps_tableau.specs.declared.edge.Edge.{Edge}
use Rattle.ps_tableau.proofs.pruning.lessened.Goals as goal

pub choose-requires-clause-guard : goal.choose-requires-clause-guard
choose-requires-clause-guard c =
    c.no_letter.ensures.grows.guards.held c.args.other.guard c.requires.both.second.guard

pub choose-requires-clause-other : goal.choose-requires-clause-other
choose-requires-clause-other c =
    c.no_letter.ensures.grows.guards.held c.args.edge.guard c.requires.both.first.guard

pub returns-in_err-guard : goal.returns-in_err-guard
returns-in_err-guard c =
    fails _ c.from_residual-in_err-guard.result (grows_trans c.no_letter.ensures.grows c.choose.ensures.grows)
    c.from_residual-in_err-guard.ensures.1

pub returns : goal.returns
returns c =
    let b = c.args.board.now in
    let s = b.guards in
    let edge = c.args.edge in
    let other = c.args.other in
    let held = c.requires.both.first in
    let grows = grows_trans c.no_letter.ensures.grows c.choose.ensures.grows in
    let guard = c.in_ok-guard.guard in
    let left : Edge = record edge { guard = guard } in
    let serves = λ (letter : ℕ). is_some (leaf_of c.choose.new.self.guards guard letter) in
    let is = guard_less s c.no_letter.new.self.guards c.choose.new.self.guards edge.guard other.guard
    c.in_ok-none.none guard c.no_letter.ensures.grows.guards held.guard c.requires.both.second.guard
    c.in_ok-none.ensures.node.leaf c.in_ok-guard.ensures.node.leaf in
    let now = pruned_two (cover_of b edge) (cover_of b other)
    (made_of serves (cover_of b edge).next (cover_of b edge).postponed) c.requires.less
    (record { next = λ f h. h; postponed = λ f h. h }) (record { next = λ f h. h; postponed = λ f h. h })
    (λ letter serves. less_guard (leaf_of s other.guard letter) (leaf_of s edge.guard letter)
    (subst (λ (l : Option ℕ). IsTrue (is_some l)) (is letter) serves))
    (λ letter serves. elim (less_or (leaf_of s other.guard letter) (leaf_of s edge.guard letter) serves) [
      | inl l ↦ inl l
      | inr r ↦ inr (subst (λ (l : Option ℕ). IsTrue (is_some l)) (sym (is letter)) r)
    ]) in
    record {
      grows = grows;
      made = record {
        held = record {
          guard = c.in_ok-guard.ensures.node.held;
          next = state_kept grows held.next;
          postponed = untils_kept grows held.postponed;
        };
        right = subst
            (λ (d : Cover). ArePruned (cover_of b edge ∷ cover_of b other ∷ []) (d ∷ cover_of b other ∷ []))
            (sym (cover_with left serves grows held.next.held held.postponed.held refl)) now;
      };
    }
