use Rattle.std.proofs.Common.{ℕ, Option, subst, sym}
use Rattle.std.specs.Prelude.{IsTrue, is_some}
use Rattle.ps_tableau.proofs.BoardLemmas.{formulas_kept, untils_kept}
use Rattle.ps_tableau.proofs.CoversOfSets.CoverRows.{kept_leaf}
use Rattle.ps_tableau.proofs.CoversOfSets.ReduceLemmas.{pruned_reduced, reduced_fewer}
use Rattle.ps_tableau.specs.Boards.{cover_of}
use Rattle.ps_tableau.proofs.reduction.reduced_edge.Goals as goal

pub returns : goal.returns
returns c =
    let b = c.args.board.now in
    let edge = c.args.edge.now in
    let held = c.requires in
    let grows = c.reduced_set.ensures.grows in
    let reduced = c.in_ok-next.ensures.made in
    let leaf =
    λ (letter : ℕ). kept_leaf b.guards c.reduced_set.new.board.guards edge.guard letter grows.guards held.guard in
    record {
      grows = grows;
      made = record {
        held = record {
          guard = grows.guards.held edge.guard held.guard;
          next = reduced.state;
          postponed = untils_kept grows held.postponed;
        };
        right = pruned_reduced (cover_of b edge) _
            (λ letter serves. subst (λ (l : Option ℕ). IsTrue (is_some l)) (sym (leaf letter)) serves)
            (λ letter serves. subst (λ (l : Option ℕ). IsTrue (is_some l)) (leaf letter) serves)
            (reduced_fewer grows.formulas reduced) reduced.brings (formulas_kept grows held.postponed.held);
      };
    }
