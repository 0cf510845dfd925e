use Rattle.std.proofs.Common.{[], ◌∷◌, ◌++◌}
use Rattle.ps_tableau.proofs.BoardLemmas.{fails, grows_refl, grows_trans}
use Rattle.ps_tableau.proofs.CoversOfSets.CoverRows.{edges_kept}
use Rattle.ps_tableau.proofs.CoversOfSets.Products.{pruned_refl}
use Rattle.ps_tableau.proofs.CoversOfSets.PruneSteps.{left_next}
use Rattle.ps_tableau.specs.Boards.{cover_of, covers_of}
use Rattle.ps_tableau.proofs.pruning.left_beside.Goals as goal

pub loop-place-init : goal.loop-place-init
loop-place-init c =
    let b = c.args.board.now in
    record {
      grows = grows_refl b c.parts_fit.ensures.sets;
      left = c.requires.edge;
      pruned = pruned_refl (covers_of b c.args.others.now ++ cover_of b c.args.edge ∷ []);
    }

pub left_at-requires-clause-others : goal.left_at-requires-clause-others
left_at-requires-clause-others c = edges_kept c.loop-place.invariant.grows c.args.others.now c.requires.others

pub returns-in_err-left : goal.returns-in_err-left
returns-in_err-left c =
    fails _ c.from_residual.result (grows_trans c.loop-place.invariant.grows c.left_at.ensures.grows)
    c.from_residual.ensures.1

pub loop-place-preserved : goal.loop-place-preserved
loop-place-preserved c =
    let v = c.loop-place.invariant in
    let made = c.in_ok-left.ensures.made in
    record {
      grows = grows_trans v.grows c.left_at.ensures.grows;
      left = made.held;
      pruned = left_next c.args.others.now c.loop-place.left (cover_of c.left_at.new.board c.in_ok-left.left) v.grows
          c.requires.others v.pruned made.right;
    }

pub returns : goal.returns
returns c =
    let v = c.loop-place.invariant in
    record { grows = v.grows; made = record { held = v.left; right = v.pruned } }
