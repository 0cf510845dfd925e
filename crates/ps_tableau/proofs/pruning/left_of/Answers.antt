use Rattle.std.proofs.Common.{[], ◌∷◌}
use Rattle.ps_tableau.proofs.BoardLemmas.{grows_refl}
use Rattle.ps_tableau.proofs.CoversOfSets.Products.{pruned_refl}
use Rattle.ps_tableau.specs.Boards.{cover_of}
use Rattle.ps_tableau.proofs.pruning.left_of.Goals as goal

pub returns : goal.returns
returns c =
    let b = c.args.board.now in
    record {
      grows = grows_refl b c.parts_fit.ensures.sets;
      made = record {
        held = c.requires.first;
        right = pruned_refl (cover_of b c.args.edge.now ∷ cover_of b c.args.other.now ∷ []);
      };
    }
