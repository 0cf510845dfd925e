use Rattle.std.proofs.Common.{[], ◌∷◌, ◌++◌, sym, ◌∙◌}
use Rattle.ps_tableau.proofs.BoardLemmas.{gives_last, grows_refl}
use Rattle.ps_tableau.proofs.CoversOfSets.Products.{pruned_refl}
use Rattle.ps_tableau.proofs.CoversOfSets.PruneSteps.{held_at, left_one}
use Rattle.ps_tableau.specs.Boards.{IsEdgeOf, cover_of, covers_of}
use Rattle.ps_tableau.proofs.pruning.left_at.Goals as goal

pub left_of-requires : goal.left_of-requires
left_of-requires c = record {
  first = c.requires.edge;
  second = held_at (IsEdgeOf c.args.board.now) c.args.others.now c.args.place c.requires.others
      (sym c.cover_at.ensures ∙ c.in-Some.is);
}

pub returns-in-Some : goal.returns-in-Some
returns-in-Some c = gives_last c.left_of.result c.left_of.ensures.grows c.left_of.ensures.made (λ left made. record {
  held = made.held;
  right = left_one c.args.board.now c.args.others.now c.args.place c.args.edge (cover_of c.left_of.new.board left)
      (sym c.cover_at.ensures ∙ c.in-Some.is) made.right;
})

pub returns : goal.returns
returns c =
    let b = c.args.board.now in
    record {
      grows = grows_refl b c.parts_fit.ensures.sets;
      made = record {
        held = c.requires.edge;
        right = pruned_refl (covers_of b c.args.others.now ++ cover_of b c.args.edge ∷ []);
      };
    }
