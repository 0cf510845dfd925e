use Rattle.std.proofs.Common.{◌≡◌, ◌∙◌, ◌++◌, List, ap, subst}
use Rattle.std.proofs.lemmas.List.{map-append}
use Rattle.std.proofs.lemmas.List.Elements.{All-append, All-same}
use Rattle.ps_tableau.proofs.BoardLemmas.{gives_last}
use Rattle.ps_tableau.specs.Boards.{IsEdgeOf, cover_of, covers_of}
use Rattle.ps_tableau.specs.Covers.{Cover}
use Rattle.ps_tableau.specs.Operators.{ArePruned}
use Rattle.ps_tableau.proofs.joins.either.Goals as goal

pub pruned-requires : goal.pruned-requires
pruned-requires c =
    let P = IsEdgeOf c.args.board.now in
    All-same P _ (c.args.first.now ++ c.args.second.now) (c.deref.ensures.value ∙ c.in_ok-all.ensures)
    (All-append P c.args.first.now c.args.second.now c.requires.first c.requires.second)

pub returns : goal.returns
returns c = gives_last c.pruned.result c.pruned.ensures.grows c.pruned.ensures.made (λ out made.
    let b = c.args.board.now in
    let first = c.args.first.now in
    let second = c.args.second.now in
    let whole : covers_of b c.deref.result.now ≡ covers_of b first ++ covers_of b second =
    ap (covers_of b) (c.deref.ensures.value ∙ c.in_ok-all.ensures) ∙ map-append (cover_of b) first second in
    record {
      held = made.held;
      right =
          subst (λ (cs : List Cover). ArePruned cs (covers_of c.pruned.new.board out.items)) whole made.right;
    })
