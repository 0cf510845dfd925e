use Rattle.std.proofs.Common.{◌≡◌, ◌∙◌, ◌+◌, ◌++◌, ◌∷◌, [], List, ap, arith, sym, subst, take}
use Rattle.std.proofs.lemmas.List.{take_all, take_more}
use Rattle.ps_tableau.proofs.BoardLemmas.{edge_kept, fails, grows_trans}
use Rattle.ps_tableau.proofs.CoversOfSets.CoverRows.{edges_kept, item_held, rows_more}
use Rattle.ps_tableau.specs.Boards.{IsEdgeOf, MakesEdges, covers_of}
use Rattle.ps_tableau.specs.Operators.{AreProducts}
use Rattle.ps_tableau.specs.declared.edge.Edge.{Edge}
use Rattle.ps_tableau.proofs.joins.products.Goals as goal

pub add_row-requires-clause-edge : goal.add_row-requires-clause-edge
add_row-requires-clause-edge c = edge_kept c.loop-edge.invariant.grows (item_held (IsEdgeOf c.args.board.now)
    c.args.first.now c.loop-edge.edge-index c.edge-item.result c.requires.first c.loop-edge-test.true c.edge-item.is)

pub add_row-requires-clause-others : goal.add_row-requires-clause-others
add_row-requires-clause-others c = edges_kept c.loop-edge.invariant.grows c.args.second.now c.requires.second

pub returns-in_err-add_row : goal.returns-in_err-add_row
returns-in_err-add_row c =
    fails _ c.from_residual.result (grows_trans c.loop-edge.invariant.grows c.add_row.ensures.grows)
    c.from_residual.ensures.1

pub loop-edge-preserved : goal.loop-edge-preserved
loop-edge-preserved c =
    let b = c.args.board.now in
    let first = c.args.first.now in
    let second = c.args.second.now in
    let i = c.loop-edge.edge-index in
    let edge = c.edge-item.result in
    let held = item_held (IsEdgeOf b) first i edge c.requires.first c.loop-edge-test.true c.edge-item.is in
    let longer : take (i + 1) first ≡ take i first ++ edge ∷ [] =
    take_more first i edge c.loop-edge-test.true ∙ ap (λ (e : Edge). take i first ++ e ∷ []) (sym c.edge-item.is) in
    record {
      grows = grows_trans c.loop-edge.invariant.grows c.add_row.ensures.grows;
      products = subst (λ (es : List Edge). MakesEdges c.add_row.new.board
          (AreProducts (covers_of b es) (covers_of b second)) c.add_row.new.joins.items) (sym longer)
          (rows_more (take i first) held c.requires.second c.loop-edge.invariant.grows c.add_row.ensures.grows
          c.loop-edge.invariant.products c.in_ok-add_row.ensures.made);
    }

pub returns : goal.returns
returns c =
    let b = c.args.board.now in
    let first = c.args.first.now in
    let whole : take c.loop-edge.edge-index first ≡ first = take_all c.loop-edge.edge-index first (omega arith) in
    record {
      grows = c.loop-edge.invariant.grows;
      made = subst (λ (es : List Edge). MakesEdges c.loop-edge.board
          (AreProducts (covers_of b es) (covers_of b c.args.second.now)) c.loop-edge.joins.items) whole
          c.loop-edge.invariant.products;
    }
