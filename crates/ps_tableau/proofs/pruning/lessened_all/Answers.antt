use Rattle.std.proofs.Common.{◌≡◌, ◌∙◌, ◌+◌, ◌++◌, ◌∷◌, [], List, ap, arith, subst, sym, take}
use Rattle.std.proofs.lemmas.List.{take_all, take_more}
use Rattle.ps_tableau.proofs.BoardLemmas.{edge_kept, fails, grows_trans}
use Rattle.ps_tableau.proofs.CoversOfSets.PruneSteps.{left_added, pushed_edge}
use Rattle.ps_tableau.proofs.CoversOfSets.CoverRows.{item_held}
use Rattle.ps_tableau.specs.Boards.{IsEdgeOf, MakesEdges, cover_of, covers_of}
use Rattle.ps_tableau.specs.Covers.{Cover}
use Rattle.ps_tableau.specs.Inner.Pruning.{Makes}
use Rattle.ps_tableau.specs.Operators.{ArePruned}
use Rattle.ps_tableau.specs.declared.edge.Edge.{Edge}
use Rattle.ps_tableau.proofs.pruning.lessened_all.Goals as goal

pub sketch_of-sketch-requires : goal.sketch_of-sketch-requires
sketch_of-sketch-requires c = (edge_kept c.loop-edge.invariant.grows (item_held (IsEdgeOf c.args.board.now)
    c.args.edges.now c.loop-edge.edge-index c.edge-item.result c.requires c.loop-edge-test.true c.edge-item.is)).guard

pub left_beside-requires-clause-edge : goal.left_beside-requires-clause-edge
left_beside-requires-clause-edge c = edge_kept c.loop-edge.invariant.grows (item_held (IsEdgeOf c.args.board.now)
    c.args.edges.now c.loop-edge.edge-index c.edge-item.result c.requires c.loop-edge-test.true c.edge-item.is)

pub returns-in_err-left : goal.returns-in_err-left
returns-in_err-left c =
    fails _ c.from_residual-in_err-left.result (grows_trans c.loop-edge.invariant.grows c.left_beside.ensures.grows)
    c.from_residual-in_err-left.ensures.1

pub returns-in_err-add_edge : goal.returns-in_err-add_edge
returns-in_err-add_edge c =
    fails _ c.from_residual-in_err-add_edge.result (grows_trans (grows_trans c.loop-edge.invariant.grows
    c.left_beside.ensures.grows) c.add_edge.ensures.grows) c.from_residual-in_err-add_edge.ensures.1

pub loop-edge-preserved : goal.loop-edge-preserved
loop-edge-preserved c =
    let b = c.args.board.now in
    let mid = c.loop-edge.board in
    let edges = c.args.edges.now in
    let i = c.loop-edge.edge-index in
    let edge = c.edge-item.result in
    let v = c.loop-edge.invariant in
    let held = item_held (IsEdgeOf b) edges i edge c.requires c.loop-edge-test.true c.edge-item.is in
    let longer : take (i + 1) edges ≡ take i edges ++ edge ∷ [] =
    take_more edges i edge c.loop-edge-test.true ∙ ap (λ (e : Edge). take i edges ++ e ∷ []) (sym c.edge-item.is) in
    let left = subst (λ (es : List Edge). Makes c.left_beside.new.board (λ (d : Cover). ArePruned
    (covers_of mid es ++ cover_of mid edge ∷ []) (covers_of mid es ++ d ∷ [])) c.in_ok-left.left)
    c.deref.ensures.value c.in_ok-left.ensures.made in
    let last = left_added edge c.left_beside.ensures.grows c.add_edge.ensures.grows v.pruned.held left
    c.in_ok-add_edge.ensures.made in
    record {
      grows = grows_trans (grows_trans v.grows c.left_beside.ensures.grows) c.add_edge.ensures.grows;
      pruned = subst
          (λ (es : List Edge). MakesEdges c.add_edge.new.board (ArePruned (covers_of b es)) c.add_edge.new.kept.items)
          (sym longer) (pushed_edge (take i edges) v.grows held v.pruned last);
    }

pub returns : goal.returns
returns c =
    let edges = c.args.edges.now in
    let whole : take c.loop-edge.edge-index edges ≡ edges = take_all c.loop-edge.edge-index edges (omega arith) in
    record {
      grows = c.loop-edge.invariant.grows;
      made = subst (λ (es : List Edge). MakesEdges c.loop-edge.board (ArePruned (covers_of c.args.board.now es))
          c.loop-edge.kept.items) whole c.loop-edge.invariant.pruned;
    }
