use Rattle.std.proofs.Common.{◌≡◌, ◌∙◌, ◌+◌, ◌++◌, ◌∷◌, [], List, ap, arith, subst, sym, take}
use Rattle.std.proofs.lemmas.List.{take_all, take_more}
use Rattle.ps_tableau.proofs.BoardLemmas.{edge_kept, fails, gives_on, grows_trans}
use Rattle.ps_tableau.proofs.CoversOfSets.CoverRows.{edges_kept, item_held}
use Rattle.ps_tableau.proofs.CoversOfSets.PruneLemmas.{pruned_trans}
use Rattle.ps_tableau.proofs.CoversOfSets.PruneSteps.{united_end}
use Rattle.ps_tableau.proofs.CoversOfSets.ReduceLemmas.{reduced_edge_more}
use Rattle.ps_tableau.specs.Boards.{IsEdgeOf, MakesEdges, covers_of}
use Rattle.ps_tableau.specs.Operators.{ArePruned}
use Rattle.ps_tableau.specs.declared.edge.Edge.{Edge}
use Rattle.ps_tableau.proofs.reduction.reduced.Goals as goal

pub reduced_edge-requires : goal.reduced_edge-requires
reduced_edge-requires c = edge_kept c.loop-edge.invariant.grows (item_held (IsEdgeOf c.args.board.now)
    c.args.edges.now c.loop-edge.edge-index c.edge-item.result c.requires c.loop-edge-test.true c.edge-item.is)

pub loop-edge-preserved : goal.loop-edge-preserved
loop-edge-preserved c =
    let b = c.args.board.now in
    let edges = c.args.edges.now in
    let i = c.loop-edge.edge-index in
    let edge = c.edge-item.result in
    let v = c.loop-edge.invariant in
    let held = item_held (IsEdgeOf b) edges i edge c.requires c.loop-edge-test.true c.edge-item.is in
    let longer : take (i + 1) edges ≡ take i edges ++ edge ∷ [] =
    take_more edges i edge c.loop-edge-test.true ∙ ap (λ (e : Edge). take i edges ++ e ∷ []) (sym c.edge-item.is) in
    let made = c.in_ok-one.ensures.made in
    let last = united_end c.loop-edge.reduced.items
    (edges_kept c.reduced_edge.ensures.grows c.loop-edge.reduced.items v.reduced.held) made.held
    c.in_ok-push.ensures.items in
    record {
      grows = grows_trans v.grows c.reduced_edge.ensures.grows;
      reduced = subst
          (λ (es : List Edge). MakesEdges c.reduced_edge.new.board (ArePruned (covers_of b es)) c.push.new.self.items)
          (sym longer) (reduced_edge_more (take i edges) v.grows c.reduced_edge.ensures.grows held v.reduced made last);
    }

pub returns-in_err-one : goal.returns-in_err-one
returns-in_err-one c =
    fails _ c.from_residual.result (grows_trans c.loop-edge.invariant.grows c.reduced_edge.ensures.grows)
    c.from_residual.ensures.1

pub returns-in_err-push : goal.returns-in_err-push
returns-in_err-push c =
    fails _ c.from_residual-in_err-push.result (grows_trans c.loop-edge.invariant.grows c.reduced_edge.ensures.grows)
    c.from_residual-in_err-push.ensures.1

pub returns : goal.returns
returns c = gives_on c.pruned.result c.loop-edge.invariant.grows c.pruned.ensures (λ out made.
    let b = c.args.board.now in
    let mid = c.loop-edge.board in
    let edges = c.args.edges.now in
    let whole : take c.loop-edge.edge-index edges ≡ edges = take_all c.loop-edge.edge-index edges (omega arith) in
    let first = subst (λ (es : List Edge). ArePruned (covers_of b es) (covers_of mid c.loop-edge.reduced.items)) whole
    c.loop-edge.invariant.reduced.right in
    let second = subst (λ (es : List Edge). ArePruned (covers_of mid es) (covers_of c.pruned.new.board out.items))
    c.deref.ensures.value made.right in
    record { held = made.held; right = pruned_trans first second })
