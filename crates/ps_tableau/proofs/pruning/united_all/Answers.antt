use Rattle.std.proofs.Common.{◌≡◌, ◌∙◌, ◌+◌, ◌-◌, ◌<◌, ◌∷◌, List, ap, arith, drop, length, subst, sym}
use Rattle.std.proofs.lemmas.List.{drop_more}
use Rattle.ps_tableau.proofs.BoardLemmas.{edge_kept, fails, grows_trans}
use Rattle.ps_tableau.proofs.CoversOfSets.CoverRows.{item_held}
use Rattle.ps_tableau.proofs.CoversOfSets.PruneSteps.{pushed_front}
use Rattle.ps_tableau.specs.Boards.{IsEdgeOf, MakesEdges, covers_of}
use Rattle.ps_tableau.specs.Operators.{ArePruned}
use Rattle.ps_tableau.specs.declared.edge.Edge.{Edge}
use Rattle.ps_tableau.proofs.pruning.united_all.Goals as goal

pub unite-requires-clause-edge : goal.unite-requires-clause-edge
unite-requires-clause-edge c =
    let edges = c.args.edges.now in
    let place = c.loop-place.place - 1 in
    let within : place < length edges = omega arith in
    edge_kept c.loop-place.invariant.grows
    (item_held (IsEdgeOf c.args.board.now) edges place c.index-edges-place.result c.requires within
    c.index-edges-place.is)

pub returns-in_err-unite : goal.returns-in_err-unite
returns-in_err-unite c =
    fails _ c.from_residual.result (grows_trans c.loop-place.invariant.grows c.unite.ensures.grows)
    c.from_residual.ensures.1

pub loop-place-preserved : goal.loop-place-preserved
loop-place-preserved c =
    let b = c.args.board.now in
    let edges = c.args.edges.now in
    let place = c.loop-place.place - 1 in
    let edge = c.index-edges-place.result in
    let v = c.loop-place.invariant in
    let next : place + 1 ≡ c.loop-place.place = omega arith in
    let within : place < length edges = omega arith in
    let held = item_held (IsEdgeOf b) edges place edge c.requires within c.index-edges-place.is in
    let longer : drop place edges ≡ edge ∷ drop (place + 1) edges =
    drop_more edges place edge within ∙ ap (λ (e : Edge). e ∷ drop (place + 1) edges) (sym c.index-edges-place.is) in
    let before : MakesEdges c.loop-place.board (ArePruned (covers_of b (drop (place + 1) edges)))
    c.loop-place.united.items = rw next v.united in
    record {
      grows = grows_trans v.grows c.unite.ensures.grows;
      united = subst
          (λ (es : List Edge). MakesEdges c.unite.new.board (ArePruned (covers_of b es)) c.unite.new.united.items)
          (sym longer)
          (pushed_front (drop (place + 1) edges) v.grows held before c.in_ok-unite.ensures.made);
    }

pub returns : goal.returns
returns c =
    let end : c.loop-place.place ≡ 0 = omega arith in
    record {
      grows = c.loop-place.invariant.grows;
      made = subst (λ n. MakesEdges c.loop-place.board
          (ArePruned (covers_of c.args.board.now (drop n c.args.edges.now))) c.loop-place.united.items) end
          c.loop-place.invariant.united;
    }
