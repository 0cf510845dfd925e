use Rattle.std.proofs.Common.{◌≡◌, ◌∙◌, ◌+◌, ◌++◌, ◌∷◌, [], List, ap, arith, sym, subst, take}
use Rattle.std.proofs.lemmas.List.{take_all, take_more}
use Rattle.ps_tableau.proofs.BoardLemmas.{edge_kept, fails, grows_trans}
use Rattle.ps_tableau.proofs.CoversOfSets.CoverRows.{item_held, row_more}
use Rattle.ps_tableau.specs.Boards.{IsEdgeOf}
use Rattle.ps_tableau.specs.Inner.Joins.{AddsRow}
use Rattle.ps_tableau.specs.declared.edge.Edge.{Edge}
use Rattle.ps_tableau.proofs.joins.add_row.Goals as goal

pub add_join-requires : goal.add_join-requires
add_join-requires c = record {
  first = edge_kept c.loop-other.invariant.grows c.requires.edge;
  second = edge_kept c.loop-other.invariant.grows
      (item_held (IsEdgeOf c.args.board.now) c.args.others.now c.loop-other.other-index
      c.other-item.result c.requires.others c.loop-other-test.true c.other-item.is);
}

pub returns-in_err-add_join : goal.returns-in_err-add_join
returns-in_err-add_join c =
    fails _ c.from_residual.result (grows_trans c.loop-other.invariant.grows c.add_join.ensures.grows)
    c.from_residual.ensures.1

pub loop-other-preserved : goal.loop-other-preserved
loop-other-preserved c =
    let others = c.args.others.now in
    let i = c.loop-other.other-index in
    let other = c.other-item.result in
    let held = item_held (IsEdgeOf c.args.board.now) c.args.others.now c.loop-other.other-index
    c.other-item.result c.requires.others c.loop-other-test.true c.other-item.is in
    let longer : take (i + 1) others ≡ take i others ++ other ∷ [] =
    take_more others i other c.loop-other-test.true
    ∙ ap (λ (e : Edge). take i others ++ e ∷ []) (sym c.other-item.is) in
    record {
      grows = grows_trans c.loop-other.invariant.grows c.add_join.ensures.grows;
      row = subst (λ (es : List Edge).
          AddsRow c.args.board.now c.add_join.new.board c.args.edge.now es c.args.joins.now.items
          c.add_join.new.joins.items)
          (sym longer) (row_more c.requires.edge held c.loop-other.invariant.grows c.add_join.ensures.grows
          c.loop-other.invariant.row c.in_ok-add_join.ensures.made);
    }

pub returns : goal.returns
returns c =
    let others = c.args.others.now in
    let whole : take c.loop-other.other-index others ≡ others =
    take_all c.loop-other.other-index others (omega arith) in
    record {
      grows = c.loop-other.invariant.grows;
      made = subst (λ (es : List Edge).
          AddsRow c.args.board.now c.loop-other.board c.args.edge.now es c.args.joins.now.items
          c.loop-other.joins.items) whole c.loop-other.invariant.row;
    }
