use Rattle.std.proofs.Common.{sym, take}
use Rattle.std.proofs.lemmas.List.{take_more}
use Rattle.ps_sentences.proofs.ConjunctionLemmas.{joined_at, joined_more, joined_none}
use Rattle.ps_sentences.proofs.GrownLemmas.{all_at, still_in}
use Rattle.ps_sentences.proofs.joining.merged.Goals as goal

pub loop-formula-init : goal.loop-formula-init
loop-formula-init c = joined_none c.in_ok-all.ensures.ok c.in_ok-all.ensures.table

pub both-requires : goal.both-requires
both-requires c =
    let low = all_at _ c.args.formulas.now c.loop-formula.formula-index 0 c.requires c.loop-formula-test.true in
    record {
      first = c.loop-formula.invariant.there;
      second = still_in c.loop-formula.invariant.grows _ low;
    }

pub loop-formula-preserved : goal.loop-formula-preserved
loop-formula-preserved c =
    let formulas = c.args.formulas.now in
    let k = c.loop-formula.formula-index in
    let low = all_at _ formulas k 0 c.requires c.loop-formula-test.true in
    joined_at (sym (take_more formulas k 0 c.loop-formula-test.true))
    (joined_more (take k formulas) c.loop-formula.invariant low c.in_ok-all-2.ensures)
