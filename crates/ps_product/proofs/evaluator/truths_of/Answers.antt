use Rattle.std.proofs.Common.{◌∙◌, false, get_or, sym, take}
use Rattle.std.proofs.lemmas.List.{take_more}
use Rattle.ps_diagram.proofs.NodeTables.Cells.{keeps_refl}
use Rattle.ps_diagram.proofs.NodeTables.KnownLemmas.{keeps_trans}
use Rattle.ps_product.proofs.CircuitFunctions.LiteralTruths.{along_kept, along_more, truth_along}
use Rattle.ps_product.proofs.CircuitFunctions.TruthLemmas.{learnt, ready_on}
use Rattle.ps_simulate.specs.declared.plan.Wire.{Wire}
use Rattle.ps_product.specs.Inner.Knowing.{Learns}
use Rattle.ps_product.proofs.evaluator.truths_of.Goals as goal
use Rattle.ps_product.proofs.evaluator.truths_of.Goals.{After-settle}

-- after one more variable has been evaluated, all nodes that the table of diagrams had at the start are still in it,
-- and each recorded function has the value of its variable (`Learns`)
settled : (c : After-settle) → Learns c.args.site c.args.truths.now c.settle.new.truths c.settle.new.known
settled c = learnt (keeps_trans c.loop-wire.invariant.learns.keeps c.settle.ensures.learns.keeps)
    c.settle.ensures.learns.knows

pub settle-requires-clause-ready : goal.settle-requires-clause-ready
settle-requires-clause-ready c = ready_on c.requires.ready c.loop-wire.invariant.learns

pub returns-in_err-settle-clause-learns : goal.returns-in_err-settle-clause-learns
returns-in_err-settle-clause-learns c = settled (goal.at.returns-in_err-settle-clause-learns c).After-settle

pub returns-in_err-push-clause-learns : goal.returns-in_err-push-clause-learns
returns-in_err-push-clause-learns c = settled (goal.at.returns-in_err-push-clause-learns c).After-settle

pub loop-wire-preserved : goal.loop-wire-preserved
loop-wire-preserved c =
    let s = c.args.site in
    let i = c.loop-wire.wire-index in
    let none : Wire = record { place = 0; is_negated = false } in
    let before = take i c.args.wires.now in
    let w = get_or c.args.wires.now i none in
    let truth = c.unwrap-truth.result in
    let made = c.along.result in
    let t = c.settle.new.truths in
    let at = c.settle.ensures.learns.knows.each w.place truth (sym c.get.ensures ∙ c.unwrap-truth.ensures) in
    record {
      learns = settled (goal.at.loop-wire-preserved c).After-settle;
      made = along_more s before c.loop-wire.made.items w made
          (along_kept s before c.loop-wire.made.items c.settle.ensures.learns.keeps c.loop-wire.invariant.made)
          (truth_along s w truth made (keeps_refl t) at (c.along.ensures.is_truth t at.is_truth)
          (λ letter lt. c.along.ensures.truth t letter))
          (take_more c.args.wires.now i none c.loop-wire-test.true) c.in_ok-push.ensures.items;
    }
