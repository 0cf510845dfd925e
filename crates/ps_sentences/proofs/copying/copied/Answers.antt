use Rattle.std.proofs.Common.{◌∙◌, ap, arith, false, length}
use Rattle.std.proofs.lemmas.List.{take_all}
use Rattle.ps_formula.specs.declared.node.Node.TheVariants.{Constant}
use Rattle.ps_sentences.proofs.CopyLemmas.{copied_more, over_next}
use Rattle.ps_sentences.proofs.copying.copied.Goals as goal

pub loop-node-init : goal.loop-node-init
loop-node-init c = c.new-table.ensures

pub add-requires : goal.add-requires
add-requires c = over_next c.as_slice-node-items.ensures.value c.as_slice-node-items.ensures.table
    (Constant false) c.loop-node.invariant c.loop-node-test.true

pub loop-node-preserved : goal.loop-node-preserved
loop-node-preserved c = copied_more c.as_slice-node-items.ensures.value c.as_slice-node-items.ensures.table
    (Constant false) c.loop-node.invariant c.loop-node-test.true c.in_ok-add.ensures.ok

pub returns : goal.returns
returns c =
    let same = c.as_slice-node-items.ensures.value in
    c.loop-node.invariant
    ∙ take_all c.loop-node.node-index c.args.formulas.now (omega (arith, ap length same))
