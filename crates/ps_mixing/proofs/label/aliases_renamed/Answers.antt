use Rattle.std.proofs.Common.{arith, rules}
use Rattle.ps_mixing.proofs.Renamings.{alias_over}
use Rattle.ps_mixing.proofs.label.aliases_renamed.Goals as goal

pub push-requires : goal.push-requires
push-requires c =
    let over = alias_over c.args.to.now c.as_slice-labels.result.now c.loop-label.label-index c.label-item.result
    c.requires (search rules) c.loop-label-test.true in
    record { within = grind (arith, over) }
