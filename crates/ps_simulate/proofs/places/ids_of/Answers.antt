use Rattle.ps_ids.proofs.Members.{absent_before}
use Rattle.ps_simulate.proofs.places.ids_of.Goals as goal

pub push-requires : goal.push-requires
push-requires c =
    let variables = c.args.variables.now in
    let place = c.loop-variable.variable-index in
    rw (c.loop-variable.invariant, c.from.ensures) (absent_before variables place c.requires c.loop-variable-test.true)
