use Rattle.std.proofs.Common.{◌∙◌, ap, rules}
use Rattle.ps_simulate.specs.Lanes.{all_or_none}
use Rattle.ps_simulate.specs.LanePlans.{wire_in}
use Rattle.ps_simulate.proofs.EvaluationPlans.LaneLemmas.{bit_in-read}
use Rattle.ps_simulate.proofs.lanes.bits.Goals as goal

pub returns : goal.returns
returns c lane lt = rw c.variable.ensures (bit_in-read c.args.values.now (wire_in c.args.literal) lane lt c.requires
    (search rules) (c.mask.ensures ∙ ap all_or_none c.is_negated.ensures))
