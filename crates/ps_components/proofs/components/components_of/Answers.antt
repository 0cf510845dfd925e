use Rattle.std.proofs.Common.{arith}
use Rattle.ps_components.proofs.Ended.{components-sound, all_met, all_listed}
use Rattle.ps_components.proofs.components.components_of.Goals as goal

pub returns : goal.returns
returns g c = (let i = c.loop-item.invariant in record {
  components = components-sound i.idle.sound;
  met = all_met i.idle.sound i.idle.ended (λ v lt h. i.seen v (omega arith) h);
})

pub invariant_of-result : goal.invariant_of-result
invariant_of-result g c = (let idle = c.loop-item.invariant.idle in all_listed idle.sound idle.ended)
