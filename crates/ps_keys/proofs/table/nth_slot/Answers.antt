use Rattle.std.proofs.Common.{refl}
use Rattle.ps_keys.specs.Inner.Slots.{nth_slot}
use Rattle.ps_keys.proofs.table.nth_slot.Goals as goal

pub returns-clause-value : goal.returns-clause-value
unfolding nth_slot
returns-clause-value c = refl
