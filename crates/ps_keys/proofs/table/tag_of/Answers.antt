use Rattle.std.proofs.Common.{refl}
use Rattle.ps_keys.specs.Inner.Slots.{tag_of}
use Rattle.ps_keys.proofs.table.tag_of.Goals as goal

pub returns-clause-value : goal.returns-clause-value
unfolding tag_of
returns-clause-value c = refl
