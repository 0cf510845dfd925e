use Rattle.ps_hoa.proofs.Grammar.ConditionLaws.{condition_leaf}
use Rattle.ps_hoa.proofs.condition.condition.Goals as goal

pub read-requires : goal.read-requires
read-requires c = condition_leaf
