use Rattle.ps_hoa.proofs.Grammar.LabelLaws.{one_label}
use Rattle.ps_hoa.proofs.Grammar.ConditionLaws.{one_condition}
use Rattle.ps_hoa.proofs.expressions.one_expression.Goals as goal

pub returns : goal.returns
returns c = record { labels = one_label; conditions = one_condition }
