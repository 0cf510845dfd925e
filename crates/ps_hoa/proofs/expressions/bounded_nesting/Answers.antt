use Rattle.ps_hoa.proofs.HoaOutcomes.Nesting.{label_nesting, condition_nesting}
use Rattle.ps_hoa.proofs.expressions.bounded_nesting.Goals as goal

pub returns : goal.returns
returns c = record { labels = label_nesting; conditions = condition_nesting }
