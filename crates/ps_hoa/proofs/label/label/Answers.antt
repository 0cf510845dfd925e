use Rattle.ps_hoa.proofs.Grammar.LabelLaws.{label_leaf}
use Rattle.ps_hoa.proofs.label.label.Goals as goal

pub read-requires : goal.read-requires
read-requires c = label_leaf c.args.scope.now
