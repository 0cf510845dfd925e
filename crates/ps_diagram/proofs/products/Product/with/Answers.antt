use Rattle.ps_diagram.proofs.TreesFromData.Literals.{meets_positive}
use Rattle.ps_diagram.proofs.products.Product.with.Goals as goal

pub returns : goal.returns
returns c = λ n letter lt. meets_positive c.args.self c.args.proposition n letter c.requires.named lt
