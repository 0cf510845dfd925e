use Rattle.ps_diagram.proofs.TreesFromData.Literals.{meets_negative}
use Rattle.ps_diagram.proofs.products.Product.without.Goals as goal

pub returns : goal.returns
returns c = λ n letter lt. meets_negative c.args.self c.args.proposition n letter c.requires.named lt
