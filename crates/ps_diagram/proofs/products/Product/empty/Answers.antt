use Rattle.ps_diagram.specs.Letters.{assignment}
use Rattle.ps_diagram.proofs.TreesFromData.Literals.{meets_none}
use Rattle.ps_diagram.proofs.products.Product.empty.Goals as goal

pub returns : goal.returns
returns c = λ n letter. meets_none (assignment letter) 0 n
