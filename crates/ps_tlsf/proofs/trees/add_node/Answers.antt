use Rattle.std.proofs.Common.{arith}
use Rattle.ps_tlsf.proofs.SectionFormulas.Building.{is_built}
use Rattle.ps_tlsf.proofs.trees.add_node.Goals as goal

pub returns : goal.returns
returns c = grind (arith, is_built)
