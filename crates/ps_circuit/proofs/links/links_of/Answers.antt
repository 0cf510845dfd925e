use Rattle.ps_circuit.proofs.GatesAndLinks.LinksLemmas.{links-by_variables}
use Rattle.ps_circuit.proofs.links.links_of.Goals as goal

pub returns : goal.returns
returns c = links-by_variables c.requires.once c.in_ok-variables.ensures c.in_ok-links.ensures
