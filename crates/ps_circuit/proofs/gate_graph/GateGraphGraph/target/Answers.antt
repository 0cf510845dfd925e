use Rattle.std.proofs.Common.{refl, arith, length}
use Rattle.std.proofs.lemmas.Option.{slice_get_read}
use Rattle.ps_circuit.proofs.GatesAndLinks.LinksLemmas.{side_within}
use Rattle.ps_circuit.proofs.gate_graph.GateGraphGraph.target.Goals as goal

pub returns-then-place-eq0-clause-within : goal.returns-then-place-eq0-clause-within
returns-then-place-eq0-clause-within c =
    let links = c.args.self.now.links.items in
    let at = slice_get_read links (length links) c.args.item c.index-sides.result.now refl c.requires.item
    c.index-sides.ensures in
    side_within links c.args.item 0 c.args.self.now.within at (omega arith)

pub returns-else-place-eq0-clause-target : goal.returns-else-place-eq0-clause-target
returns-else-place-eq0-clause-target c = grind (arith, slice_get_read)

pub returns-else-place-eq0-clause-within : goal.returns-else-place-eq0-clause-within
returns-else-place-eq0-clause-within c =
    let links = c.args.self.now.links.items in
    let at = slice_get_read links (length links) c.args.item c.index-sides.result.now refl c.requires.item
    c.index-sides.ensures in
    side_within links c.args.item 1 c.args.self.now.within at (omega arith)
