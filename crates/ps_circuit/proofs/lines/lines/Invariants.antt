use Rattle.std.proofs.Common.{[]}
use Rattle.ps_circuit.specs.Inner.Reading.{lines_of}
use Rattle.ps_circuit.proofs.ReadCircuits.LineLemmas.{Lining}
use Rattle.ps_circuit.proofs.lines.lines.Given as goal

abbrev pub invariant-loop : goal.invariant-loop
invariant-loop g l = Lining (g.L.Line.part l.header.most) (g.L.Line.adds l.header.most) l.count l.counter l.initial.cursor l.cursor
    (lines_of [] l.initial.noted) (lines_of l.items.items l.noted)
