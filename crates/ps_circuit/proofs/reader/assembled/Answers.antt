use Rattle.std.proofs.Common.{arith}
use Rattle.ps_circuit.proofs.ReadCircuits.ReadingLemmas.{way_within, cyclic_tells}
use Rattle.ps_circuit.proofs.reader.assembled.Goals as goal

pub cyclic-requires : goal.cyclic-requires
cyclic-requires c =
    let first = c.new.ensures.cyclic c.in-Err-Cyclic.gate (cc) in
    omega (arith, way_within c.args.parts.gates.items first.cyclic, c.requires.starts)

pub returns-in-Err-Cyclic : goal.returns-in-Err-Cyclic
returns-in-Err-Cyclic c =
    let first = c.new.ensures.cyclic c.in-Err-Cyclic.gate (cc) in
    grind (arith, cyclic_tells, way_within)
