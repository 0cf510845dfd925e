use Rattle.std.proofs.Common.{get_or, length, ap, arith}
use Rattle.ps_circuit.specs.declared.number.Number.{Number}
use Rattle.ps_circuit.specs.Texts.{IsDefined}
use Rattle.ps_circuit.proofs.ReadCircuits.ReadingLemmas.{known_more, known_all, first_undefined}
use Rattle.ps_circuit.proofs.reader.all_defined.Goals as goal

abbrev origin : Number
origin = record { value = 0; offset = 0 }

pub loop-number-preserved : goal.loop-number-preserved
loop-number-preserved c =
    let same = c.deref-number-items.ensures.value in
    let here : IsDefined c.args.noted.now.variables (get_or c.deref-number-items.result.now c.loop-number.number-index
    origin) = rw c.variable.ensures at (c.is_defined.ensures.defined c.if-not-is_defined.false) in
    known_more c.args.noted.now.variables c.args.noted.now.readings.items c.loop-number.number-index origin
    (omega (arith, c.loop-number-test.true, ap length same)) c.loop-number.invariant (grind arith)

pub returns-then-not-is_defined : goal.returns-then-not-is_defined
returns-then-not-is_defined c = grind (arith, first_undefined)

pub returns : goal.returns
returns c = known_all c.args.noted.now.variables c.args.noted.now.readings.items c.loop-number.number-index
    (omega (arith, c.loop-number-test.false, ap length c.deref-number-items.ensures.value)) c.loop-number.invariant
