use Rattle.std.proofs.Common.{arith, refl}
use Rattle.ps_circuit.specs.Texts.{OfInput, OfLatch, OfOutput}
use Rattle.ps_circuit.specs.Inner.Names.{names_data}
use Rattle.ps_text.proofs.BytesAndDigits.Bytes.Single.{refuted}
use Rattle.ps_circuit.proofs.ReadCircuits.SymbolLemmas.{letter_is, symbol_refused}
use Rattle.ps_circuit.proofs.names.symbol_line.Goals as goal

pub returns-then-comes-clause-exact : goal.returns-then-comes-clause-exact
returns-then-comes-clause-exact c =
    let t = letter_is c.args.cursor.now (c.comes.ensures.0 c.if-comes.true) refl in
    c.name_line.ensures.exact (names_data c.args.names.now) OfInput t.0 refl t.1 t.2

pub returns-then-comes-2-clause-exact : goal.returns-then-comes-2-clause-exact
returns-then-comes-2-clause-exact c =
    let t = letter_is c.args.cursor.now (c.comes-2.ensures.0 c.if-comes-2.true) refl in
    c.name_line-then-comes-2.ensures.exact (names_data c.args.names.now) OfLatch t.0 refl t.1 t.2

pub returns-then-comes-3-clause-exact : goal.returns-then-comes-3-clause-exact
returns-then-comes-3-clause-exact c =
    let t = letter_is c.args.cursor.now (c.comes-3.ensures.0 c.if-comes-3.true) refl in
    c.name_line-then-comes-3.ensures.exact (names_data c.args.names.now) OfOutput t.0 refl t.1 t.2

pub returns-clause-exact : goal.returns-clause-exact
returns-clause-exact c = symbol_refused (names_data c.args.names.now) c.args.cursor.now (grind (arith, refuted))
    (refuted c.comes-2.ensures.1 c.if-comes-2.false) (refuted c.comes-3.ensures.1 c.if-comes-3.false) c.refusal.ensures
