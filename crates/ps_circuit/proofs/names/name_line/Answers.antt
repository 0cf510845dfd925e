use Rattle.std.proofs.Common.{arith, refl}
use Rattle.ps_circuit.specs.Texts.{AnyNumber}
use Rattle.ps_text.proofs.BytesAndDigits.Bytes.Lefts.{exits_at, exits_last}
use Rattle.ps_circuit.proofs.ReadCircuits.NumberLemmas.{number_any, number_none}
use Rattle.ps_circuit.proofs.ReadCircuits.ReadingLemmas.{name_set}
use Rattle.ps_circuit.proofs.ReadCircuits.CircuitTextLaws.{chain_number, chain_space, chain_name}
use Rattle.ps_circuit.proofs.ReadCircuits.SymbolLemmas.{at_letter, past_no_number, letter_stops, past_number}
use Rattle.ps_circuit.proofs.ReadCircuits.SymbolLemmas.{past_space, past_name}
use Rattle.ps_circuit.proofs.ReadCircuits.SymbolLemmas.{symbol_reads, plain_name}
use Rattle.ps_circuit.proofs.names.name_line.Goals as goal

pub returns-in_err-number-clause-exact : goal.returns-in_err-number-clause-exact
returns-in_err-number-clause-exact c = λ all kind t same next is.
    let a = at_letter all kind c.args.names.now.items t same next is c.step.ensures.ahead c.step.ensures.next in
    exits_at (chain_number all kind) (past_no_number a c.number.new.cursor c.in_err-number.ensures.0) _ _ _ _
    (number_none AnyNumber c.number.new.cursor _ c.in_err-number.ensures) c.from_residual.ensures.1

pub returns-then-not-is_free-clause-exact : goal.returns-then-not-is_free-clause-exact
returns-then-not-is_free-clause-exact c = grind (arith, at_letter, letter_stops)

pub returns-in_err-byte-clause-exact : goal.returns-in_err-byte-clause-exact
returns-in_err-byte-clause-exact c = λ all kind t same next is.
    let a = at_letter all kind c.args.names.now.items t same next is c.step.ensures.ahead c.step.ensures.next in
    exits_at (chain_space all kind (number_any c.in_ok-number.ensures).0)
    (past_number a c.in_ok-number.ensures c.is_free.ensures.small (c.is_free.ensures.free c.if-not-is_free.false))
    _ _ _ _ c.in_err-byte.ensures c.from_residual-in_err-byte.ensures.1

pub returns-in_err-name-clause-exact : goal.returns-in_err-name-clause-exact
returns-in_err-name-clause-exact c = λ all kind t same next is.
    let a = at_letter all kind c.args.names.now.items t same next is c.step.ensures.ahead c.step.ensures.next in
    exits_at (chain_name all kind (number_any c.in_ok-number.ensures).0) (past_space a c.in_ok-number.ensures
    c.is_free.ensures.small (c.is_free.ensures.free c.if-not-is_free.false) c.in_ok-byte.ensures) _ _ _ _
    c.in_err-name.ensures c.from_residual-in_err-name.ensures.1

pub returns-in_err-newline-clause-exact : goal.returns-in_err-newline-clause-exact
returns-in_err-newline-clause-exact c = λ all kind t same next is.
    let a = at_letter all kind c.args.names.now.items t same next is c.step.ensures.ahead c.step.ensures.next in
    exits_last _ (past_name a c.in_ok-number.ensures c.is_free.ensures.small
    (c.is_free.ensures.free c.if-not-is_free.false) c.in_ok-byte.ensures c.in_ok-name.ensures) _ _ _ _
    c.in_err-newline.ensures c.from_residual-in_err-newline.ensures.1

pub returns-clause-exact : goal.returns-clause-exact
returns-clause-exact c = λ all kind t same next is.
    let a = at_letter all kind c.args.names.now.items t same next is c.step.ensures.ahead c.step.ensures.next in
    symbol_reads a c.in_ok-number.ensures c.is_free.ensures.small (c.is_free.ensures.free c.if-not-is_free.false)
    c.in_ok-byte.ensures c.in_ok-name.ensures c.in_ok-to_vec.field-0 c.in_ok-newline.ensures refl (grind arith)

pub returns-clause-names : goal.returns-clause-names
returns-clause-names c = grind (arith, plain_name, name_set)
