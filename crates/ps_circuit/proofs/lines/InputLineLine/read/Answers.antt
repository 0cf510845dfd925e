use Rattle.std.proofs.Common.{arith}
use Rattle.ps_circuit.specs.Inner.Reading.{lines_of}
use Rattle.ps_circuit.specs.Texts.{add_input, input_line}
use Rattle.ps_text.proofs.BytesAndDigits.Bytes.Lefts.{unread, exits_at, exits_last, reads_last}
use Rattle.ps_circuit.proofs.ReadCircuits.CircuitTextLaws.{chain_input}
use Rattle.ps_circuit.proofs.ReadCircuits.LineLemmas.{past_input, input_is}
use Rattle.ps_circuit.proofs.lines.InputLineLine.read.Goals as goal

pub returns-in_err-input-clause-exact : goal.returns-in_err-input-clause-exact
unfolding input_line
returns-in_err-input-clause-exact c =
    exits_at (chain_input c.args.header.most (lines_of c.args.items.now.items c.args.noted.now)) unread _ _ _ _
    c.in_err-input.ensures.exact c.from_residual.ensures.1

pub returns-in_err-line_end-clause-exact : goal.returns-in_err-line_end-clause-exact
returns-in_err-line_end-clause-exact c =
    let before = lines_of c.args.items.now.items c.args.noted.now in
    exits_last (λ _. add_input before c.in_ok-input.input) (past_input c.args.header.most before c.in_ok-input.ensures.exact) _
    _ _ _ c.in_err-line_end.ensures c.from_residual-in_err-line_end.ensures.1

pub returns-clause-exact : goal.returns-clause-exact
returns-clause-exact c =
    let before = lines_of c.args.items.now.items c.args.noted.now in
    reads_last (λ _. add_input before c.in_ok-input.input) (past_input c.args.header.most before c.in_ok-input.ensures.exact)
    c.in_ok-line_end.ensures (grind (arith, input_is))
