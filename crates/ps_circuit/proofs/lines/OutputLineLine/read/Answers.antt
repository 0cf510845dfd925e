use Rattle.std.proofs.Common.{arith}
use Rattle.ps_circuit.specs.Inner.Reading.{lines_of}
use Rattle.ps_circuit.specs.Texts.{WrongLiteral, add_output, output_line}
use Rattle.ps_text.proofs.BytesAndDigits.Bytes.Lefts.{unread, stops_at, exits_at, exits_last, reads_last}
use Rattle.ps_circuit.proofs.ReadCircuits.NumberLemmas.{number_none}
use Rattle.ps_circuit.proofs.ReadCircuits.CircuitTextLaws.{chain_output}
use Rattle.ps_circuit.proofs.ReadCircuits.LineLemmas.{literal_reads, literal_wrong, past_output, output_is}
use Rattle.ps_circuit.proofs.lines.OutputLineLine.read.Goals as goal

pub returns-in_err-output-clause-exact : goal.returns-in_err-output-clause-exact
unfolding output_line
returns-in_err-output-clause-exact c =
    exits_at (chain_output c.args.header.most (lines_of c.args.items.now.items c.args.noted.now)) unread _ _ _ _
    (number_none (WrongLiteral c.args.header.most) c.number.new.cursor _ c.in_err-output.ensures) c.from_residual.ensures.1

pub returns-then-output-from-clause-exact : goal.returns-then-output-from-clause-exact
unfolding output_line
returns-then-output-from-clause-exact c =
    stops_at (chain_output c.args.header.most (lines_of c.args.items.now.items c.args.noted.now)) unread _
    (literal_wrong c.args.header.most c.args.header.small c.in_ok-output.ensures (omega (arith, c.from.ensures)) c.refused.ensures)

pub returns-in_err-line_end-clause-exact : goal.returns-in_err-line_end-clause-exact
returns-in_err-line_end-clause-exact c =
    let before = lines_of c.args.items.now.items c.args.noted.now in
    exits_last (λ _. add_output before c.in_ok-output.output) (past_output c.args.header.most before
    (literal_reads c.args.header.most c.args.header.small c.in_ok-output.ensures (omega (arith, c.from.ensures)))) _ _ _ _
    c.in_err-line_end.ensures c.from_residual-in_err-line_end.ensures.1

pub returns-clause-exact : goal.returns-clause-exact
returns-clause-exact c =
    let before = lines_of c.args.items.now.items c.args.noted.now in
    reads_last (λ _. add_output before c.in_ok-output.output) (past_output c.args.header.most before
    (literal_reads c.args.header.most c.args.header.small c.in_ok-output.ensures (omega (arith, c.from.ensures))))
    c.in_ok-line_end.ensures (grind (arith, output_is))
