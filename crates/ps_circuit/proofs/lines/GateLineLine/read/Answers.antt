use Rattle.std.proofs.Common.{arith}
use Rattle.ps_circuit.specs.Inner.Reading.{lines_of}
use Rattle.ps_circuit.specs.Texts.{add_gate, gate_line}
use Rattle.ps_text.proofs.BytesAndDigits.Bytes.Lefts.{unread, exits_at, exits_last, reads_last}
use Rattle.ps_circuit.proofs.ReadCircuits.CircuitTextLaws.{chain_gate, chain_first, chain_second}
use Rattle.ps_circuit.proofs.ReadCircuits.LineLemmas.{past_gate, past_first, past_second}
use Rattle.ps_circuit.proofs.lines.GateLineLine.read.Goals as goal

pub returns-in_err-own-clause-exact : goal.returns-in_err-own-clause-exact
unfolding gate_line
returns-in_err-own-clause-exact c = exits_at (chain_gate c.args.header.most (lines_of c.args.items.now.items c.args.noted.now))
    unread _ _ _ _ c.in_err-own.ensures.exact c.from_residual.ensures.1

pub returns-in_err-first-clause-exact : goal.returns-in_err-first-clause-exact
returns-in_err-first-clause-exact c =
    let before = lines_of c.args.items.now.items c.args.noted.now in
    exits_at (chain_first c.args.header.most before c.in_ok-own.own) (past_gate c.args.header.most before c.in_ok-own.ensures.exact) _
    _ _ _ c.in_err-first.ensures.exact c.from_residual-in_err-first.ensures.1

pub returns-in_err-second-clause-exact : goal.returns-in_err-second-clause-exact
returns-in_err-second-clause-exact c =
    let before = lines_of c.args.items.now.items c.args.noted.now in
    exits_at (chain_second c.args.header.most before c.in_ok-own.own c.in_ok-first.first)
    (past_first c.args.header.most before c.in_ok-own.ensures.exact c.in_ok-first.ensures.exact) _ _ _ _
    c.in_err-second.ensures.exact c.from_residual-in_err-second.ensures.1

pub returns-in_err-line_end-clause-exact : goal.returns-in_err-line_end-clause-exact
returns-in_err-line_end-clause-exact c =
    let before = lines_of c.args.items.now.items c.args.noted.now in
    exits_last (λ _. add_gate before c.in_ok-own.own c.in_ok-first.first c.in_ok-second.second)
    (past_second c.args.header.most before c.in_ok-own.ensures.exact c.in_ok-first.ensures.exact c.in_ok-second.ensures.exact)
    _ _ _ _ c.in_err-line_end.ensures c.from_residual-in_err-line_end.ensures.1

pub returns-clause-exact : goal.returns-clause-exact
returns-clause-exact c =
    let before = lines_of c.args.items.now.items c.args.noted.now in
    reads_last (λ _. add_gate before c.in_ok-own.own c.in_ok-first.first c.in_ok-second.second)
    (past_second c.args.header.most before c.in_ok-own.ensures.exact c.in_ok-first.ensures.exact c.in_ok-second.ensures.exact)
    c.in_ok-line_end.ensures (grind arith)
