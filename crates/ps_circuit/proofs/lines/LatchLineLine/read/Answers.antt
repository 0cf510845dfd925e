use Rattle.std.proofs.Common.{arith}
use Rattle.ps_circuit.specs.Inner.Reading.{lines_of}
use Rattle.ps_circuit.specs.Texts.{add_latch, latch_line}
use Rattle.ps_text.proofs.BytesAndDigits.Bytes.Lefts.{unread, exits_at, exits_last, reads_last}
use Rattle.ps_circuit.proofs.ReadCircuits.CircuitTextLaws.{chain_latch, chain_next}
use Rattle.ps_circuit.proofs.ReadCircuits.LineLemmas.{past_latch, past_next}
use Rattle.ps_circuit.proofs.lines.LatchLineLine.read.Goals as goal

pub returns-in_err-own-clause-exact : goal.returns-in_err-own-clause-exact
unfolding latch_line
returns-in_err-own-clause-exact c =
    exits_at (chain_latch c.args.header.most (lines_of c.args.items.now.items c.args.noted.now)) unread _ _ _ _
    c.in_err-own.ensures.exact c.from_residual.ensures.1

pub returns-in_err-next-clause-exact : goal.returns-in_err-next-clause-exact
returns-in_err-next-clause-exact c =
    let before = lines_of c.args.items.now.items c.args.noted.now in
    exits_at (chain_next c.args.header.most before c.in_ok-own.own) (past_latch c.args.header.most before c.in_ok-own.ensures.exact) _
    _ _ _ c.in_err-next.ensures.exact c.from_residual-in_err-next.ensures.1

pub returns-in_err-reset-clause-exact : goal.returns-in_err-reset-clause-exact
returns-in_err-reset-clause-exact c =
    let before = lines_of c.args.items.now.items c.args.noted.now in
    exits_last (λ r. add_latch before c.in_ok-own.own c.in_ok-next.next r)
    (past_next c.args.header.most before c.in_ok-own.ensures.exact c.in_ok-next.ensures.exact) _ _ _ _ c.in_err-reset.ensures
    c.from_residual-in_err-reset.ensures.1

pub returns-clause-exact : goal.returns-clause-exact
returns-clause-exact c =
    let before = lines_of c.args.items.now.items c.args.noted.now in
    reads_last (λ r. add_latch before c.in_ok-own.own c.in_ok-next.next r) (past_next c.args.header.most before
    c.in_ok-own.ensures.exact c.in_ok-next.ensures.exact) c.in_ok-reset.ensures (grind arith)
