use Rattle.std.proofs.Common.{arith, refl}
use Rattle.ps_circuit.specs.Texts.{WrongReset}
use Rattle.ps_text.proofs.BytesAndDigits.Bytes.Lefts.{past, stops_at, exits_at, exits_last, reads_last}
use Rattle.ps_circuit.proofs.ReadCircuits.NumberLemmas.{number_none}
use Rattle.ps_circuit.proofs.ReadCircuits.CircuitTextLaws.{is_one, chain_value, chain_reset}
use Rattle.ps_circuit.proofs.ReadCircuits.LineLemmas.{reset_unread, reset_none, past_more, reset_unset, reset_wrong}
use Rattle.ps_circuit.proofs.ReadCircuits.LineLemmas.{reset_good}
use Rattle.ps_circuit.proofs.lines.reset.Goals as goal

pub returns-in_err-more : goal.returns-in_err-more
returns-in_err-more c = exits_at (chain_reset c.args.literal) (reset_unread c.args.literal) _ _ _ _
    c.in_err-more.ensures c.from_residual.ensures.1

pub returns-then-not-branch : goal.returns-then-not-branch
returns-then-not-branch c = reset_none c.args.literal c.if-not-branch.true c.in_ok-more.ensures

pub returns-in_err-number : goal.returns-in_err-number
returns-in_err-number c = exits_at (chain_value c.args.literal)
    (grind (arith, past_more c.args.literal c.if-not-branch.false c.in_ok-more.ensures)) _ _ _ _ (number_none
    (WrongReset c.args.literal) c.number.new.cursor _ c.in_err-number.ensures) c.from_residual-in_err-number.ensures.1

pub returns-then-number-literal : goal.returns-then-number-literal
returns-then-number-literal c =
    stops_at (chain_value c.args.literal) (past_more c.args.literal c.if-not-branch.false c.in_ok-more.ensures) _
    (reset_unset c.requires c.in_ok-number.ensures c.if-number-literal.true c.refused.ensures)

pub returns-then-number-gt1 : goal.returns-then-number-gt1
returns-then-number-gt1 c = stops_at (chain_value c.args.literal)
    (past_more c.args.literal c.if-not-branch.false c.in_ok-more.ensures) _ (reset_wrong c.args.literal c.requires
    c.in_ok-number.ensures c.if-number-literal.false (omega arith) c.refused-then-number-gt1.ensures)

pub returns-in_err-line_end : goal.returns-in_err-line_end
returns-in_err-line_end c = exits_last (is_one c.in_ok-number.number)
    (past (chain_value c.args.literal) (past_more c.args.literal c.if-not-branch.false c.in_ok-more.ensures)
    (reset_good c.args.literal c.in_ok-number.ensures c.if-number-literal.false (omega arith))) _ _ _ _
    c.in_err-line_end.ensures c.from_residual-in_err-line_end.ensures.1

pub returns : goal.returns
returns c =
    reads_last (is_one c.in_ok-number.number) (past (chain_value c.args.literal)
    (past_more c.args.literal c.if-not-branch.false c.in_ok-more.ensures)
    (reset_good c.args.literal c.in_ok-number.ensures c.if-number-literal.false (omega arith)))
    c.in_ok-line_end.ensures refl
