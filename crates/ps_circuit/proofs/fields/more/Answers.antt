use Rattle.std.proofs.Common.{arith, refl, false}
use Rattle.ps_text.proofs.BytesAndDigits.Bytes.Single.{refuted}
use Rattle.ps_text.proofs.BytesAndDigits.Bytes.Lefts.{exits_at, exits_last, reads_last}
use Rattle.ps_circuit.proofs.ReadCircuits.SignLaws.{chain_gap_more}
use Rattle.ps_circuit.proofs.ReadCircuits.FieldLemmas.{at_line_end, at_gap, past_gap_ends, past_gap_more}
use Rattle.ps_circuit.proofs.fields.more.Goals as goal

pub returns-in_err-newline : goal.returns-in_err-newline
returns-in_err-newline c = exits_last (λ _. false) (at_line_end c.args.cursor.now (c.comes.ensures.0 c.if-comes.true))
    _ _ _ _ c.in_err-newline.ensures c.from_residual.ensures.1

pub returns-then-comes : goal.returns-then-comes
returns-then-comes c = reads_last (λ _. false) (at_line_end c.args.cursor.now (c.comes.ensures.0 c.if-comes.true))
    c.in_ok-newline.ensures refl

pub returns-in_err-gap : goal.returns-in_err-gap
returns-in_err-gap c =
    exits_at chain_gap_more (at_gap c.args.cursor.now (refuted c.comes.ensures.1 c.if-comes.false)) _ _
    _ _ c.in_err-gap.ensures c.from_residual-in_err-gap.ensures.1

pub returns-in_err-newline-2 : goal.returns-in_err-newline-2
returns-in_err-newline-2 c = exits_last (λ _. false) (grind (arith, past_gap_ends, refuted)) _ _ _ _
    c.in_err-newline-2.ensures c.from_residual-in_err-newline-2.ensures.1

pub returns-then-comes-2 : goal.returns-then-comes-2
returns-then-comes-2 c = reads_last (λ _. false) (past_gap_ends c.args.cursor.now
    (refuted c.comes.ensures.1 c.if-comes.false) c.in_ok-gap.ensures (c.comes-2.ensures.0 c.if-comes-2.true))
    c.in_ok-newline-2.ensures refl

pub returns : goal.returns
returns c = grind (arith, past_gap_more, refuted)
