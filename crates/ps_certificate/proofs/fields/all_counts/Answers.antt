use Rattle.std.proofs.Common.{arith}
use Rattle.std.proofs.lemmas.List.{length-append}
use Rattle.ps_certificate.specs.Texts.{OfOtherGame, Never}
use Rattle.ps_certificate.proofs.ReadCertificates.NumberPart.{judged_fails, number_reads}
use Rattle.ps_certificate.proofs.ReadCertificates.Loops.{fails, space_fails, count_fails, count_next, counts_end}
use Rattle.ps_certificate.proofs.ReadCertificates.Loops.{counts_end_fails}
use Rattle.ps_certificate.proofs.fields.all_counts.Goals as goal

pub returns-in_err-byte : goal.returns-in_err-byte
returns-in_err-byte c =
    fails _ _ _ _ _ _ (space_fails _ _ _ _ _ c.loop.invariant.0 c.loop-test.true _ c.in_err-byte.ensures)
    c.from_residual.ensures.1

pub returns-in_err-number : goal.returns-in_err-number
returns-in_err-number c =
    fails _ _ _ _ _ _ (count_fails _ _ _ _ _ c.loop.invariant.0 c.loop-test.true c.in_ok-byte.ensures _
    (judged_fails (OfOtherGame Never) c.in_err-number.ensures)) c.from_residual-in_err-number.ensures.1

pub loop-preserved : goal.loop-preserved
loop-preserved c = (
  count_next _ _ _ _ _ c.loop.invariant.0 c.loop-test.true c.in_ok-byte.ensures
      (number_reads Never c.in_ok-number.ensures (λ _ never. never)) c.in_ok-push.ensures,
  grind (arith, c.loop.invariant.1, length-append),
)

pub returns-in_err-byte-2 : goal.returns-in_err-byte-2
returns-in_err-byte-2 c =
    fails _ _ _ _ _ _ (counts_end_fails _ _ _ _ _ c.loop.invariant.0 c.loop-test.false _ c.in_err-byte-2.ensures)
    c.from_residual-in_err-byte-2.ensures.1

pub returns : goal.returns
returns c = counts_end _ _ _ _ _ c.loop.invariant.0 c.loop-test.false c.in_ok-byte-2.ensures
