use Rattle.std.proofs.Common.{rules, ap, sym, ◌∙◌}
use Rattle.ps_text.specs.Parts.{many}
use Rattle.ps_text.proofs.ParsedAnswers.Exits.{carries_start}
use Rattle.ps_hoa.specs.Causes.{hoa_causes}
use Rattle.ps_hoa.specs.Grammar.Header.{no_items, read_over}
use Rattle.ps_hoa.specs.Inner.Items.{is_value}
use Rattle.ps_hoa.proofs.Grammar.OperandLaws.{false_true}
use Rattle.ps_hoa.proofs.Reading.HoaExits.{exit, loop_more, loop_fails, loop_ends, loop_shrinks}
use Rattle.ps_hoa.proofs.Grammar.ItemForms.{read_over_begins, read_over_loop}
use Rattle.ps_hoa.proofs.Reading.ExpectReading.{avoids_kind}
use Rattle.ps_hoa.proofs.header.skipped.other.Goals as goal

pub values-init : goal.values-init
values-init c = λ h. carries_start hoa_causes (many read_over h) _

pub values-smaller : goal.values-smaller
values-smaller c = loop_shrinks read_over_loop (c.in_ok-read_over.ensures no_items)

pub values-preserved : goal.values-preserved
values-preserved c = λ h. loop_more read_over_loop (c.values.invariant h) (c.in_ok-read_over.ensures h)

pub returns-in_err-read_over : goal.returns-in_err-read_over
returns-in_err-read_over c = λ h. exit _ _ _ _ (loop_fails read_over_loop (c.values.invariant h)
    (read_over_begins h _ (sym (ap (λ p. is_value p.sign.kind) c.peek.ensures.next) ∙ sym c.is_value.ensures
    ∙ c.values-test.true))) (c.in_err-read_over.ensures h) c.from_residual.ensures.1

pub returns : goal.returns
returns c = λ h. loop_ends read_over_loop (c.values.invariant h) (search (rules, avoids_kind, false_true))
