use Rattle.std.proofs.Common.{rules, arith}
use Rattle.std.proofs.lemmas.Bool.{iff_false}
use Rattle.ps_text.proofs.ParsedAnswers.Exits.{reads_mapped, stops_mapped}
use Rattle.ps_hoa.specs.Causes.{hoa_causes}
use Rattle.ps_hoa.specs.Grammar.Header.{int, kept}
use Rattle.ps_hoa.specs.Grammar.Operands.{number_limit}
use Rattle.ps_hoa.proofs.Reading.HoaExits.{exit, loop_more, loop_fails, loop_ends}
use Rattle.ps_hoa.proofs.Grammar.ItemForms.{index_begins, index_loop}
use Rattle.ps_hoa.proofs.Reading.ExpectReading.{tests_int, expect_elsewhere}
use Rattle.ps_hoa.proofs.header.items.indices.Goals as goal

pub returns-in_err-number : goal.returns-in_err-number
returns-in_err-number c = exit _ _ _ _ (loop_fails index_loop c.indices.invariant
    (index_begins c.indices.indices _ (c.is_at.ensures.0 c.indices-test.true))) (stops_mapped hoa_causes
    (kept c.indices.indices) (int number_limit) _ _ c.in_err-number.ensures.part) c.from_residual.ensures.1

pub indices-preserved : goal.indices-preserved
indices-preserved c = grind (
  arith,
  loop_more index_loop c.indices.invariant (reads_mapped (kept c.indices.indices) c.in_ok-number.ensures.part),
)

pub returns : goal.returns
returns c = search (rules, loop_ends, index_loop, expect_elsewhere, tests_int, iff_false)
