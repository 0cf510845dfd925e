use Rattle.std.proofs.Common.{arith}
use Rattle.ps_text.proofs.ParsedAnswers.Exits.{reads_then, reads_mapped}
use Rattle.ps_hoa.specs.Grammar.Conditions.{condition}
use Rattle.ps_hoa.specs.Grammar.Header.{with_acceptance, header_data}
use Rattle.ps_hoa.specs.Grammar.Operands.{nesting_limit}
use Rattle.ps_hoa.proofs.Reading.HoaExits.{exit, first, behind, under}
use Rattle.ps_hoa.proofs.Grammar.ItemForms.{joint_counted_condition}
use Rattle.ps_hoa.proofs.header.items.acceptance.Goals as goal

pub returns-in_err-sets : goal.returns-in_err-sets
returns-in_err-sets c = exit _ _ _ _ (first (joint_counted_condition (header_data c.args.header.now)))
    c.in_err-sets.ensures.part c.from_residual.ensures.1

pub returns-in_err-condition : goal.returns-in_err-condition
returns-in_err-condition c = let h = header_data c.args.header.now in
    grind (
      arith,
      behind (joint_counted_condition h) c.in_ok-sets.ensures.part
          (under (with_acceptance h c.in_ok-sets.sets) (condition nesting_limit)),
    )

pub returns : goal.returns
returns c = let h = header_data c.args.header.now in
    reads_then (joint_counted_condition h) c.in_ok-sets.ensures.part
    (reads_mapped (with_acceptance h c.in_ok-sets.sets) c.in_ok-condition.ensures)
