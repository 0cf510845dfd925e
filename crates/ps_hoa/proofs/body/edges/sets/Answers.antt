use Rattle.std.proofs.Common.{rules, arith}
use Rattle.ps_text.proofs.ParsedAnswers.Exits.{reads_mapped, reads_then}
use Rattle.ps_hoa.specs.Grammar.Body.{is_left_brace, is_right_brace}
use Rattle.ps_hoa.proofs.Grammar.BodyLaws.{joint_braces, joint_sets}
use Rattle.ps_hoa.proofs.Reading.HoaExits.{exit, first, behind, under}
use Rattle.ps_hoa.proofs.Reading.ExpectReading.{tests_left_brace, tests_right_brace}
use Rattle.ps_hoa.specs.Marks.{mark_list}
use Rattle.ps_hoa.proofs.body.edges.sets.Goals as goal

pub returns-in_err-expect : goal.returns-in_err-expect
returns-in_err-expect c = exit _ _ _ _ (first (joint_braces c.args.count))
    (c.in_err-expect.ensures is_left_brace tests_left_brace.is) c.from_residual.ensures.1

pub returns-in_err-marks : goal.returns-in_err-marks
returns-in_err-marks c = grind (
  arith,
  behind (joint_braces c.args.count)
      (c.in_ok-expect.ensures is_left_brace tests_left_brace.is) (first (joint_sets c.args.count)),
)

pub returns-in_err-expect-2 : goal.returns-in_err-expect-2
returns-in_err-expect-2 c = exit _ _ _ _ (behind (joint_braces c.args.count)
    (c.in_ok-expect.ensures is_left_brace tests_left_brace.is) (search (rules, behind, joint_sets, under)))
    (c.in_err-expect-2.ensures is_right_brace tests_right_brace.is) c.from_residual-in_err-expect-2.ensures.1

pub returns : goal.returns
returns c = reads_then (joint_braces c.args.count) (c.in_ok-expect.ensures is_left_brace tests_left_brace.is)
    (reads_then (joint_sets c.args.count) c.in_ok-marks.ensures
    (reads_mapped (λ _. mark_list c.in_ok-marks.marks) (c.in_ok-expect-2.ensures is_right_brace tests_right_brace.is)))
