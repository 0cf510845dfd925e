use Rattle.std.proofs.Common.{arith}
use Rattle.std.proofs.lemmas.Bool.{iff_false}
use Rattle.ps_text.proofs.ParsedAnswers.Exits.{reads_then, reads_mapped, reads_give}
use Rattle.ps_hoa.specs.Grammar.Header.{string, unchanged}
use Rattle.ps_hoa.proofs.Grammar.ItemForms.{joint_strings, string_serves, no_string_serves}
use Rattle.ps_hoa.proofs.Reading.HoaExits.{exit, first, behind, under, instead}
use Rattle.ps_hoa.proofs.header.skipped.tool.Goals as goal

pub returns-in_err-quoted : goal.returns-in_err-quoted
returns-in_err-quoted c = λ h. exit _ _ _ _ (first (joint_strings h)) c.in_err-quoted.ensures c.from_residual.ensures.1

pub returns-in_err-quoted-2 : goal.returns-in_err-quoted-2
returns-in_err-quoted-2 c = λ h. grind (
  arith,
  behind (joint_strings h) c.in_ok-quoted.ensures
      (instead (string_serves h _ (c.is_at.ensures.0 c.if-is_at.true)) (under (unchanged h) string)),
)

pub returns-in_ok-quoted-2 : goal.returns-in_ok-quoted-2
returns-in_ok-quoted-2 c = λ h. reads_then (joint_strings h) c.in_ok-quoted.ensures
    ((string_serves h _ (c.is_at.ensures.0 c.if-is_at.true)).reads _ _
    (reads_mapped (unchanged h) c.in_ok-quoted-2.ensures))

pub returns-else-is_at : goal.returns-else-is_at
returns-else-is_at c = λ h. reads_then (joint_strings h) c.in_ok-quoted.ensures
    ((no_string_serves h _ (iff_false c.is_at.ensures c.if-is_at.false)).reads _ _ (reads_give _ h))
