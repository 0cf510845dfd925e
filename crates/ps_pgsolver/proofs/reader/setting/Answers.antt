use Rattle.std.proofs.Common.{arith}
use Rattle.ps_pgsolver.proofs.ReadGames.GameExits.{exit}
use Rattle.ps_pgsolver.proofs.ReadGames.Choices.{setting_none, setting_done, setting_halts}
use Rattle.ps_pgsolver.proofs.reader.setting.Goals as goal

pub returns-else-is_at_word : goal.returns-else-is_at_word
returns-else-is_at_word c = grind (arith, setting_none)

pub returns-in_ok-value_line : goal.returns-in_ok-value_line
returns-in_ok-value_line c =
    setting_done _ _ _ (c.is_at_word.ensures.0 c.if-is_at_word.true) c.next.ensures.rest c.in_ok-value_line.ensures

pub returns-in_err-value_line : goal.returns-in_err-value_line
returns-in_err-value_line c = exit _ _ _ _ _ _ (setting_halts _ _ _ (c.is_at_word.ensures.0 c.if-is_at_word.true)
    c.next.ensures.rest c.in_err-value_line.ensures) c.from_residual.ensures.1
