use Rattle.std.proofs.Common.{rules}
use Rattle.ps_text.proofs.ParsedAnswers.MeetsLemmas.{then_meets}
use Rattle.ps_pgsolver.specs.GameTexts.{value_line}
use Rattle.ps_pgsolver.proofs.ReadGames.GameExits.{exit, stops_left}
use Rattle.ps_pgsolver.proofs.ReadGames.GameLaws.{joint_value}
use Rattle.ps_pgsolver.proofs.reader.value_line.Goals as goal

pub returns-in_err-number : goal.returns-in_err-number
unfolding value_line
returns-in_err-number c =
    exit _ _ _ _ _ _ (stops_left joint_value _ _ c.in_err-number.ensures) c.from_residual.ensures.1

pub returns : goal.returns
unfolding value_line
returns c = search (rules, then_meets, joint_value, c.in_ok-number.ensures, c.semicolon.ensures)
