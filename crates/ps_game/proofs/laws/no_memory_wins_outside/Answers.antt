use Rattle.std.proofs.Common.{rules}
use Rattle.ps_game.proofs.PathsAndLoops.Beaten.{histories_beaten}
use Rattle.ps_game.proofs.PathsAndLoops.Memory.{WinsByNoMemory-AllHistoriesBeaten}
use Rattle.ps_game.proofs.laws.no_memory_wins_outside.Goals as goal

pub returns : goal.returns
returns c game player set table is_game is_player holds v is_vertex inside =
    search (rules, WinsByNoMemory-AllHistoriesBeaten, histories_beaten)
