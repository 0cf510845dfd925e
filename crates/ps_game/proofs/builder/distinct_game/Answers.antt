use Rattle.std.proofs.Common.{rules}
use Rattle.std.proofs.lemmas.Grind.{common_steps}
use Rattle.ps_game.proofs.StoredGames.Finished.{IsGame-without_repeats}
use Rattle.ps_game.proofs.builder.distinct_game.Goals as goal

pub game_of-requires : goal.game_of-requires
game_of-requires c = search (rules, common_steps, IsGame-without_repeats)
