-- The law `read_game_is_game` is proved by the lemma `game_is_sound`.
use Rattle.ps_pgsolver.proofs.ReadGames.SoundGames.{game_is_sound}
use Rattle.ps_pgsolver.proofs.laws.read_game_is_game.Goals as goal

pub returns : goal.returns
returns c = game_is_sound
