-- The law `some_answer` is proved by the lemma `some_reading`.
use Rattle.ps_pgsolver.proofs.ReadGames.SomeGameReading.{some_reading}
use Rattle.ps_pgsolver.proofs.laws.some_answer.Goals as goal

pub returns : goal.returns
returns c = some_reading
