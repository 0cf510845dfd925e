-- Repetitions of a lasso's repeated part (laps) that lead an automaton from a state back to the same state. (For
-- private functions.)
use Rattle.std.specs.Prelude.{◌≡◌, ℕ, ◌+◌, ◌<◌, List}
use Rattle.ps_automaton.specs.Autos.{Auto, state_after}

-- zero or more repetitions of the word `lap` lead from q to the state; then `laps` repetitions, at least one, lead from
-- the state back to itself
pub record Returns (a : Auto) (q : ℕ) (lap : List ℕ) (state laps : ℕ) : Type 0 where
  pub before : ℕ
  pub some : 0 < laps
  pub begins : state_after a q lap before ≡ state
  pub returns : state_after a q lap (before + laps) ≡ state
