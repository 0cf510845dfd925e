use Rattle.std.proofs.Common.{◌≡◌, ℕ, true}
use Rattle.std.specs.Prelude.{◌&&◌, not}
use Rattle.ps_label.specs.Truth.{is_in}
use Rattle.ps_automaton.proofs.ChainsOfSets.NumberTables.{IsGreatestOf}
use Rattle.ps_automaton.proofs.numbers.Numbers.level.Given as goal

-- `greatest` is the greatest for those of the edge's sets that are no longer in `rest`
abbrev pub invariant-loop-rest : goal.invariant-loop-rest
invariant-loop-rest l = record {
  greatest : IsGreatestOf l.self.base l.self.by_set (λ set. is_in set l.sets && not (is_in set l.rest)) l.greatest;
  within : (set : ℕ) → is_in set l.rest ≡ true → is_in set l.sets ≡ true;
}

abbrev pub decreases-loop-rest : goal.decreases-loop-rest
decreases-loop-rest l = l.rest
