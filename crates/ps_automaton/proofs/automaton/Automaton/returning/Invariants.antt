use Rattle.std.proofs.Common.{◌≡◌, ◌≤◌, ◌<◌, ◌+◌, ◌-◌, ℕ, length, get_or, nat_eq}
use Rattle.std.specs.List.{count_by}
use Rattle.ps_automaton.specs.Autos.{state_after}
use Rattle.ps_automaton.specs.Automata.{auto_of}
use Rattle.ps_automaton.proofs.automaton.Automaton.returning.Given as goal

-- each nonzero entry of `seen` is one more than the number of laps (repetitions of the lasso's repeated part) after
-- which its state was reached
abbrev pub invariant-loop-laps : goal.invariant-loop-laps
invariant-loop-laps l = record {
  within : l.state ≤ l.self.states;
  size : length l.seen.items ≡ l.self.states + 1;
  room : l.laps + count_by (λ n. nat_eq n 0) l.seen.items ≡ l.self.states + 1;
  at : state_after (auto_of l.self) l.first l.lap l.laps ≡ l.state;
  known : (q : ℕ) → 0 < get_or l.seen.items q 0 → (get_or l.seen.items q 0 ≤ l.laps) ×
      (state_after (auto_of l.self) l.first l.lap (get_or l.seen.items q 0 - 1) ≡ q);
}

abbrev pub decreases-loop-laps : goal.decreases-loop-laps
decreases-loop-laps l = count_by (λ n. nat_eq n 0) l.seen.items
