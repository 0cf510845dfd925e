use Rattle.std.proofs.Common.{◌≡◌, ◌≤◌}
use Rattle.ps_automaton.specs.Autos.{greatest_of_laps, state_after}
use Rattle.ps_automaton.specs.Automata.{auto_of}
use Rattle.ps_automaton.proofs.automaton.Automaton.greatest_of_laps.Given as goal

abbrev pub invariant-loop-round : goal.invariant-loop-round
invariant-loop-round l = record {
  within : l.reached ≤ l.self.states;
  state : l.reached ≡ state_after (auto_of l.self) l.state l.lap l._round;
  greatest : l.greatest ≡ greatest_of_laps (auto_of l.self) l.state l.lap l._round;
}
