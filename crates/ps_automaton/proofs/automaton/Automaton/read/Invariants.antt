use Rattle.std.proofs.Common.{◌≡◌, ◌≤◌, max, drop}
use Rattle.ps_automaton.specs.Autos.{greatest_along, state_behind}
use Rattle.ps_automaton.specs.Automata.{auto_of}
use Rattle.ps_automaton.proofs.automaton.Automaton.read.Given as goal

-- reading the remaining letters from the reached state leads to the same state as reading all letters
abbrev pub invariant-loop-letter : goal.invariant-loop-letter
invariant-loop-letter l = record {
  within : l.reached ≤ l.self.states;
  state : state_behind (auto_of l.self) l.reached (drop l.letter-index l.letters) ≡ state_behind (auto_of l.self)
      l.state l.letters;
  greatest : max l.greatest (greatest_along (auto_of l.self) l.reached (drop l.letter-index l.letters)) ≡ greatest_along
      (auto_of l.self) l.state l.letters;
}
