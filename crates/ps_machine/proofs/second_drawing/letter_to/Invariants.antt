use Rattle.std.proofs.Common.{◌≢◌, ℕ, ◌<◌, get_or}
use Rattle.ps_automaton.specs.Automata.{pair_of}
use Rattle.ps_machine.proofs.second_drawing.letter_to.Given as goal

-- none of the leaves visited so far is the index of the step for which the loop searches
abbrev pub invariant-loop-leaf : goal.invariant-loop-leaf
invariant-loop-leaf l = (k : ℕ) (d : ℕ × ℕ) → k < l.leaf-index → pair_of l.automaton (get_or l.leaves k d).0 ≢ l.step
