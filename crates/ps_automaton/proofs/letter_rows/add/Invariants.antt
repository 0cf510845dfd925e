use Rattle.std.proofs.Common.{◌≡◌, ◌<◌, ◌≤◌, ℕ, length}
use Rattle.ps_automaton.specs.Inner.LetterSets.{IsAdded, edge_at, in_words}
use Rattle.ps_automaton.proofs.letter_rows.add.Given as goal

abbrev pub invariant-loop-letter : goal.invariant-loop-letter
invariant-loop-letter l = record {
  letters : length l.edges ≡ length l.fn.edges;
  visited : (k : ℕ) → k < l.letter → IsAdded l.targets l.place (in_words k l.set) (edge_at l.fn.edges k)
      (edge_at l.edges k);
  others : (k : ℕ) → l.letter ≤ k → edge_at l.edges k ≡ edge_at l.fn.edges k;
}
