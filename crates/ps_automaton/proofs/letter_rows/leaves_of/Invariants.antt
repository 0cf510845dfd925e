use Rattle.std.proofs.Common.{◌≡◌, map, take}
use Rattle.ps_automaton.specs.Inner.LetterSets.{entry_for}
use Rattle.ps_automaton.proofs.letter_rows.leaves_of.Given as goal

abbrev pub invariant-loop-edge : goal.invariant-loop-edge
invariant-loop-edge l = l.leaves.items ≡ map (entry_for l.places) (take l.edge-index l.edges)
