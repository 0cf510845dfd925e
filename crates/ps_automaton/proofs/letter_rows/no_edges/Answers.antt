use Rattle.std.proofs.Common.{rules}
use Rattle.ps_automaton.proofs.EdgesAtLetters.FirstEdges.{none_at}
use Rattle.ps_automaton.proofs.letter_rows.no_edges.Goals as goal

pub returns-clause-none : goal.returns-clause-none
returns-clause-none c = search (rules, none_at)
