-- The law `solution_has_entries` is proved by the lemma `solution_entries`.
use Rattle.ps_solution.proofs.SpelledEntries.{solution_entries}
use Rattle.ps_solution.proofs.laws.solution_has_entries.Goals as goal

pub returns : goal.returns
returns c = solution_entries
