use Rattle.std.proofs.Common.{rules}
use Rattle.ps_certificate.proofs.SparseRows.Lines.{has_line, choice_at}
use Rattle.ps_certificate.proofs.entries.Entries.choice.Goals as goal

pub index-requires : goal.index-requires
index-requires c = search (rules, has_line)

pub returns-in-Some : goal.returns-in-Some
returns-in-Some c = search (rules, choice_at)

pub returns-in-None : goal.returns-in-None
returns-in-None c = search (rules, choice_at)
