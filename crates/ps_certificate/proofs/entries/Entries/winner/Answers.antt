use Rattle.std.proofs.Common.{rules}
use Rattle.ps_certificate.proofs.SparseRows.Lines.{has_winner, winner_at}
use Rattle.ps_certificate.proofs.entries.Entries.winner.Goals as goal

pub index-requires : goal.index-requires
index-requires c = search (rules, has_winner)

pub returns : goal.returns
returns c = search (rules, winner_at)
