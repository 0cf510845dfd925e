use Rattle.std.proofs.Common.{rules}
use Rattle.ps_certificate.proofs.FlawsAndValidity.SuccessorEdges.{has_entry, own_entry, IsFirstEscape-at}
use Rattle.ps_certificate.proofs.FlawsAndValidity.SuccessorEdges.{StaysInside-from_all}
use Rattle.ps_certificate.proofs.closing.first_escape.Goals as goal

pub winner-requires : goal.winner-requires
winner-requires g c = search (rules, own_entry)

pub winner-requires-in-loop-number : goal.winner-requires-in-loop-number
winner-requires-in-loop-number g c = search (rules, has_entry)

pub returns-then-winner-2-clause-some : goal.returns-then-winner-2-clause-some
returns-then-winner-2-clause-some g c = search (rules, IsFirstEscape-at)

pub returns-clause-none : goal.returns-clause-none
returns-clause-none g c = search (rules, StaysInside-from_all)
