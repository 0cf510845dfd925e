use Rattle.ps_pruning.proofs.Lifted.{kept_winner, first_entry}
use Rattle.ps_pruning.proofs.laws.lift_keeps_winners.Goals as goal

pub returns : goal.returns
returns c = record { winners = kept_winner; firsts = first_entry }
