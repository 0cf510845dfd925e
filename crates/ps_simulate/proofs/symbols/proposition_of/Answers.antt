use Rattle.std.proofs.Common.{arith}
use Rattle.std.proofs.lemmas.List.{length-map}
use Rattle.std.proofs.lemmas.Slice.Eq.{bytes_eq-Decides}
use Rattle.ps_simulate.proofs.NamingLemmas.{beq_same, name_at}
use Rattle.ps_simulate.proofs.symbols.proposition_of.Goals as goal
use Rattle.ps_simulate.proofs.symbols.proposition_of.Goals.{else-eq-via-then-eq+else-is_in_list-wanted}
use Rattle.ps_simulate.proofs.symbols.proposition_of.Goals.{else-eq-via-else-eq}

pub returns-then-is_in_list-wanted : goal.returns-then-is_in_list-wanted
returns-then-is_in_list-wanted c = grind (arith, length-map, name_at, bytes_eq-Decides, beq_same)

pub loop-p-preserved : goal.loop-p-preserved
loop-p-preserved c = grind (arith, name_at, bytes_eq-Decides)
