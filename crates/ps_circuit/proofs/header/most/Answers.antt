use Rattle.std.proofs.Common.{arith}
use Rattle.ps_circuit.proofs.ReadCircuits.Judges.{judge_most}
use Rattle.ps_circuit.proofs.ReadCircuits.NumberLemmas.{most_reads, most_wrong, field_none}
use Rattle.ps_circuit.proofs.header.most.Goals as goal

pub returns-in_err-most-clause-exact : goal.returns-in_err-most-clause-exact
returns-in_err-most-clause-exact c = grind (arith, field_none judge_most c.field.new.cursor _ c.in_err-most.ensures)

pub returns-then-most-gt-MOST-clause-exact : goal.returns-then-most-gt-MOST-clause-exact
returns-then-most-gt-MOST-clause-exact c =
    most_wrong c.field.new.cursor c.in_ok-most.most c.in_ok-most.ensures (omega arith) c.refused.ensures

pub returns-clause-exact : goal.returns-clause-exact
returns-clause-exact c = most_reads c.in_ok-most.ensures (omega arith)
