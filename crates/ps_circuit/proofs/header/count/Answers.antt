use Rattle.ps_circuit.proofs.ReadCircuits.NumberLemmas.{count_reads, count_fails}
use Rattle.ps_circuit.proofs.header.count.Goals as goal

pub returns-in_err-count : goal.returns-in_err-count
returns-in_err-count c =
    count_fails c.args.cursor.now c.field.new.cursor _ _ _ c.in_err-count.ensures c.from_residual.ensures.1

pub returns : goal.returns
returns c = count_reads c.args.cursor.now c.field.new.cursor c.in_ok-count.count c.in_ok-count.ensures
