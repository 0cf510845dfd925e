use Rattle.std.proofs.Common.{rules}
use Rattle.ps_text.proofs.BytesAndDigits.Bytes.Moves.{is_empty_true, is_empty_false}
use Rattle.ps_circuit.proofs.ReadCircuits.FieldLemmas.{gap_reads, gap_stops}
use Rattle.ps_circuit.proofs.fields.gap.Goals as goal

pub returns-then-is_empty : goal.returns-then-is_empty
returns-then-is_empty c = search (rules, gap_stops, is_empty_true)

pub returns : goal.returns
returns c = gap_reads c.run.ensures (is_empty_false c.run.result.now c.is_empty.ensures c.if-is_empty.false)
