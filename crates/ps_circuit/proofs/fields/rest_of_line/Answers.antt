use Rattle.std.proofs.Common.{rules}
use Rattle.ps_text.proofs.BytesAndDigits.Bytes.Moves.{is_empty_true, is_empty_false}
use Rattle.ps_circuit.proofs.ReadCircuits.FieldLemmas.{rest_reads, rest_stops}
use Rattle.ps_circuit.proofs.fields.rest_of_line.Goals as goal

pub returns-then-is_empty : goal.returns-then-is_empty
returns-then-is_empty c = search (rules, rest_stops, is_empty_true)

pub returns : goal.returns
returns c = search (rules, rest_reads, is_empty_false)
