use Rattle.std.proofs.Common.{rules}
use Rattle.ps_text.specs.Digits.{decimal_value}
use Rattle.ps_text.proofs.BytesAndDigits.Bytes.Moves.{is_empty_true, is_empty_false}
use Rattle.ps_circuit.proofs.ReadCircuits.FieldLemmas.{value_saturated}
use Rattle.ps_circuit.proofs.fields.number.Goals as goal

pub returns-then-is_empty : goal.returns-then-is_empty
returns-then-is_empty c = search (rules, is_empty_true)

pub returns : goal.returns
returns c = record {
  run = c.digits-digits.result.bytes.now;
  passes = c.digits-digits.ensures.passes;
  some = is_empty_false c.digits-digits.result.bytes.now c.is_empty.ensures c.if-is_empty.false;
  value = value_saturated (decimal_value c.digits-digits.result.bytes.now) c.digits-digits.result.value
      c.unwrap_or.ensures c.unwrap_or.type_inv c.digits-digits.ensures.value c.digits-digits.ensures.large;
  offset = c.offset-offset.ensures;
}
