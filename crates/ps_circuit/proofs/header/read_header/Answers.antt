use Rattle.std.proofs.Common.{arith, refl}
use Rattle.ps_text.proofs.BytesAndDigits.Bytes.Lefts.{past, stops_at, stops_last, reads_last}
use Rattle.ps_circuit.proofs.ReadCircuits.CircuitTextLaws.{chain_header, chain_0, chain_1, chain_2, chain_3, chain_4}
use Rattle.ps_circuit.proofs.ReadCircuits.CircuitTextLaws.{header_of}
use Rattle.ps_circuit.proofs.ReadCircuits.NumberLemmas.{header_exit, header_unread, past_most, past_inputs}
use Rattle.ps_circuit.proofs.ReadCircuits.NumberLemmas.{past_latches}
use Rattle.ps_circuit.proofs.ReadCircuits.NumberLemmas.{past_outputs, past_gates}
use Rattle.ps_circuit.proofs.header.read_header.Goals as goal

pub returns-in_err-word : goal.returns-in_err-word
returns-in_err-word c = header_exit c.args.cursor.now _ _ _
    (stops_at chain_header header_unread _ c.in_err-word.ensures) c.from_residual.ensures.1

pub returns-in_err-most : goal.returns-in_err-most
returns-in_err-most c = grind (
  arith,
  stops_at chain_0 (past chain_header header_unread c.in_ok-word.ensures) _ c.in_err-most.ensures.exact,
)

pub returns-in_err-inputs : goal.returns-in_err-inputs
returns-in_err-inputs c = grind (
  arith,
  stops_at (chain_1 c.in_ok-most.most)
      (past_most c.in_ok-word.ensures c.in_ok-most.ensures.exact) _ c.in_err-inputs.ensures,
)

pub returns-in_err-latches : goal.returns-in_err-latches
returns-in_err-latches c =
    let i = c.in_ok-inputs.ensures in
    grind (
      arith,
      stops_at (chain_2 c.in_ok-most.most i.0)
          (past_inputs c.in_ok-word.ensures c.in_ok-most.ensures.exact i.2) _ c.in_err-latches.ensures,
    )

pub returns-in_err-outputs : goal.returns-in_err-outputs
returns-in_err-outputs c =
    let i = c.in_ok-inputs.ensures in
    let l = c.in_ok-latches.ensures in
    grind (
      arith,
      stops_at (chain_3 c.in_ok-most.most i.0 l.0)
          (past_latches c.in_ok-word.ensures c.in_ok-most.ensures.exact i.2 l.2) _ c.in_err-outputs.ensures,
    )

pub returns-in_err-gates : goal.returns-in_err-gates
returns-in_err-gates c =
    let i = c.in_ok-inputs.ensures in
    let l = c.in_ok-latches.ensures in
    let o = c.in_ok-outputs.ensures in
    grind (
      arith,
      stops_at (chain_4 c.in_ok-most.most i.0 l.0 o.0)
          (past_outputs c.in_ok-word.ensures c.in_ok-most.ensures.exact i.2 l.2 o.2) _ c.in_err-gates.ensures,
    )

pub returns-in_err-sections : goal.returns-in_err-sections
returns-in_err-sections c =
    let i = c.in_ok-inputs.ensures in
    let l = c.in_ok-latches.ensures in
    let o = c.in_ok-outputs.ensures in
    let a = c.in_ok-gates.ensures in
    header_exit c.args.cursor.now _ _ _ (stops_last (header_of c.in_ok-most.most i.0 l.0 o.0 a.0)
    (past_gates c.in_ok-word.ensures c.in_ok-most.ensures.exact i.2 l.2 o.2 a.2) _ c.in_err-sections.ensures)
    c.from_residual-in_err-sections.ensures.1

pub returns : goal.returns
returns c =
    let i = c.in_ok-inputs.ensures in
    let l = c.in_ok-latches.ensures in
    let o = c.in_ok-outputs.ensures in
    let a = c.in_ok-gates.ensures in
    let of = header_of c.in_ok-most.most i.0 l.0 o.0 a.0 in (
      of tt,
      record { most = refl; inputs = i.1; latches = l.1; outputs = o.1; gates = a.1 },
      reads_last of (past_gates c.in_ok-word.ensures c.in_ok-most.ensures.exact i.2 l.2 o.2 a.2)
          c.in_ok-sections.ensures refl,
    )
