use Rattle.std.proofs.Common.{rules, ◌≡◌, length, Ok, ◌<◌, ◌^◌, subst, sym}
use Rattle.ps_circuit.specs.Texts.{ReadsCircuit}
use Rattle.ps_circuit.specs.Written.{text_of}
use Rattle.ps_circuit.proofs.CircuitRereading.RereadText.{reads_again}
use Rattle.ps_circuit.proofs.writer.write.Goals as goal

pub returns-clause-read_again : goal.returns-clause-read_again
returns-clause-read_again c =
    let bytes : c.write_symbols-3.new.out.items ≡ text_of c.args.circuit.now = search rules in
    let i : length c.inputs.result.now < 2 ^ 64 = search rules in
    let l : length c.latches.result.now < 2 ^ 64 = search rules in
    let o : length c.outputs.result.now < 2 ^ 64 = search rules in
    let g : length c.gates.result.now < 2 ^ 64 = search rules in
    subst (λ z. ReadsCircuit z (Ok c.args.circuit.now)) (sym bytes) (reads_again c.inputs.ensures.well_formed
    (subst (λ z. length z < 2 ^ 64) c.inputs.ensures.inputs i)
    (subst (λ z. length z < 2 ^ 64) c.latches.ensures.latches l)
    (subst (λ z. length z < 2 ^ 64) c.outputs.ensures.outputs o)
    (subst (λ z. length z < 2 ^ 64) c.gates.ensures.gates g))
