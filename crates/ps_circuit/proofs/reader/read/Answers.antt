use Rattle.std.proofs.Common.{arith, ◌∙◌, length, ap}
use Rattle.ps_circuit.specs.Inner.Reading.{draft_data}
use Rattle.ps_circuit.proofs.ReadCircuits.DraftReading.{answer_fails, answer_undefined, answered, answered_circuit}
use Rattle.ps_circuit.proofs.reader.read.Goals as goal

pub returns-in_err-parts-clause-exact : goal.returns-in_err-parts-clause-exact
returns-in_err-parts-clause-exact c =
    answer_fails c.args.text.now _ _ c.in_err-parts.ensures.exact c.from_residual.ensures.1

pub returns-in_err-all_defined-clause-exact : goal.returns-in_err-all_defined-clause-exact
returns-in_err-all_defined-clause-exact c = answer_undefined c.args.text.now (draft_data c.in_ok-parts.field-0)
    c.in_ok-parts.ensures.exact _ _ c.in_err-all_defined.ensures c.from_residual-in_err-all_defined.ensures.1

pub assembled-requires : goal.assembled-requires
assembled-requires c =
    let sound = c.in_ok-parts.ensures.sound in
    record {
      draft = sound.draft c.in_ok-all_defined.ensures;
      starts = ap length c.deref.ensures.value ∙ sound.starts;
    }

pub returns-clause-exact : goal.returns-clause-exact
returns-clause-exact c = grind (arith, answered)

pub returns-clause-well_formed : goal.returns-clause-well_formed
returns-clause-well_formed c = answered_circuit _ _ c.assembled.result c.assembled.ensures
