use Rattle.std.proofs.Common.{arith, ◌∙◌, Ok, ap}
use Rattle.ps_circuit.specs.Literals.{variable}
use Rattle.ps_circuit.specs.Texts.{WrongDefinition}
use Rattle.ps_circuit.specs.Inner.Reading.{AddsVariable}
use Rattle.ps_text.proofs.BytesAndDigits.Bytes.Single.{refuted}
use Rattle.ps_circuit.proofs.ReadCircuits.NumberLemmas.{number_none}
use Rattle.ps_circuit.proofs.ReadCircuits.LineLemmas.{definition_reads, definition_wrong, definition_twice}
use Rattle.ps_circuit.proofs.ReadCircuits.ReadingLemmas.{defines_one, at_true}
use Rattle.ps_circuit.proofs.lines.definition.Goals as goal

pub returns-in_err-number-clause-exact : goal.returns-in_err-number-clause-exact
returns-in_err-number-clause-exact c =
    let Wrong = WrongDefinition c.args.header.most c.args.variables.now in
    grind (arith, number_none Wrong c.number.new.cursor _ c.in_err-number.ensures)

pub returns-then-not-can_define-clause-exact : goal.returns-then-not-can_define-clause-exact
returns-then-not-can_define-clause-exact c = definition_wrong c.args.header.most c.args.variables.now c.args.header.small
    c.in_ok-number.ensures (refuted c.can_define.ensures.1 c.if-not-can_define.true) c.refused.ensures

pub returns-in_err-adds-clause-exact : goal.returns-in_err-adds-clause-exact
returns-in_err-adds-clause-exact c = grind arith

pub returns-then-not-branch-clause-exact : goal.returns-then-not-branch-clause-exact
returns-then-not-branch-clause-exact c = definition_twice c.args.header.most c.args.variables.now c.args.header.small
    c.in_ok-number.ensures (c.can_define.ensures.0 c.if-not-can_define.false) (rw c.variable.ensures at
    (c.adds.ensures.twice (c.in_ok-adds.was ∙ ap Ok c.if-not-branch.true))) c.refused-then-not-branch.ensures

pub returns-clause-exact : goal.returns-clause-exact
returns-clause-exact c =
    let adds = at_true c.in_ok-adds.field-0 (AddsVariable c.args.variables.now (variable c.in_ok-number.number.value)
    c.adds.new.variables) c.if-not-branch.false (rw c.variable.ensures at c.in_ok-adds.ensures.new) in
    definition_reads c.args.header.most c.args.header.small c.in_ok-number.ensures
    (c.can_define.ensures.0 c.if-not-can_define.false) adds

pub returns-clause-defined : goal.returns-clause-defined
returns-clause-defined c =
    let adds = at_true c.in_ok-adds.field-0 (AddsVariable c.args.variables.now (variable c.in_ok-number.number.value)
    c.adds.new.variables) c.if-not-branch.false (rw c.variable.ensures at c.in_ok-adds.ensures.new) in
    defines_one c.in_ok-number.number.value (c.can_define.ensures.0 c.if-not-can_define.false) adds
