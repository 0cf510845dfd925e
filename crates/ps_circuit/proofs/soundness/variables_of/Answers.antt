use Rattle.std.proofs.Common.{arith}
use Rattle.ps_ids.proofs.Members.{Contains-any, Contains-none}
use Rattle.ps_circuit.proofs.GatesAndLinks.TestedParts.{defines_more, fresh_before}
use Rattle.ps_circuit.proofs.soundness.variables_of.Goals as goal
use Rattle.ps_circuit.proofs.soundness.variables_of.Goals.{then-not-can_define-via-then-not-can_define}
use Rattle.ps_circuit.proofs.soundness.variables_of.Goals.{then-not-can_define-via-else-not-can_define+then-has}

pub returns-then-not-can_define-clause-none : goal.returns-then-not-can_define-clause-none
returns-then-not-can_define-clause-none c = λ can. elim c.then-not-can_define.branch [
  | then-not-can_define-via-then-not-can_define w ↦ grind (
    arith,
    can.each c.loop-literal.literal-index c.literal-item.result c.loop-literal-test.true,
  )
  | then-not-can_define-via-else-not-can_define+then-has w ↦
      fresh_before c.args.literals.now c.loop-literal.literal-index c.literal-item.result c.loop-literal-test.true
      c.loop-literal.invariant can (Contains-any _ _ (grind arith))
]

pub loop-literal-preserved : goal.loop-literal-preserved
loop-literal-preserved c = defines_more c.args.literals.now c.loop-literal.literal-index c.literal-item.result
    {new = c.push.new.self} c.loop-literal-test.true c.loop-literal.invariant (grind arith) (grind arith)
    (Contains-none _ _ (grind arith))
