use Rattle.std.proofs.Common.{arith, ◌∙◌, sym}
use Rattle.ps_ids.proofs.Members.{Contains-any, Contains-none}
use Rattle.ps_circuit.proofs.ReadCircuits.ReadingLemmas.{adds_variable}
use Rattle.ps_circuit.proofs.lines.adds.Goals as goal

pub push-requires : goal.push-requires
push-requires c = Contains-none c.args.variable c.args.variables.now (sym c.has.ensures ∙ c.if-has.false)

pub returns-clause-new : goal.returns-clause-new
returns-clause-new c = adds_variable c.in_ok-push.ensures.ok
    (Contains-none c.args.variable c.args.variables.now (sym c.has.ensures ∙ c.if-has.false))

pub returns-then-has-clause-twice : goal.returns-then-has-clause-twice
returns-then-has-clause-twice c = grind (arith, Contains-any)
