use Rattle.std.proofs.Common.{List, ℕ, [], ◌∷◌, ◌++◌, arith, subst, sym}
use Rattle.ps_circuit.specs.Inner.NearAndFar.{AreKept}
use Rattle.ps_circuit.proofs.ReadCircuits.NearAndFar.{kept_near, kept_far}
use Rattle.ps_circuit.proofs.variables.record.Goals as goal

pub returns-then-variable-len-clause-ok : goal.returns-then-variable-len-clause-ok
returns-then-variable-len-clause-ok c = λ list kept. kept_near list c.args.variable kept
    (omega (arith, c.if-variable-len.true, c.len.ensures, c.args.near.now.ok.0))

pub returns-clause-ok : goal.returns-clause-ok
returns-clause-ok c = λ list kept.
    subst (λ (far : List ℕ). AreKept (list ++ c.args.variable ∷ []) c.args.near.now.items far)
    (sym c.in_ok-push.ensures.ok) (kept_far list c.args.variable kept
    (omega (arith, c.if-variable-len.false, c.len.ensures, c.args.near.now.ok.0)))
