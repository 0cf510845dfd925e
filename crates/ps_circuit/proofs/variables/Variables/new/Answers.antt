use Rattle.std.proofs.Common.{◌≡◌, Bool, List, arith, false, sym, subst, [], ℕ}
use Rattle.std.proofs.lemmas.Grind.{common_steps}
use Rattle.std.specs.Prelude.{replicate}
use Rattle.ps_circuit.specs.Inner.NearAndFar.{AreKept}
use Rattle.ps_circuit.proofs.ReadCircuits.NearAndFar.{kept_none}
use Rattle.ps_circuit.proofs.variables.Variables.new.Goals as goal

pub invariant_of-result : goal.invariant_of-result
invariant_of-result c =
    let filled : c.in_ok-near.near.items ≡ replicate c.args.limit false = grind (arith, common_steps) in
    subst (λ (far : List ℕ). AreKept c.new.result.items c.in_ok-near.near.items far) (sym c.new-2.ensures)
    (subst (λ (vs : List ℕ). AreKept vs c.in_ok-near.near.items []) (sym c.new.ensures.items)
    (subst (λ (ms : List Bool). AreKept [] ms []) (sym filled) (kept_none c.args.limit)))
