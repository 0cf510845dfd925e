use Rattle.std.proofs.Common.{rules, ℕ, Bool}
use Rattle.ps_circuit.specs.Building.{MeetsEquations}
use Rattle.ps_circuit.specs.Gates.{or_of}
use Rattle.ps_circuit.proofs.GatesAndLinks.GateLemmas.{or_bits}
use Rattle.ps_circuit.proofs.builder.Builder.or.Goals as goal

pub returns : goal.returns
unfolding or_of
returns c =
    let bits = λ (v : ℕ → Bool) (m : MeetsEquations c.and.new.self v).
    or_bits v c.args.x c.args.y c.in_ok-neither.neither c.negated.ensures c.negated-2.ensures c.negated-3.ensures
    (c.in_ok-neither.ensures.bit v m) in
    search (rules, bits)
