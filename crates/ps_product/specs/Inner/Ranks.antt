-- The order in which the variables of a circuit are evaluated.
use Rattle.std.specs.Prelude.{ℕ, suc, ◌-◌, ◌<◌, List, if◌then◌else◌, nat_eq, nat_lt}
use Rattle.std.specs.List.{position_or_len}
use Rattle.ps_circuit.specs.Circuits.{CircuitData}
use Rattle.ps_product.specs.Inner.Nets.{IsBelow, front_of}

-- the rank of a variable is 0 if it is no gate, and otherwise one more than the gate's index in the order of evaluation
abbrev pub rank : CircuitData → List ℕ → ℕ → ℕ
rank c order place =
    if nat_lt place (front_of c) then 0 else suc (position_or_len (λ i. nat_eq i (place - front_of c)) order)

-- each variable that a gate reads has a lower rank than the gate
abbrev pub RanksFall : CircuitData → List ℕ → Type 0
RanksFall c order = (place lower : ℕ) → IsBelow c place lower → rank c order lower < rank c order place
