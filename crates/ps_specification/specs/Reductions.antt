-- What a circuit is that takes the place of a given circuit which wins for a formula.
-- - `IsSmallerFor order role f given small`: the circuit `small` wins, and is not larger than the circuit `given`
-- - `IsReductionFor order role f given reduction`: the given circuit wins, and the reduction is a circuit that wins
--   and is not larger; or the reduction is a stimulus on which the given circuit loses
use Rattle.ps_circuit.specs.Circuits.{CircuitData}
use Rattle.ps_machine.specs.declared.key.Order.{Order}
use Rattle.ps_models.specs.Judgements.{IsLosingFor, IsWinningFor, NamedFormula}
use Rattle.ps_shrink.specs.Reductions.{IsReductionBy, IsSmallerBy}
use Rattle.ps_shrink.specs.declared.reduction.Reduction.{Reduction}
use Rattle.ps_simulate.specs.declared.role.Role.{Role}

abbrev pub IsSmallerFor : Order → Role → NamedFormula → (given small : CircuitData) → Type 0
IsSmallerFor order role f given small = IsSmallerBy (IsWinningFor order role f) given small

abbrev pub IsReductionFor : Order → Role → NamedFormula → CircuitData → Reduction → Type 0
IsReductionFor order role f given reduction =
    IsReductionBy (IsWinningFor order role f) (IsLosingFor order role f) given reduction
