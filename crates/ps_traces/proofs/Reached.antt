-- If a circuit's outputs are in time (independent of the inputs, if its player moves first) at all latch values, they
-- are in time at those that traces reach.
use Rattle.ps_circuit.specs.Circuits.{CircuitData}
use Rattle.ps_machine.specs.declared.key.Order.{Order}
use Rattle.ps_simulate.specs.declared.role.Role.{Role}
use Rattle.ps_traces.specs.Shapes.{IsInTime, IsInTimeWhereReached}

pub in_time_where_reached : (order : Order) (role : Role) (c : CircuitData) → IsInTime order role c →
    IsInTimeWhereReached order role c
in_time_where_reached order role c h = λ first latches x y xo yo xn yn reached a b. h first latches x y xo yo xn yn a b
