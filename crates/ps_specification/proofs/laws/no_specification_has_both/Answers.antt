use Rattle.ps_specification.proofs.BothPlayers.{not_both}
use Rattle.ps_specification.proofs.DistinctNames.{are_distinct}
use Rattle.ps_specification.specs.Requirements.{order_in, requirement_of}
use Rattle.ps_specification.proofs.laws.no_specification_has_both.Goals as goal

pub returns : goal.returns
returns c =
    let one = c.circuit_has_one_values.ensures in
    record {
      formula = λ order f controller environment distinct is_c is_e. not_both order f controller environment distinct
          is_c is_e (one controller is_c) (one environment is_e);
      specification = λ text spec controller environment reads first second. not_both (order_in spec)
          (requirement_of spec) controller environment
          (are_distinct (requirement_of spec).names (c.names_differ.ensures.distinct text spec reads))
          first.is_circuit second.is_circuit (one controller first.is_circuit) (one environment second.is_circuit)
          first.wins second.wins;
    }
