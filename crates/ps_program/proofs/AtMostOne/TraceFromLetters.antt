-- A circuit whose gates have only one possible value in each step has only one trace for given input letters.
use Rattle.std.proofs.Common.{arith, ◌≡◌, ℕ, Bool, List, flat_map}
use Rattle.ps_circuit.specs.Circuits.{CircuitData, IsCircuit}
use Rattle.ps_circuit.specs.Values.{HasOneValues}
use Rattle.ps_simulate.proofs.UniqueVerdicts.OneTrace.{runs_agree}
use Rattle.ps_program.specs.Commands.Simulating.{PrintsTrace}

module _ (c : CircuitData) (is_circuit : IsCircuit c) (one : HasOneValues c) where
  -- two printed traces of the circuit for the same input letters are equal
  pub traces_agree : (letters : List (List Bool)) (text other : List ℕ) → PrintsTrace c letters text →
      PrintsTrace c letters other → text ≡ other
  traces_agree letters text other a b = grind (arith, runs_agree, flat_map)
