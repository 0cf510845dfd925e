-- The parts from which the circuit of a machine is built. (For private functions.)
-- - `AreLatches from next latches`: the latches' variables are numbered from `from` on, and the literals of the
--   latches' next values are `next`
-- - `IsBuilt b d next outputs c`: the circuit c has the gates of d, the literals `next` for the latches' next values,
--   and the output literals `outputs`
-- - `IsCircuitOf b c`: c is the circuit of the machine b, and has all properties that the crate promises of it
use Rattle.std.specs.Prelude.{◌≡◌, ℕ, ◌+◌, ◌*◌, ◌<◌, false, IsTrue, List, length, map, slice_get, slice_index, Some}
use Rattle.std.specs.Prelude.{None, replicate}
use Rattle.std.specs.List.{range_with_len}
use Rattle.ps_machine.specs.Behaviours.{Behaviour}
use Rattle.ps_circuit.specs.declared.parts.Latch.{Latch}
use Rattle.ps_circuit.specs.Circuits.{CircuitData}
use Rattle.ps_aiger.specs.Encoded.{Encodes, IsTidy, symbols_of}
use Rattle.ps_circuit.specs.Building.{Drafted, variables_of}
use Rattle.ps_aiger.specs.Timing.{SeesNoInput}
use Rattle.ps_aiger.specs.Wires.{AreGates, IsWired}

pub record AreLatches (from : ℕ) (next : List ℕ) (latches : List Latch) : Type 0 where
  pub many : length latches ≡ length next
  pub each : (k : ℕ) → k < length next → slice_get latches k ≡ Some
      (record { literal = 2 * (from + k); next = slice_index next k; reset = false })

pub record IsBuilt (b : Behaviour) (d : Drafted) (next outputs : List ℕ) (c : CircuitData) : Type 0 where
  pub most : c.most ≡ variables_of d
  pub inputs : c.inputs ≡ map (λ v. 2 * v) (range_with_len 1 (length b.inputs))
  pub latches : AreLatches (length b.inputs + 1) next c.latches
  pub output_literals : c.outputs ≡ outputs
  pub gates : AreGates (d.given + 1) d.gates c.gates
  pub input_names : c.input_names ≡ symbols_of b.names b.inputs
  pub output_names : c.output_names ≡ symbols_of b.names b.outputs
  pub latch_names : c.latch_names ≡ replicate (length next) None

pub record IsCircuitOf (b : Behaviour) (c : CircuitData) : Type 0 where
  pub encodes : Encodes b c
  pub tidy : IsTidy c
  pub wired : IsWired b c
  pub sees_no_input : IsTrue b.is_first → SeesNoInput c
