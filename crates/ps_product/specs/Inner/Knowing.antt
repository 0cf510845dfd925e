-- A table has the variables of a circuit that have been evaluated, as functions of the inputs, for given values of the
-- latches.
use Rattle.std.specs.Prelude.{◌≡◌, ℕ, ◌^◌, ◌<◌, Bool, List, length, Option, None, Some, All, slice_get}
use Rattle.std.specs.Prelude.{slice_index_or, slice_set}
use Rattle.ps_circuit.specs.Circuits.{CircuitData, IsCircuit}
use Rattle.ps_circuit.specs.Values.{AreValues}
use Rattle.ps_diagram.specs.Table.{Keeps, Table}
use Rattle.ps_product.specs.Inner.Nets.{IsBelow, read_at, value_at}
use Rattle.ps_product.specs.Truths.{IsTruth, bits_at, truth_at}
use Rattle.ps_product.specs.declared.site.Site.{Site}
use Rattle.ps_product.specs.declared.truth.Truth.{Truth}
use Rattle.ps_simulate.specs.declared.plan.Wire.{Wire}
use Rattle.ps_simulate.specs.Plans.{variables}

-- the table has no valid entry: no variable has been evaluated
abbrev pub IsForgotten : List (Option Truth) → Type 0
IsForgotten known = (place : ℕ) → slice_index_or known place None ≡ None

-- the conditions for evaluating a circuit: a proposition for each input, and a bit for each latch
pub record IsSite (s : Site) (t : Table) : Type 0 where
  pub is_circuit : IsCircuit s.net.now
  pub inputs : length s.propositions.now ≡ length s.net.now.inputs
  pub named : All (λ p. p < t.propositions) s.propositions.now
  pub latches : length s.latches.now ≡ length s.net.now.latches

-- at each letter of the inputs, the function `truth` has the value of the variable with the index `place`
pub record IsTruthAt (s : Site) (t : Table) (place : ℕ) (truth : Truth) : Type 0 where
  pub is_truth : IsTruth t truth
  pub holds : (letter : ℕ) (values : List Bool) → letter < 2 ^ t.propositions →
      AreValues s.net.now (bits_at s.propositions.now letter) s.latches.now values → truth_at t truth letter ≡ value_at
      s.net.now values place

-- the table has an entry for each variable of the circuit, and each function in it has its variable's value at each
-- letter
pub record Knows (s : Site) (t : Table) (known : List (Option Truth)) : Type 0 where
  pub size : length known ≡ length (variables s.net.now)
  pub each : (place : ℕ) (truth : Truth) → slice_index_or known place None ≡ Some truth → IsTruthAt s t place truth

-- `IsReady` must hold before a circuit is evaluated; `Learns` holds afterwards, also if memory ran out
pub record IsReady (s : Site) (t : Table) (known : List (Option Truth)) : Type 0 where
  pub site : IsSite s t
  pub knows : Knows s t known

-- the circuit can be evaluated, and `place` is the index of a variable
pub record IsReadyAt (s : Site) (t : Table) (known : List (Option Truth)) (place : ℕ) : Type 0 where
  pub ready : IsReady s t known
  pub within : place < length (variables s.net.now)

pub record Learns (s : Site) (old new : Table) (known : List (Option Truth)) : Type 0 where
  pub keeps : Keeps old new
  pub knows : Knows s new known

-- one step evaluates the variable at `place`, or changes nothing and returns a variable that must be evaluated first
abbrev pub IsStep : CircuitData → ℕ → List (Option Truth) → List (Option Truth) → Option ℕ → Type 0
IsStep c place old new None = (truth : Truth) × (new ≡ slice_set old place (Some truth))
IsStep c place old new (Some lower) =
    (new ≡ old) × IsBelow c place lower × (slice_index_or old lower None ≡ None)

-- at each letter of the inputs, the function `truth` has the value of the literal
pub record IsTruthAlong (s : Site) (t : Table) (w : Wire) (truth : Truth) : Type 0 where
  pub is_truth : IsTruth t truth
  pub holds : (letter : ℕ) (values : List Bool) → letter < 2 ^ t.propositions →
      AreValues s.net.now (bits_at s.propositions.now letter) s.latches.now values → truth_at t truth letter ≡ read_at
      s.net.now values w

pub record AreTruthsAlong (s : Site) (t : Table) (wires : List Wire) (truths : List Truth) : Type 0 where
  pub one_each : length truths ≡ length wires
  pub each : (k : ℕ) (w : Wire) (truth : Truth) → slice_get wires k ≡ Some w → slice_get truths k ≡ Some truth →
      IsTruthAlong s t w truth
