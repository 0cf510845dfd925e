-- Boolean functions of letters (truths), stored as decision diagrams.
-- - `truth_at t truth letter`: the value of the function `truth` at the letter
-- - `with_sign is_negated b`: the bit b, negated if the flag is set
-- - `IsTruth t truth`: `truth` is `Never`, `Always`, or has a node that is true at some but not all letters
-- - `bits_at propositions letter`: the bits of these propositions at a letter
-- - `MakesTruth old new result bit`: a call that changed the table from `old` to `new` kept all nodes, and returned the
--   function with the value `bit letter` at each letter, or failed
-- - `IsTruthOf c propositions latches t truth literal`: the function `truth` has the literal's bit at each letter
-- - `AreTruthsOf`, `IsOutcome`: like `IsTruthOf`, but for a list of literals, and for a circuit's outputs and next
--   latches
use Rattle.std.specs.Prelude.{◌≡◌, ℕ, ◌^◌, ◌<◌, Bool, true, false, not, is_some, if◌then◌else◌, List, length, map}
use Rattle.std.specs.Prelude.{slice_get, IfOk, Result, Some}
use Rattle.ps_label.specs.Truth.{is_in}
use Rattle.ps_circuit.specs.Circuits.{CircuitData}
use Rattle.ps_circuit.specs.Values.{AreValues, bit_of}
use Rattle.ps_diagram.specs.Labels.{IsOneOrNone, one_where}
use Rattle.ps_diagram.specs.Table.{Table, IsNode, Keeps, leaf_of}
use Rattle.ps_product.specs.declared.truth.Truth.{Truth}
use Rattle.ps_product.specs.declared.truth.Truth.TheVariants.{Never, Always, Sometimes}
use Rattle.ps_simulate.specs.declared.plan.Wire.{Wire}

abbrev pub with_sign : Bool → Bool → Bool
with_sign is_negated b = if is_negated then not b else b

abbrev pub truth_at : Table → Truth → ℕ → Bool
truth_at t Never letter = false
truth_at t Always letter = true
truth_at t (Sometimes is_negated node) letter = with_sign is_negated (is_some (leaf_of t node letter))

-- the diagram of a function that is not constant: each leaf is 1; some letter has a leaf, and some letter has none
pub record IsVarying (t : Table) (node : ℕ) : Type 0 where
  pub held : IsNode t node
  pub leaves : (letter : ℕ) → IsOneOrNone (leaf_of t node letter)
  pub varies : (b : Bool) → ¬ ((letter : ℕ) → letter < 2 ^ t.propositions → leaf_of t node letter ≡ one_where b)

abbrev pub IsTruth : Table → Truth → Type 0
IsTruth t Never = Unit {0}
IsTruth t Always = Unit {0}
IsTruth t (Sometimes is_negated node) = IsVarying t node

-- the bit of a literal, given the bit of its variable
abbrev pub bit_by_wire : Wire → Bool → Bool
bit_by_wire w b = with_sign w.is_negated b

-- The result of a call is the Boolean function `bit`, or the call has failed. All earlier nodes of the table remain,
-- also if memory runs out.
pub record MakesTruth {E : Type 0} (old new : Table) (result : Result Truth E) (bit : ℕ → Bool) : Type 0 where
  pub keeps : Keeps old new
  pub is_truth : IfOk result (IsTruth new)
  pub truth : IfOk result
      (λ truth. (letter : ℕ) → letter < 2 ^ old.propositions → truth_at new truth letter ≡ bit letter)

abbrev pub bits_at : List ℕ → ℕ → List Bool
bits_at propositions letter = map (λ p. is_in p letter) propositions

-- If the circuit's inputs are the bits of these propositions at a letter, and its latches are as given, the literal has
-- the value of `truth` at this letter.
pub record IsTruthOf (c : CircuitData) (propositions : List ℕ) (latches : List Bool) (t : Table) (truth : Truth)
    (literal : ℕ) : Type 0 where
  pub is_truth : IsTruth t truth
  pub holds : (letter : ℕ) (values : List Bool) → letter < 2 ^ t.propositions →
      AreValues c (bits_at propositions letter) latches values → truth_at t truth letter ≡ bit_of values literal

pub record AreTruthsOf (c : CircuitData) (propositions : List ℕ) (latches : List Bool) (t : Table)
    (truths : List Truth) (literals : List ℕ) : Type 0 where
  pub one_each : length truths ≡ length literals
  pub each : (k literal : ℕ) (truth : Truth) → slice_get truths k ≡ Some truth → slice_get literals k ≡ Some literal →
      IsTruthOf c propositions latches t truth literal

-- the values of a list of functions at a letter
abbrev pub bits_of : Table → List Truth → ℕ → List Bool
bits_of t truths letter = map (λ truth. truth_at t truth letter) truths

-- these functions of the inputs are the circuit's outputs and next latches at the given latches
pub record IsOutcome (c : CircuitData) (propositions : List ℕ) (latches : List Bool) (t : Table)
    (outputs nexts : List Truth) : Type 0 where
  pub outputs_are : AreTruthsOf c propositions latches t outputs c.outputs
  pub nexts_are : AreTruthsOf c propositions latches t nexts (map (λ l. l.next) c.latches)
