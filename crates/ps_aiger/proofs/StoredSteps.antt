-- In either form of a machine, a bit of its step is the bit at the leaf of the diagram for this bit.
use Rattle.std.proofs.Common.{◌≡◌, ℕ, ◌<◌, length, refl, subst}
use Rattle.std.specs.Prelude.{is_some}
use Rattle.std.proofs.lemmas.Option.{get_or_from_slice_get, slice_get_within}
use Rattle.ps_label.specs.Truth.{is_in}
use Rattle.ps_diagram.specs.Table.{leaf_of}
use Rattle.ps_machine.specs.Behaviours.{IsMachine}
use Rattle.ps_machine.specs.BitMachines.{BitMachineData, IsWholeBitMachine, bit_behaviour}
use Rattle.ps_machine.proofs.Machines.WholeBitMachines.{bit_is}
use Rattle.ps_aiger.specs.declared.stored.Stored.{Stored}
use Rattle.ps_aiger.specs.declared.stored.Stored.TheVariants.{Bits, Rows}
use Rattle.ps_aiger.specs.declared.stored.Wanted.{Wanted}
use Rattle.ps_aiger.specs.declared.stored.Wanted.TheVariants.{Next, Output}
use Rattle.ps_aiger.specs.Inner.Functions.{IsWanted, IsWhole, behaviour_of, bit_at, bit_of_leaf, bit_wanted, node_in}
use Rattle.ps_aiger.specs.Inner.Functions.{node_of_bit, store_of}

pub machine_is : (m : Stored) → IsWhole m → IsMachine (behaviour_of m)
machine_is (Rows m) whole = whole.is_machine
machine_is (Bits m) whole = whole.is_machine

bit_step : (m : BitMachineData) (w : Wanted) → IsWholeBitMachine m → IsWanted m.outputs w → (memory x : ℕ) →
    memory < length m.nodes →
    bit_wanted (bit_behaviour m) w memory x ≡ bit_of_leaf w (leaf_of m.store (node_of_bit m w memory) x)
bit_step m (Next j) whole wanted memory x within = refl
bit_step m (Output place p) whole wanted memory x within =
    subst (λ (q : ℕ). is_in q ((bit_behaviour m).plays memory x)
    ≡ is_some (leaf_of m.store (node_of_bit m (Output place p) memory) x))
    (get_or_from_slice_get m.outputs place p 0 wanted)
    (bit_is whole memory place x within (slice_get_within m.outputs place p wanted))

pub step_is : (m : Stored) (w : Wanted) → IsWhole m → IsWanted (behaviour_of m).outputs w → (memory x : ℕ) →
    memory < (behaviour_of m).memories →
    bit_wanted (behaviour_of m) w memory x ≡ bit_at m w (leaf_of (store_of m) (node_in m w memory) x)
step_is (Rows m) (Next j) whole wanted memory x within = refl
step_is (Rows m) (Output place p) whole wanted memory x within = refl
step_is (Bits m) w whole wanted memory x within = bit_step m.now w whole wanted memory x within
