-- What the finite machine of a player does, for one order of moves, and the words that the machine makes.
-- - `Behaviour`: a machine's propositions and player, and its step at each letter of the other player
-- - `IsMachine b`: b is the behaviour of a finite machine
-- - `IsLasso b stem lap`: a run of b from memory state 0 reads and outputs `stem` and then `lap`, and is in the same
--   memory state before and after `lap`
-- - `LassosWon file b`: if b is a controller's machine, the automaton accepts all its words; if b is an environment's
--   machine, it accepts none
use Rattle.std.specs.Prelude.{◌≡◌, ◌≢◌, ℕ, ◌+◌, ◌^◌, ◌<◌, ◌≤◌, ◌⊎◌, ◌↔◌, Bool, false, IsTrue, List, ◌++◌, length}
use Rattle.std.specs.Prelude.{slice_index}
use Rattle.std.specs.List.{AllPairs}
use Rattle.ps_label.specs.Truth.{is_in}
use Rattle.ps_hoa.specs.Files.{FileData, is_among}
use Rattle.ps_hoa.specs.Sound.{AreNames}
use Rattle.ps_automaton.specs.Acceptance.{IsAccepted}

-- `inputs` are the propositions that the machine reads, which belong to the other player. `outputs` are the
-- propositions that the machine outputs. The machine begins in memory state 0.
pub record Behaviour : Type 0 where
  pub names : List (List ℕ)
  pub inputs : List ℕ
  pub outputs : List ℕ
  pub player : ℕ
  pub is_first : Bool
  pub memories : ℕ
  pub next : ℕ → ℕ → ℕ
  pub plays : ℕ → ℕ → ℕ

-- ## Letters

-- x is a letter in which only propositions of the list are true
pub record IsLetterOver (propositions : ℕ) (list : List ℕ) (x : ℕ) : Type 0 where
  pub within : x < 2 ^ propositions
  pub own : (p : ℕ) → is_among p list ≡ false → is_in p x ≡ false

abbrev pub IsInput : Behaviour → ℕ → Type 0
IsInput b x = IsLetterOver (length b.names) b.inputs x

abbrev pub IsOutput : Behaviour → ℕ → Type 0
IsOutput b y = IsLetterOver (length b.names) b.outputs y

-- both letters have the same truth values for the propositions in the list
abbrev pub AreSameOn : List ℕ → ℕ → ℕ → Type 0
AreSameOn list x y = (p : ℕ) → IsTrue (is_among p list) → is_in p x ≡ is_in p y

-- ## Machines

-- Each proposition is either read or output, never both. A step of the machine enters a memory state and outputs a
-- letter; both depend only on the propositions that are read. If the machine's player moves first, the output letter
-- does not depend on the letter that is read.
pub record IsMachine (b : Behaviour) : Type 0 where
  pub few_names : length b.names ≤ 64
  pub are_names : AreNames b.names
  pub inputs_rise : AllPairs (λ p q. p < q) b.inputs
  pub outputs_rise : AllPairs (λ p q. p < q) b.outputs
  pub each : (p : ℕ) → (p < length b.names) ↔ (IsTrue (is_among p b.inputs) ⊎ IsTrue (is_among p b.outputs))
  pub apart : (p : ℕ) → IsTrue (is_among p b.inputs) → is_among p b.outputs ≡ false
  pub player : b.player < 2
  pub some : 0 < b.memories
  pub next_within : (memory x : ℕ) → memory < b.memories → b.next memory x < b.memories
  pub plays_own : (memory x : ℕ) → memory < b.memories → IsOutput b (b.plays memory x)
  pub next_heeds : (memory x y : ℕ) → memory < b.memories → AreSameOn b.inputs x y → b.next memory x ≡ b.next memory y
  pub plays_heeds : (memory x y : ℕ) → memory < b.memories → AreSameOn b.inputs x y →
      b.plays memory x ≡ b.plays memory y
  pub blind : IsTrue b.is_first → (memory x y : ℕ) → memory < b.memories → b.plays memory x ≡ b.plays memory y

-- ## Words

-- one step of the machine: `letter` is the sum of the letter that the machine reads and the letter that it outputs
pub record Makes (b : Behaviour) (memory letter next : ℕ) : Type 0 where
  pub input : ℕ
  pub is_input : IsInput b input
  pub joined : letter ≡ input + b.plays memory input
  pub next_is : next ≡ b.next memory input

pub record IsLasso (b : Behaviour) (stem lap : List ℕ) : Type 0 where
  pub some : 0 < length lap
  pub memories : ℕ → ℕ
  pub begins : memories 0 ≡ 0
  pub makes : (t : ℕ) → t < length (stem ++ lap) → Makes b (memories t) (slice_index (stem ++ lap) t) (memories (t + 1))
  pub returns : memories (length stem) ≡ memories (length (stem ++ lap))

pub record LassosWon (file : FileData) (b : Behaviour) : Type 0 where
  pub accepted : b.player ≡ 0 → (stem lap : List ℕ) → IsLasso b stem lap → IsAccepted file stem lap
  pub rejected : b.player ≢ 0 → (stem lap : List ℕ) → IsLasso b stem lap → ¬ IsAccepted file stem lap
