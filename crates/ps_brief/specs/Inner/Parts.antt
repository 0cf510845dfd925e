-- The memory states and diagrams of the machine that is drawn from an arena. (For private functions.)
-- - `HasDraftAt plan t reached v`: the draft that was found for the key with the place v
-- - `IsPairedNode plan t reached pairs v node`: the leaf of the node at a letter is the index of the pair that has twice
--   the leaf of the step that the winner makes at the key with the place v
-- - `IsMemoryFor plan kept leaf memory`: the memory state after the step of the leaf
-- - `AreCopied plan t u reached v bits`: diagrams of the bits of the winner's letters at the key with the place v
use Rattle.std.specs.Prelude.{◌≡◌, ◌≢◌, ℕ, ◌<◌, List, Vec, length, map, nat_eq, slice_get, slice_index}
use Rattle.std.specs.Prelude.{slice_index_or, Option, Some, None, option_map}
use Rattle.std.specs.Global.{Global}
use Rattle.std.specs.List.{All, AllPairs, Contains}
use Rattle.indexmap.specs.IndexMap.{get}
use Rattle.ps_automaton.specs.Automata.{pair_of}
use Rattle.ps_diagram.specs.Bits.{have_leaves}
use Rattle.ps_diagram.specs.Pairs.{IsPaired}
use Rattle.ps_diagram.specs.Table.{Table, IsNode, leaf_of}
use Rattle.ps_machine.specs.BitMachines.{BitMachineData, bit_behaviour, nodes_of}
use Rattle.ps_machine.specs.BitParts.{AreBitPartsOf, own_propositions}
use Rattle.ps_machine.specs.Extracting.{IsOtherLetter, StandsFor}
use Rattle.ps_machine.specs.Inner.Drawing.{AreMemories, anchor_of}
use Rattle.ps_machine.specs.Numbering.{StandsAt}
use Rattle.ps_machine.specs.declared.bit_machine.BitParts.{BitParts}
use Rattle.ps_machine.specs.declared.key.Key.{Key}
use Rattle.ps_machine.specs.declared.key.Key.TheVariants.{First}
use Rattle.ps_basis.specs.Memories.{IsFirstReached, IsStepByRounds}
use Rattle.ps_basis.specs.PairOrder.{HasStepTo}
use Rattle.ps_brief.specs.Settings.{board_in}
use Rattle.ps_brief.specs.Inner.Drafts.{IsDraft, IsReady, play_of}
use Rattle.ps_brief.specs.Inner.Reaching.{IsReached, Reaches}
use Rattle.ps_brief.specs.declared.drafts.Draft.{Draft}
use Rattle.ps_brief.specs.declared.drafts.Plan.{Plan}
use Rattle.ps_brief.specs.declared.memories.Memories.{Memories}
use Rattle.ps_brief.specs.declared.reach.Reached.{Reached}
use Rattle.ps_brief.specs.declared.setting.Setting.{Setting}

abbrev pub HasMemories : Plan → Reached → Memories → Type 0
HasMemories plan reached memories = AreMemories plan.moves_first (play_of plan).keys reached.places.keys
    memories.kept.items memories.anchors.keys

-- what a machine is drawn from: a plan that is ready, what its moves can reach, and the memory states
pub record IsDrawable (plan : Plan) (t : Table) (found : Reached) (all : Memories) : Type 0 where
  pub ready : IsReady plan t
  pub reached : IsReached plan t found
  pub memories : HasMemories plan found all

-- the pair has the leaf of a step that the winner's moves make
pub record IsGoodLeaf (plan : Plan) (pair : ℕ × ℕ) : Type 0 where
  pub within : pair.0 < length plan.setting.now.automaton.now.steps
  pub place : ℕ
  pub reached : Reaches plan place (pair_of plan.setting.now.automaton.now pair.0).state
      (pair_of plan.setting.now.automaton.now pair.0).priority

-- the draft of the key with the place v
pub record HasDraftAt (plan : Plan) (t : Table) (reached : Reached) (v : ℕ) : Type 0 where
  pub state : ℕ
  pub priority : ℕ
  pub reaches : Reaches plan v state priority
  pub draft : Draft
  pub stored : get nat_eq reached.drafts (anchor_of plan.moves_first v state) ≡ Some draft
  pub is_draft : IsDraft plan t state priority draft

pub record IsPairedNode (plan : Plan) (t : Table) (reached : Reached) (pairs : List (ℕ × ℕ)) (v node : ℕ) : Type 0
  where
    pub held : IsNode t node
    pub has : HasDraftAt plan t reached v
    pub paired : (x : ℕ) →
        IsPaired pairs (leaf_of t has.draft.steps x) (leaf_of t has.draft.steps x) (leaf_of t node x)

-- the first n memory states have nodes
pub record ArePaired (plan : Plan) (t : Table) (reached : Reached) (kept : List ℕ) (pairs : List (ℕ × ℕ))
    (nodes : List ℕ) (n : ℕ) : Type 0 where
  pub many : length nodes ≡ n
  pub good : All (IsGoodLeaf plan) pairs
  pub each : (i : ℕ) → i < n → IsPairedNode plan t reached pairs (slice_index kept i) (slice_index nodes i)

-- the memory state stands for the key after the step of the leaf
pub record IsMemoryFor (plan : Plan) (kept : List ℕ) (leaf memory : ℕ) : Type 0 where
  pub within : memory < length kept
  pub next : (w : ℕ) → StandsAt (play_of plan).keys w (First (pair_of plan.setting.now.automaton.now leaf).state
      (pair_of plan.setting.now.automaton.now leaf).priority) → StandsFor plan.moves_first (play_of plan).keys kept
      memory w (pair_of plan.setting.now.automaton.now leaf).state

-- the first n pairs have memory states
pub record AreMemoriesFor (plan : Plan) (kept : List ℕ) (pairs : List (ℕ × ℕ)) (values : List ℕ) (n : ℕ) : Type 0
  where
    pub many : length values ≡ n
    pub each : (i : ℕ) (pair : ℕ × ℕ) → i < n → slice_get pairs i ≡ Some pair →
        IsMemoryFor plan kept pair.0 (slice_index values i)

-- the diagrams of the steps, and the memory states for their leaves
pub record AreStepsBy (plan : Plan) (t : Table) (reached : Reached) (kept : List ℕ) (pairs : List (ℕ × ℕ))
    (nodes values : List ℕ) : Type 0 where
  pub differ : AllPairs (λ x y. x ≢ y) pairs
  pub paired : ArePaired plan t reached kept pairs nodes (length kept)
  pub memories : AreMemoriesFor plan kept pairs values (length pairs)

-- the bits in the table u are those of the key's draft
pub record AreCopied (plan : Plan) (t u : Table) (reached : Reached) (v : ℕ) (bits : List ℕ) : Type 0 where
  pub has : HasDraftAt plan t reached v
  pub held : All (IsNode u) bits
  pub same : (x : ℕ) → have_leaves u bits x ≡ have_leaves t has.draft.bits.items x

-- the first n memory states have their bits
pub record AreCopiedUpTo (plan : Plan) (t u : Table) (reached : Reached) (kept : List ℕ) (all : List (Vec ℕ Global))
    (n : ℕ) : Type 0 where
  pub many : length all ≡ n
  pub each : (i : ℕ) (bits : Vec ℕ Global) → slice_get all i ≡ Some bits →
      AreCopied plan t u reached (slice_index kept i) bits.items

-- the first n nodes of the machine's store have these values as leaves
pub record AreRelabelled (t u : Table) (values old new : List ℕ) (n : ℕ) : Type 0 where
  pub many : length new ≡ n
  pub held : (i : ℕ) → i < n → IsNode u (slice_index new i)
  pub leaves : (i x : ℕ) → i < n → leaf_of u (slice_index new i) x ≡
      option_map (λ k. slice_index values k) (leaf_of t (slice_index old i) x)

-- the leaves that are noted after the first n keys of the list were visited
pub record AreNotedUpTo (setting : Setting) (keys : List Key) (leaves : List (Option ℕ)) (n : ℕ) : Type 0 where
  pub count : length leaves ≡ length keys
  pub each : (v leaf : ℕ) → slice_index_or leaves v None ≡ Some leaf → (leaf < length setting.automaton.now.steps) ×
      StandsAt keys v (First (pair_of setting.automaton.now leaf).state (pair_of setting.automaton.now leaf).priority)
  pub whole : (i v q p r s : ℕ) → i < n → StandsAt keys i (First q p) → HasStepTo (board_in setting) q r s →
      StandsAt keys v (First r s) → slice_index_or leaves v None ≡ None → ⊥

-- The parts are those of a machine with a memory state for each entry of `kept`.
pub record IsDrawing (plan : Plan) (kept : List ℕ) (d : BitParts) : Type 0 where
  pub rising : AllPairs (λ v w. v < w) kept
  pub each : All (IsFirstReached (play_of plan) plan.moves_first) kept
  pub complete : (v : ℕ) → IsFirstReached (play_of plan) plan.moves_first v → Contains kept v
  pub many : length d.nodes.items ≡ length kept
  pub parts : AreBitPartsOf plan.moves_first (board_in plan.setting.now) d
  pub steps : (m : BitMachineData) → m.is_first ≡ plan.moves_first → m.store ≡ d.store → m.nodes ≡ d.nodes.items →
      m.bits ≡ map nodes_of d.bits.items → m.outputs ≡ own_propositions plan.moves_first (board_in plan.setting.now) →
      length m.names ≡ (board_in plan.setting.now).propositions → (memory x : ℕ) → memory < length kept →
      IsOtherLetter m.is_first (play_of plan).board x → IsStepByRounds (play_of plan) kept (bit_behaviour m) memory x
