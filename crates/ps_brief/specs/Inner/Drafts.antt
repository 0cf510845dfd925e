-- The moves of the winner of an arena's start as diagrams. (For private functions.)
-- - `IsReady plan t`: a machine can be drawn from the plan, with diagrams in the store t
-- - `IsDraft plan t q p draft`: at each letter of the other player, the diagrams of the draft have the automaton's step
--   and the bits of the winner's letter
-- - `TriesMoves plan t q vertices k moves`: the steps of a winner who moves second, and all letters that make them, if
--   only the first k vertices are tried
use Rattle.std.specs.Prelude.{◌≡◌, ℕ, ◌+◌, ◌<◌, ◌≤◌, Bool, true, false, List, length, slice_get, Option, None, Some}
use Rattle.std.specs.Prelude.{◌↔◌, slice_index_or, MatchOption}
use Rattle.std.specs.List.{All, Contains}
use Rattle.ps_automaton.specs.Automata.{pair_of, step_of}
use Rattle.ps_automaton.specs.declared.step.Step.{Step}
use Rattle.ps_diagram.specs.Bits.{AreBitsOf, IsBit, have_leaves}
use Rattle.ps_diagram.specs.Hidden.{HasLeafBehind}
use Rattle.ps_diagram.specs.Leaves.{chosen, either_leaf}
use Rattle.ps_diagram.specs.Letters.{AgreeOff}
use Rattle.ps_diagram.specs.Table.{Table, IsNode, leaf_of}
use Rattle.ps_machine.specs.Boards.{Board, IsFirstLetter, IsSecondLetter}
use Rattle.ps_machine.specs.Extracting.{IsOtherLetter}
use Rattle.ps_machine.specs.Numbering.{StandsAt}
use Rattle.ps_machine.specs.declared.key.Key.{Key}
use Rattle.ps_machine.specs.declared.key.Key.TheVariants.{First}
use Rattle.ps_basis.specs.ArenaMoves.{GoesThere, MovesBehind}
use Rattle.ps_basis.specs.Bases.{CanGoTo}
use Rattle.ps_basis.specs.Memories.{IsOutputAt, IsRoundOf, Play, PlayReaches}
use Rattle.ps_basis.specs.PairOrder.{HasStepTo}
use Rattle.ps_brief.specs.Drawing.{play_in}
use Rattle.ps_brief.specs.Settings.{Fits, board_in}
use Rattle.ps_brief.specs.Inner.Playable.{IsPlayable}
use Rattle.ps_brief.specs.declared.drafts.Draft.{Draft}
use Rattle.ps_brief.specs.declared.drafts.Moves.{Moves}
use Rattle.ps_brief.specs.declared.drafts.Plan.{Plan}
use Rattle.ps_brief.specs.declared.setting.Setting.{Setting}

abbrev pub play_of : Plan → Play
play_of plan = play_in plan.setting.now plan.listing.now plan.arena.now plan.others.now plan.certificate.now

-- y is a letter of the player who wins, if this player moves first or second as the truth value says
abbrev pub IsOwnLetter : Bool → Board → ℕ → Type 0
IsOwnLetter true board y = IsFirstLetter board y
IsOwnLetter false board y = IsSecondLetter board y

-- the propositions of the player who wins, as bits
abbrev pub own_mask : Bool → Setting → ℕ
own_mask true setting = setting.first
own_mask false setting = setting.second

-- for each key of the list, the leaf of the steps to it, if a step leads there from a listed key
pub record AreLeavesOf (setting : Setting) (keys : List Key) (leaves : List (Option ℕ)) : Type 0 where
  pub count : length leaves ≡ length keys
  pub each : (v leaf : ℕ) → slice_index_or leaves v None ≡ Some leaf → (leaf < length setting.automaton.now.steps) ×
      StandsAt keys v (First (pair_of setting.automaton.now leaf).state (pair_of setting.automaton.now leaf).priority)
  pub whole : (v q p r s : ℕ) → Contains keys (First q p) → HasStepTo (board_in setting) q r s →
      StandsAt keys v (First r s) → slice_index_or leaves v None ≡ None → ⊥

pub record IsReady (plan : Plan) (t : Table) : Type 0 where
  pub fits : Fits plan.setting.now t
  pub playable : IsPlayable (play_of plan) plan.moves_first plan.arena.now
  pub states : (v q p : ℕ) → StandsAt (play_of plan).keys v (First q p) → q ≤ plan.setting.now.automaton.now.states
  pub leaves : AreLeavesOf plan.setting.now (play_of plan).keys plan.leaves.items

-- the plan is ready, and its moves can reach the vertex by the step
pub record IsReadyAt (plan : Plan) (t : Table) (v : ℕ) (step : Step) : Type 0 where
  pub ready : IsReady plan t
  pub reached : PlayReaches (play_of plan) plan.moves_first v step.state step.priority

-- ## Drafts

-- the step and the letter at the letter x of the other player
pub record IsDraftAt (plan : Plan) (t : Table) (q p : ℕ) (draft : Draft) (x : ℕ) : Type 0 where
  pub leaf : ℕ
  pub letter : ℕ
  pub step : leaf_of t draft.steps x ≡ Some leaf
  pub plays : AreBitsOf t draft.bits.items (own_mask plan.moves_first plan.setting.now) letter x
  pub own : IsOwnLetter plan.moves_first (board_in plan.setting.now) letter
  pub within : leaf < length plan.setting.now.automaton.now.steps
  pub goes : step_of plan.setting.now.automaton.now q (x + letter) ≡ pair_of plan.setting.now.automaton.now leaf
  pub output : IsOutputAt (play_of plan) plan.moves_first q p x letter
  pub round : IsRoundOf (play_of plan) plan.moves_first q p (pair_of plan.setting.now.automaton.now leaf).state
      (pair_of plan.setting.now.automaton.now leaf).priority

-- a letter of the other player at which the draft has a step to r, by an edge of priority s
pub record IsDrafted (plan : Plan) (t : Table) (draft : Draft) (r s : ℕ) : Type 0 where
  pub letter : ℕ
  pub is_other : IsOtherLetter plan.moves_first (board_in plan.setting.now) letter
  pub leaf : ℕ
  pub step : leaf_of t draft.steps letter ≡ Some leaf
  pub state : (pair_of plan.setting.now.automaton.now leaf).state ≡ r
  pub priority : (pair_of plan.setting.now.automaton.now leaf).priority ≡ s

pub record Heeds (plan : Plan) (t : Table) (draft : Draft) : Type 0 where
  pub steps_held : IsNode t draft.steps
  pub bits_held : All (IsBit t) draft.bits.items
  pub steps : (u v : ℕ) → AgreeOff (own_mask plan.moves_first plan.setting.now) u v →
      leaf_of t draft.steps u ≡ leaf_of t draft.steps v
  pub bits : (u v : ℕ) → AgreeOff (own_mask plan.moves_first plan.setting.now) u v →
      have_leaves t draft.bits.items u ≡ have_leaves t draft.bits.items v

pub record IsDraft (plan : Plan) (t : Table) (q p : ℕ) (draft : Draft) : Type 0 where
  pub heeds : Heeds plan t draft
  pub at : (x : ℕ) → IsOtherLetter plan.moves_first (board_in plan.setting.now) x → IsDraftAt plan t q p draft x
  pub rounds : (r s : ℕ) → IsRoundOf (play_of plan) plan.moves_first q p r s → IsDrafted plan t draft r s

-- ## While the second player's moves are tried

abbrev pub CanMoveFrom : Plan → (q x u : ℕ) → Type 0
CanMoveFrom plan q x u = MovesBehind (play_of plan).board (play_of plan).mover (play_of plan).others
    (play_of plan).certificate q x u

-- the winner moves from the vertex u behind no letter
abbrev pub NeverMoves : Plan → (q u : ℕ) → Type 0
NeverMoves plan q u = (x : ℕ) → CanMoveFrom plan q x u → ⊥

-- the winner moves from the vertex u by the step of the leaf, wherever this step can be made
pub record IsMoveLeaf (plan : Plan) (q u leaf : ℕ) : Type 0 where
  pub within : leaf < length plan.setting.now.automaton.now.steps
  pub behind : (x : ℕ) → CanGoTo (board_in plan.setting.now) q x (pair_of plan.setting.now.automaton.now leaf).state
      (pair_of plan.setting.now.automaton.now leaf).priority → CanMoveFrom plan q x u
  pub state : (x : ℕ) (moves : CanMoveFrom plan q x u) →
      (pair_of plan.setting.now.automaton.now leaf).state ≡ moves.state
  pub priority : (x : ℕ) (moves : CanMoveFrom plan q x u) →
      (pair_of plan.setting.now.automaton.now leaf).priority ≡ moves.priority

-- the letter leads to the leaf, whose step can be made behind it
pub record IsLeafOf (setting : Setting) (q leaf x k : ℕ) : Type 0 where
  pub same : k ≡ leaf
  pub can : CanGoTo (board_in setting) q x (pair_of setting.automaton.now leaf).state
      (pair_of setting.automaton.now leaf).priority

-- the moves are the step of the leaf where it can be made, and the letters that make it
pub record IsSingle (setting : Setting) (t : Table) (q leaf : ℕ) (moves : Moves) : Type 0 where
  pub steps_held : IsNode t moves.steps
  pub making_held : IsNode t moves.making
  pub heeds : (u v : ℕ) → AgreeOff setting.second u v → leaf_of t moves.steps u ≡ leaf_of t moves.steps v
  pub at : (x : ℕ) → IsFirstLetter (board_in setting) x → MatchOption (leaf_of t moves.steps x)
      (CanGoTo (board_in setting) q x (pair_of setting.automaton.now leaf).state
      (pair_of setting.automaton.now leaf).priority → ⊥) (IsLeafOf setting q leaf x)
  pub makes : (x y : ℕ) → HasLeafBehind t moves.making setting.second x y ↔
      GoesThere (board_in setting) q x (pair_of setting.automaton.now leaf).state
      (pair_of setting.automaton.now leaf).priority y

-- at each letter, the moves are the first moves, or else the second
pub record IsJoined (s t : Table) (first second moves : Moves) : Type 0 where
  pub steps_held : IsNode t moves.steps
  pub making_held : IsNode t moves.making
  pub steps : (x : ℕ) → leaf_of t moves.steps x ≡ either_leaf (leaf_of s first.steps x) (leaf_of s second.steps x)
  pub making : (x : ℕ) → leaf_of t moves.making x ≡ chosen (leaf_of s first.steps x) (leaf_of s first.making x)
      (leaf_of s second.making x)

-- none of the first k vertices moves behind x
abbrev pub NoneMoves : Plan → (q : ℕ) → List ℕ → ℕ → ℕ → Type 0
NoneMoves plan q vertices k x = (i u : ℕ) → i < k → slice_get vertices i ≡ Some u → CanMoveFrom plan q x u → ⊥

-- the vertex at the index `place` is the first that moves behind x, by the step of the leaf
pub record IsTried (plan : Plan) (t : Table) (q : ℕ) (vertices : List ℕ) (k : ℕ) (made : Moves) (x leaf : ℕ) : Type 0
  where
    pub place : ℕ
    pub below : place < k
    pub vertex : ℕ
    pub stands : slice_get vertices place ≡ Some vertex
    pub moves : CanMoveFrom plan q x vertex
    pub none_before : NoneMoves plan q vertices place x
    pub within : leaf < length plan.setting.now.automaton.now.steps
    pub state : (pair_of plan.setting.now.automaton.now leaf).state ≡ moves.state
    pub priority : (pair_of plan.setting.now.automaton.now leaf).priority ≡ moves.priority
    pub makes : (y : ℕ) → HasLeafBehind t made.making plan.setting.now.second x y ↔
        GoesThere (board_in plan.setting.now) q x moves.state moves.priority y

pub record TriesMoves (plan : Plan) (t : Table) (q : ℕ) (vertices : List ℕ) (k : ℕ) (moves : Moves) : Type 0 where
  pub steps_held : IsNode t moves.steps
  pub making_held : IsNode t moves.making
  pub steps : (u v : ℕ) → AgreeOff plan.setting.now.second u v → leaf_of t moves.steps u ≡ leaf_of t moves.steps v
  pub at : (x : ℕ) → IsFirstLetter (board_in plan.setting.now) x → MatchOption (leaf_of t moves.steps x)
      (NoneMoves plan q vertices k x) (IsTried plan t q vertices k moves x)
