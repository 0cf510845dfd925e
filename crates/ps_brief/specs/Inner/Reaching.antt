-- The keys that the winner's moves can reach, and a draft of the moves at each of them. (For private functions.)
-- - `IsEntered plan t draft places`: the list has the places of all keys to which the draft has a step
-- - `IsReachedUpTo plan t reached n`: the first n places were visited
-- - `IsReached plan t reached`: all keys that the winner's moves can reach were found and have drafts
use Rattle.std.specs.Prelude.{◌≡◌, ℕ, ◌<◌, ◌++◌, List, Some, nat_eq, slice_get}
use Rattle.std.specs.List.{All, Contains}
use Rattle.indexmap.specs.IndexMap.{get}
use Rattle.ps_automaton.specs.Automata.{pair_of}
use Rattle.ps_diagram.specs.Table.{Table, IsNode}
use Rattle.ps_machine.specs.Inner.Drawing.{anchor_of}
use Rattle.ps_machine.specs.Numbering.{StandsAt}
use Rattle.ps_machine.specs.declared.key.Key.TheVariants.{First}
use Rattle.ps_basis.specs.Memories.{PlayReaches}
use Rattle.ps_brief.specs.Inner.Drafts.{IsDraft, IsDrafted, play_of}
use Rattle.ps_brief.specs.declared.drafts.Draft.{Draft}
use Rattle.ps_brief.specs.declared.drafts.Plan.{Plan}
use Rattle.ps_brief.specs.declared.reach.Reached.{Reached}

abbrev pub Reaches : Plan → ℕ → ℕ → ℕ → Type 0
Reaches plan v q p = PlayReaches (play_of plan) plan.moves_first v q p

abbrev pub IsFound : Plan → ℕ → Type 0
IsFound plan v = (q : ℕ) × (p : ℕ) × Reaches plan v q p

abbrev pub IsEntered : Plan → Table → Draft → List ℕ → Type 0
IsEntered plan t draft places = (r s w : ℕ) → IsDrafted plan t draft r s →
    StandsAt (play_of plan).keys w (First r s) → Contains places w

-- the new list begins with the old list
abbrev pub GrowsTo : List ℕ → List ℕ → Type 0
GrowsTo old new = (more : List ℕ) × (new ≡ old ++ more)

-- the place is in the new list, which begins with the old one; each entry still has the property P, if the place has it
pub record Inserts (P : ℕ → Type 0) (old new : List ℕ) (place : ℕ) : Type 0 where
  pub grows : GrowsTo old new
  pub each : All P old → P place → All P new
  pub there : Contains new place

-- the key of the step of a leaf stands at the place, and can be reached
pub record LeadsTo (plan : Plan) (leaf place : ℕ) : Type 0 where
  pub stands : StandsAt (play_of plan).keys place (First (pair_of plan.setting.now.automaton.now leaf).state
      (pair_of plan.setting.now.automaton.now leaf).priority)
  pub found : IsFound plan place

-- the draft of the anchor is that of each key with this anchor that the moves can reach
pub record IsRight (plan : Plan) (t : Table) (places : List ℕ) (anchor : ℕ) (draft : Draft) : Type 0 where
  pub is_draft : (v q p : ℕ) → Reaches plan v q p → anchor_of plan.moves_first v q ≡ anchor → IsDraft plan t q p draft
  pub held : IsNode t draft.steps
  pub entered : IsEntered plan t draft places

pub record HasDraft (plan : Plan) (reached : Reached) (v q : ℕ) : Type 0 where
  pub draft : Draft
  pub stored : get nat_eq reached.drafts (anchor_of plan.moves_first v q) ≡ Some draft

pub record IsReachedUpTo (plan : Plan) (t : Table) (reached : Reached) (n : ℕ) : Type 0 where
  pub start : Contains reached.places.keys 0
  pub each : All (IsFound plan) reached.places.keys
  pub visited : (i v q p : ℕ) → i < n → slice_get reached.places.keys i ≡ Some v →
      StandsAt (play_of plan).keys v (First q p) → HasDraft plan reached v q
  pub right : (anchor : ℕ) (draft : Draft) → get nat_eq reached.drafts anchor ≡ Some draft →
      IsRight plan t reached.places.keys anchor draft

pub record IsReached (plan : Plan) (t : Table) (reached : Reached) : Type 0 where
  pub found : (v q p : ℕ) → Reaches plan v q p → Contains reached.places.keys v
  pub each : All (IsFound plan) reached.places.keys
  pub drafts : (v q p : ℕ) → Reaches plan v q p → HasDraft plan reached v q
  pub right : (anchor : ℕ) (draft : Draft) → get nat_eq reached.drafts anchor ≡ Some draft →
      IsRight plan t reached.places.keys anchor draft
