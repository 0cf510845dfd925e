-- The places that a draft adds to those that were found.
-- - `inserts`, `one_entered`: one more place
-- - `all_entered`: after all leaves of a draft, the places of all keys to which it leads were found
use Rattle.std.specs.Prelude.{◌≡◌, ℕ, ◌+◌, ◌^◌, ◌<◌, ◌≤◌, ◌++◌, ◌∷◌, [], Bool, true, false, List, length, nat_eq}
use Rattle.std.specs.List.{All, Contains}
use Rattle.std.proofs.Common.{sym, ◌∙◌, subst, ap, ap₂, inl, inr, append_assoc, arith, get_or}
use Rattle.std.proofs.lemmas.Bool.{cases_lt}
use Rattle.std.proofs.lemmas.List.{append-nil, get_or_default}
use Rattle.std.proofs.lemmas.List.Elements.{All-push, Contains-append_left, Contains-push}
use Rattle.indexmap.specs.IndexSet.{insert_key}
use Rattle.ps_automaton.specs.Automata.{pair_of}
use Rattle.ps_diagram.specs.Reached.{AreLeaves}
use Rattle.ps_diagram.specs.Table.{Table}
use Rattle.ps_machine.specs.Boards.{Board}
use Rattle.ps_machine.specs.Extracting.{IsOtherLetter}
use Rattle.ps_machine.specs.Numbering.{StandsAt}
use Rattle.ps_machine.specs.declared.key.Key.{Key}
use Rattle.ps_machine.specs.declared.key.Key.TheVariants.{First}
use Rattle.ps_machine.proofs.Machines.UsedVertices.{inserted}
use Rattle.ps_basis.proofs.ArenaKeys.{index_once}
use Rattle.ps_brief.specs.Settings.{board_in}
use Rattle.ps_brief.specs.Inner.Drafts.{IsDraft, IsReady, play_of}
use Rattle.ps_brief.specs.Inner.Reaching.{GrowsTo, Inserts, IsEntered, IsFound, LeadsTo, Reaches}
use Rattle.ps_brief.specs.declared.drafts.Draft.{Draft}
use Rattle.ps_brief.specs.declared.drafts.Plan.{Plan}
use Rattle.ps_brief.proofs.DrawnMachines.Reaches.{IsLeafAt, drafted_at}

pub grows_none : (keys : List ℕ) → GrowsTo keys keys
grows_none keys = ([], sym (append-nil keys))

pub grows_on : (old mid new : List ℕ) → GrowsTo old mid → GrowsTo mid new → GrowsTo old new
grows_on old mid new (one, is_mid) (two, is_new) =
    (one ++ two, is_new ∙ ap (λ (xs : List ℕ). xs ++ two) is_mid ∙ append_assoc old one two)

pub inserts : (P : ℕ → Type 0) (old new : List ℕ) (place : ℕ) → new ≡ insert_key nat_eq old place →
    Inserts P old new place
inserts P old new place is = elim (inserted old place new is) [
  | inl known ↦ record {
    grows = subst (λ (xs : List ℕ). GrowsTo old xs) (sym known.1) (grows_none old);
    each = λ all here. subst (λ (xs : List ℕ). All P xs) (sym known.1) all;
    there = subst (λ (xs : List ℕ). Contains xs place) (sym known.1) known.0;
  }
  | inr fresh ↦ record {
    grows = (place ∷ [], fresh.1);
    each = λ all here. subst (λ (xs : List ℕ). All P xs) (sym fresh.1) (All-push P old place all here);
    there = subst (λ (xs : List ℕ). Contains xs place) (sym fresh.1) (Contains-push old place);
  }
]

other_below : (b : Bool) (board : Board) (x : ℕ) → IsOtherLetter b board x → x < 2 ^ board.propositions
other_below true board x other = other.within
other_below false board x other = other.within

still_there : (old new : List ℕ) (w : ℕ) → GrowsTo old new → Contains old w → Contains new w
still_there old new w (more, is) inside =
    subst (λ (xs : List ℕ). Contains xs w) (sym is) (Contains-append_left old more w inside)

-- the places of the first n leaves were found
abbrev pub EntersFirst : Plan → List (ℕ × ℕ) → ℕ → List ℕ → Type 0
EntersFirst plan leaves n places = (i w : ℕ) → i < n → StandsAt (play_of plan).keys w
    (First (pair_of plan.setting.now.automaton.now (get_or leaves i (0, 0)).0).state
    (pair_of plan.setting.now.automaton.now (get_or leaves i (0, 0)).0).priority) → Contains places w

module _ (plan : Plan) {t : Table} (ready : IsReady plan t) where
  pub one_entered : (leaves : List (ℕ × ℕ)) (n leaf place : ℕ) (old new : List ℕ) →
      leaf ≡ (get_or leaves n (0, 0)).0 → Inserts (IsFound plan) old new place → LeadsTo plan leaf place →
      EntersFirst plan leaves n old → EntersFirst plan leaves (n + 1) new
  one_entered leaves n leaf place old new at added leads before i w less stands = elim (cases_lt i n) [
    | inl below ↦ still_there old new w added.grows (before i w below stands)
    | inr above ↦
        let is_n : i ≡ n = omega (arith, less, above) in
        let same : (get_or leaves i (0, 0)).0 ≡ leaf =
        ap (λ (k : ℕ). (get_or leaves k (0, 0)).0) is_n ∙ sym at in
        let here : StandsAt (play_of plan).keys w (First (pair_of plan.setting.now.automaton.now leaf).state
        (pair_of plan.setting.now.automaton.now leaf).priority) =
        subst (λ (k : ℕ). StandsAt (play_of plan).keys w (First (pair_of plan.setting.now.automaton.now k).state
        (pair_of plan.setting.now.automaton.now k).priority)) same stands in
        let place_is : place ≡ w = index_once (play_of plan).keys
        (First (pair_of plan.setting.now.automaton.now leaf).state
        (pair_of plan.setting.now.automaton.now leaf).priority)
        place w ready.playable.different leads.stands here in
        subst (λ (k : ℕ). Contains new k) place_is added.there
  ]

  -- a leaf of the draft leads to a key that can be reached
  module _ (v q p : ℕ) (reaches : Reaches plan v q p) (draft : Draft) (is : IsDraft plan t q p draft)
      (leaves : List (ℕ × ℕ)) (all : AreLeaves t draft.steps leaves) where
    size : t.propositions ≡ (board_in plan.setting.now).propositions
    size = ready.fits.fit.keeps.propositions ∙ ready.fits.fit.whole.letters

    pub leaf_leads : (n : ℕ) (d : ℕ × ℕ) → n < length leaves →
        IsLeafAt plan plan.arena.now ready.playable ready.fits v q p reaches draft is (get_or leaves n d).0
    leaf_leads n d within =
        let here = (all.least n d within).here in
        let below : (get_or leaves n d).1 < 2 ^ (board_in plan.setting.now).propositions =
        subst (λ (m : ℕ). (get_or leaves n d).1 < 2 ^ m) size here.0 in
        drafted_at plan plan.arena.now ready.playable ready.fits v q p reaches draft is (get_or leaves n d).0
        (get_or leaves n d).1 below here.1

    pub all_entered : (n : ℕ) (places : List ℕ) → length leaves ≤ n → EntersFirst plan leaves n places →
        IsEntered plan t draft places
    all_entered n places done first r s w drafted stands =
        let below : drafted.letter < 2 ^ t.propositions =
        subst (λ (m : ℕ). drafted.letter < 2 ^ m) (sym size)
        (other_below plan.moves_first (board_in plan.setting.now) drafted.letter drafted.is_other) in
        let (i, pair, within, at, is_leaf) = all.each drafted.leaf drafted.letter (below, drafted.step) in
        let leaf_is : drafted.leaf ≡ (get_or leaves i (0, 0)).0 =
        sym is_leaf ∙ ap (λ (x : ℕ × ℕ). x.0) (sym at ∙ get_or_default leaves i pair (0, 0) within) in
        let key_is : First r s ≡ First (pair_of plan.setting.now.automaton.now (get_or leaves i (0, 0)).0).state
        (pair_of plan.setting.now.automaton.now (get_or leaves i (0, 0)).0).priority =
        ap₂ (λ (x y : ℕ). First x y) (sym drafted.state) (sym drafted.priority)
        ∙ ap (λ (k : ℕ). First (pair_of plan.setting.now.automaton.now k).state
        (pair_of plan.setting.now.automaton.now k).priority) leaf_is in
        first i w (omega (arith, within, done))
        (subst (λ (key : Key). StandsAt (play_of plan).keys w key) key_is stands)
