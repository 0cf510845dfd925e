-- The keys that the winner's moves can reach are visited one after another.
-- - `draft_kept`, `right_kept`: drafts stay right when the store gets more nodes and more keys are found
-- - `begun`: at first, only the start is found
-- - `reached_kept`: what was found stays right when the store gets more nodes
-- - `visited_again`, `visited_now`: one more key is visited
use Rattle.std.specs.Prelude.{◌≡◌, ◌≢◌, ℕ, ◌+◌, ◌<◌, ◌≤◌, ◌∷◌, [], List, length, None, Option, Some}
use Rattle.std.specs.Prelude.{is_some, map, nat_eq, true}
use Rattle.std.specs.Prelude.{slice_get}
use Rattle.std.specs.List.{All, Contains, IsDistinct}
use Rattle.std.proofs.Common.{sym, ◌∙◌, subst, ap, refl, inl, inr, arith, eqb, get_or, zero, suc}
use Rattle.std.proofs.lemmas.Bool.{cases_eq, cases_lt, eqb-true}
use Rattle.std.proofs.lemmas.List.{append-nil}
use Rattle.std.proofs.lemmas.List.Elements.{Contains-append_left}
use Rattle.std.proofs.lemmas.Option.{get_or_from_slice_get, same_Some, slice_get-get_or, slice_get_within}
use Rattle.std.proofs.lemmas.Map.Steps.{length-le_from_distinct_below}
use Rattle.std.proofs.lemmas.Map.Views.{Contains-from_any}
use Rattle.indexmap.specs.IndexMap.{get}
use Rattle.ps_label.specs.Truth.{is_in}
use Rattle.ps_diagram.specs.Bits.{have_leaves, propositions_in}
use Rattle.ps_diagram.specs.Table.{Table, IsNode, Keeps, leaf_of}
use Rattle.ps_diagram.proofs.TreeOperations.BitLists.{bits_kept, leaves_kept}
use Rattle.ps_diagram.proofs.NodeTables.Cells.{true_is_not_false}
use Rattle.ps_diagram.proofs.ClassesOfLetters.Distinct.{at_left}
use Rattle.ps_machine.specs.Inner.Drawing.{anchor_of}
use Rattle.ps_machine.specs.Numbering.{StandsAt}
use Rattle.ps_machine.specs.declared.key.Key.TheVariants.{First}
use Rattle.ps_machine.proofs.AutomatonGames.GameKeys.Standing.{same_some}
use Rattle.ps_basis.specs.ArenaMoves.{at_start}
use Rattle.ps_brief.specs.Inner.Drafts.{IsDraft, IsDraftAt, IsDrafted, own_mask, play_of}
use Rattle.ps_brief.specs.Inner.Playable.{Comes}
use Rattle.ps_brief.specs.Inner.Reaching.{GrowsTo, HasDraft, IsEntered, IsFound, IsReached, IsReachedUpTo, IsRight}
use Rattle.ps_brief.specs.Inner.Reaching.{Reaches}
use Rattle.ps_brief.specs.declared.drafts.Draft.{Draft}
use Rattle.ps_brief.specs.declared.drafts.Plan.{Plan}
use Rattle.ps_brief.specs.declared.reach.Reached.{Reached}
use Rattle.ps_brief.proofs.DraftedMoves.Drafting.{first_priorities, first_states, some_same}
use Rattle.ps_brief.proofs.ListedStates.KeptTargets.{leaf_kept}
use Rattle.ps_brief.proofs.DrawnMachines.Reaches.{draft_right}

-- ## Kept drafts

module _ (plan : Plan) {s t : Table} (keeps : Keeps s t) (draft : Draft) where
  pub draft_kept : (q p : ℕ) → IsDraft plan s q p draft → IsDraft plan t q p draft
  draft_kept q p is = record {
    heeds = record {
      steps_held = keeps.held draft.steps is.heeds.steps_held;
      bits_held = bits_kept draft.bits.items keeps is.heeds.bits_held;
      steps = λ u v off. step u ∙ is.heeds.steps u v off ∙ sym (step v);
      bits = λ u v off. bit u ∙ is.heeds.bits u v off ∙ sym (bit v);
    };
    at = λ x other. again x (is.at x other);
    rounds = λ r s round. on (is.rounds r s round);
  }
    where
      step : (x : ℕ) → leaf_of t draft.steps x ≡ leaf_of s draft.steps x
      step x = leaf_kept draft.steps x keeps is.heeds.steps_held

      bit : (x : ℕ) → have_leaves t draft.bits.items x ≡ have_leaves s draft.bits.items x
      bit x = leaves_kept draft.bits.items x keeps is.heeds.bits_held

      again : (x : ℕ) → IsDraftAt plan s q p draft x → IsDraftAt plan t q p draft x
      again x one = record {
        leaf = one.leaf;
        letter = one.letter;
        step = step x ∙ one.step;
        plays = bit x ∙ one.plays
            ∙ ap (λ (n : ℕ). map (λ p. is_in p one.letter)
            (propositions_in (own_mask plan.moves_first plan.setting.now) n))
            (sym keeps.propositions);
        own = one.own;
        within = one.within;
        goes = one.goes;
        output = one.output;
        round = one.round;
      }

      on : {r o : ℕ} → IsDrafted plan s draft r o → IsDrafted plan t draft r o
      on one = record {
        letter = one.letter;
        is_other = one.is_other;
        leaf = one.leaf;
        step = step one.letter ∙ one.step;
        state = one.state;
        priority = one.priority;
      }

  drafted_back : (r o : ℕ) → IsNode s draft.steps → IsDrafted plan t draft r o → IsDrafted plan s draft r o
  drafted_back r o held one = record {
    letter = one.letter;
    is_other = one.is_other;
    leaf = one.leaf;
    step = sym (leaf_kept draft.steps one.letter keeps held) ∙ one.step;
    state = one.state;
    priority = one.priority;
  }

  pub right_kept : (old new : List ℕ) → GrowsTo old new → (anchor : ℕ) → IsRight plan s old anchor draft →
      IsRight plan t new anchor draft
  right_kept old new (more, is_new) anchor right = record {
    is_draft = λ v q p reaches same. draft_kept q p (right.is_draft v q p reaches same);
    held = keeps.held draft.steps right.held;
    entered = λ r o w drafted stands. subst (λ (xs : List ℕ). Contains xs w) (sym is_new)
        (Contains-append_left old more w (right.entered r o w (drafted_back r o right.held drafted) stands));
  }

-- ## Visits

pub begun : (plan : Plan) {t : Table} (reached : Reached) → StandsAt (play_of plan).keys 0
    (First (play_of plan).board.auto.start 0) → reached.places.keys ≡ 0 ∷ [] →
    ((anchor : ℕ) → get nat_eq reached.drafts anchor ≡ None) → IsReachedUpTo plan t reached 0
begun plan reached begins only none = record {
  start = subst (λ (xs : List ℕ). Contains xs 0) (sym only) (0, omega arith, refl);
  each = λ i d within. subst (λ (v : ℕ). IsFound plan v) (zero_at i d within)
      ((play_of plan).board.auto.start, 0, record { comes = at_start; stands = begins });
  visited = λ i v q p less at stands. absurd (omega (arith, less));
  right = λ anchor draft there. absurd (no_draft anchor draft there);
}
  where
    zero_at : (i d : ℕ) → i < length reached.places.keys → 0 ≡ get_or reached.places.keys i d
    zero_at i d within = subst (λ (xs : List ℕ). i < length xs → 0 ≡ get_or xs i d) (sym only) (at i) within
      where
        at : (i : ℕ) → i < 1 → 0 ≡ get_or (0 ∷ []) i d
        at zero less = refl
        at (suc i) less = absurd (omega (arith, less))

    no_draft : (anchor : ℕ) (draft : Draft) → get nat_eq reached.drafts anchor ≡ Some draft → ⊥
    no_draft anchor draft there = let both : None ≡ Some draft = sym (none anchor) ∙ there in cc both

module _ (plan : Plan) {t : Table} (reached : Reached) (n v q p : ℕ)
    (here : slice_get reached.places.keys n ≡ Some v) (stands : StandsAt (play_of plan).keys v (First q p)) where
  pub visited_again : HasDraft plan reached v q → IsReachedUpTo plan t reached n →
      IsReachedUpTo plan t reached (n + 1)
  visited_again has up = record {
    start = up.start;
    each = up.each;
    visited = λ i w r o less at stands_w. elim (cases_lt i n) [
      | inl below ↦ up.visited i w r o below at stands_w
      | inr above ↦
          let is_n : i ≡ n = omega (arith, less, above) in
          let same : w ≡ v = some_same (slice_get reached.places.keys n) w v
          (subst (λ (j : ℕ). slice_get reached.places.keys j ≡ Some w) is_n at) here in
          let key : First r o ≡ First q p = same_some (sym stands_w
          ∙ subst (λ (z : ℕ). StandsAt (play_of plan).keys z (First q p)) (sym same) stands) in
          subst (λ (z : ℕ). HasDraft plan reached z r) (sym same)
          (subst (λ (z : ℕ). HasDraft plan reached v z) (sym (first_states key)) has)
    ];
    right = up.right;
  }

module _ (plan : Plan) {s t : Table} (keeps : Keeps s t) (old new : Reached) (n v q p : ℕ)
    (here : slice_get old.places.keys n ≡ Some v) (reaches : Reaches plan v q p) (draft : Draft)
    (is : IsDraft plan t q p draft) (grows : GrowsTo old.places.keys new.places.keys)
    (each : All (IsFound plan) new.places.keys)
    (entered : IsEntered plan t draft new.places.keys)
    (stored : get nat_eq new.drafts (anchor_of plan.moves_first v q) ≡ Some draft)
    (others : (anchor : ℕ) → anchor ≢ anchor_of plan.moves_first v q →
    get nat_eq new.drafts anchor ≡ get nat_eq old.drafts anchor) where
  abbrev own : ℕ
  own = anchor_of plan.moves_first v q

  still_has : (w r : ℕ) → HasDraft plan old w r → HasDraft plan new w r
  still_has w r has = elim (cases_eq (anchor_of plan.moves_first w r) own) [
    | inl same ↦ record { draft = draft; stored = ap (λ (a : ℕ). get nat_eq new.drafts a) same ∙ stored }
    | inr other ↦ record {
      draft = has.draft;
      stored = others (anchor_of plan.moves_first w r) other ∙ has.stored;
    }
  ]

  stood_left : (i w : ℕ) → i < n → slice_get new.places.keys i ≡ Some w → slice_get old.places.keys i ≡ Some w
  stood_left i w less at =
      let inside : i < length old.places.keys =
      omega (arith, less, slice_get_within old.places.keys n v here) in
      let there : slice_get old.places.keys i ≡ Some (get_or old.places.keys i 0) =
      slice_get-get_or old.places.keys i 0 inside in
      let now : slice_get new.places.keys i ≡ Some (get_or old.places.keys i 0) =
      ap (λ (xs : List ℕ). slice_get xs i) grows.1 ∙ at_left old.places.keys grows.0 i there in
      there ∙ sym now ∙ at

  at_here : slice_get new.places.keys n ≡ Some v
  at_here = ap (λ (xs : List ℕ). slice_get xs n) grows.1 ∙ at_left old.places.keys grows.0 n here

  pub visited_now : IsReachedUpTo plan s old n → IsReachedUpTo plan t new (n + 1)
  visited_now up = record {
    start = subst (λ (xs : List ℕ). Contains xs 0) (sym grows.1)
        (Contains-append_left old.places.keys grows.0 0 up.start);
    each = each;
    visited = λ i w r o less at stands. elim (cases_lt i n) [
      | inl below ↦ still_has w r (up.visited i w r o below (stood_left i w below at) stands)
      | inr above ↦
          let is_n : i ≡ n = omega (arith, less, above) in
          let same : w ≡ v = some_same (slice_get new.places.keys n) w v
          (subst (λ (j : ℕ). slice_get new.places.keys j ≡ Some w) is_n at) at_here in
          let key : First r o ≡ First q p = same_some (sym stands
          ∙ subst (λ (z : ℕ). StandsAt (play_of plan).keys z (First q p)) (sym same) reaches.stands) in
          let has : HasDraft plan new v q = record { draft = draft; stored = stored } in
          subst (λ (z : ℕ). HasDraft plan new z r) (sym same)
          (subst (λ (z : ℕ). HasDraft plan new v z) (sym (first_states key)) has)
    ];
    right = λ anchor d there. elim (cases_eq anchor own) [
      | inl same ↦
          let both : Some draft ≡ Some d = sym stored ∙ ap (λ (a : ℕ). get nat_eq new.drafts a) (sym same) ∙ there in
          let d_is : draft ≡ d = same_Some draft d both in
          subst (λ (x : Draft). IsRight plan t new.places.keys anchor x) d_is (record {
            is_draft = λ w r o other is_anchor. draft_right plan {t = t} plan.moves_first refl v q p w r o draft reaches
                other (is_anchor ∙ same) is;
            held = is.heeds.steps_held;
            entered = entered;
          })
      | inr other ↦ right_kept plan keeps d old.places.keys new.places.keys grows anchor
          (up.right anchor d (sym (others anchor other) ∙ there))
    ];
  }

-- a found place can be reached at the key that stands there
pub found_at : (plan : Plan) (v q p : ℕ) → IsFound plan v → StandsAt (play_of plan).keys v (First q p) →
    Reaches plan v q p
found_at plan v q p (r, s, reaches) stands =
    let key : First r s ≡ First q p = same_some (sym reaches.stands ∙ stands) in
    let comes : Comes (play_of plan) plan.moves_first q p =
    subst (λ (x : ℕ). Comes (play_of plan) plan.moves_first x p) (first_states key)
    (subst (λ (x : ℕ). Comes (play_of plan) plan.moves_first r x) (first_priorities key) reaches.comes) in
    record { comes = comes; stands = stands }

pub found_there : (plan : Plan) (places : List ℕ) (n v : ℕ) → All (IsFound plan) places → slice_get places n ≡ Some v →
    IsFound plan v
found_there plan places n v all at = subst (λ (w : ℕ). IsFound plan w) (get_or_from_slice_get places n v 0 at)
    (all n 0 (slice_get_within places n v at))

pub found_below : (plan : Plan) (v : ℕ) → IsFound plan v → v < length (play_of plan).keys
found_below plan v (q, p, reaches) = slice_get_within (play_of plan).keys v (First q p) reaches.stands

pub some_draft : (plan : Plan) (reached : Reached) (v q anchor : ℕ) → anchor ≡ anchor_of plan.moves_first v q →
    is_some (get nat_eq reached.drafts anchor) ≡ true → HasDraft plan reached v q
some_draft plan reached v q anchor same there = at_draft (get nat_eq reached.drafts anchor) refl there
  where
    at_draft : (o : Option Draft) → get nat_eq reached.drafts anchor ≡ o → is_some o ≡ true → HasDraft plan reached v q
    at_draft None e is = absurd (true_is_not_false (sym is))
    at_draft (Some draft) e is =
        record { draft = draft; stored = ap (λ (a : ℕ). get nat_eq reached.drafts a) (sym same) ∙ e }

-- the found places are different keys of the list, so that they are no more than the list has
pub few_found : (plan : Plan) (places : List ℕ) → All (IsFound plan) places → IsDistinct eqb places →
    length places ≤ length (play_of plan).keys
few_found plan places all distinct = length-le_from_distinct_below places (length (play_of plan).keys) distinct
    (λ q there. below q (Contains-from_any (λ x y h. eqb-true x y h) q places there))
  where
    below : (q : ℕ) → Contains places q → q < length (play_of plan).keys
    below q (i, within, at) = subst (λ (w : ℕ). w < length (play_of plan).keys) at
        (found_below plan (get_or places i q) (all i q within))

pub all_seen : (places : List ℕ) (turn : ℕ) → None ≡ slice_get places turn → length places ≤ turn
all_seen places turn none = elim (cases_lt turn (length places)) [
  | inl below ↦ let both : None ≡ Some (get_or places turn 0) = none ∙ slice_get-get_or places turn 0 below in cc both
  | inr above ↦ above
]

pub reached_kept : (plan : Plan) {s t : Table} → Keeps s t → (reached : Reached) → IsReached plan s reached →
    IsReached plan t reached
reached_kept plan keeps reached is = record {
  found = is.found;
  each = is.each;
  drafts = is.drafts;
  right = λ anchor draft there. right_kept plan keeps draft reached.places.keys reached.places.keys
      ([], sym (append-nil reached.places.keys)) anchor (is.right anchor draft there);
}
