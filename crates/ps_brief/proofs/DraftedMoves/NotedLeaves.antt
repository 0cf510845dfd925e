-- The leaves of the steps to the listed keys are noted state by state.
-- - `none_noted`, `noted_more`, `all_noted`: at first, after one more state, and after all
-- - `notes_skipped`, `notes_set`: one more target of a state
-- - `has_targets`, `noted_at`: a listed state has targets, and their leaves are noted
use Rattle.std.specs.Prelude.{◌≡◌, ◌≢◌, ◌⊎◌, ℕ, ◌+◌, ◌<◌, ◌≤◌, List, length, None, Option, Some, slice_get}
use Rattle.std.specs.Prelude.{nat_eq, slice_index_or}
use Rattle.std.specs.List.{AllPairs, Contains}
use Rattle.std.proofs.Common.{sym, ◌∙◌, subst, ap, inl, inr, arith, get_or, set}
use Rattle.std.proofs.lemmas.Bool.{cases_eq, cases_lt}
use Rattle.std.proofs.lemmas.List.{get_or-map, get_or-set_other, get_or-set_same, length-map, length-set}
use Rattle.std.proofs.lemmas.Option.{get_or_from_slice_get, same_Some, slice_get-get_or, slice_get_within}
use Rattle.indexmap.specs.IndexMap.{get}
use Rattle.ps_automaton.specs.Automata.{pair_of}
use Rattle.ps_automaton.specs.declared.step.Step.{Step}
use Rattle.ps_diagram.specs.Table.{Table}
use Rattle.ps_certificate.proofs.FlawsAndValidity.SuccessorEdges.{some_of}
use Rattle.ps_machine.specs.Numbering.{StandsAt}
use Rattle.ps_machine.proofs.AutomatonGames.GameKeys.Standing.{same_some}
use Rattle.ps_machine.specs.declared.key.Key.{Key}
use Rattle.ps_machine.specs.declared.key.Key.TheVariants.{First}
use Rattle.ps_basis.specs.PairOrder.{HasStepTo}
use Rattle.ps_basis.proofs.ArenaKeys.{index_once, stands_in, stands_there}
use Rattle.ps_basis.proofs.ListedOrder.{listed_in_order}
use Rattle.ps_brief.specs.Listings.{AreTargetsAt, IsListing, listed_keys}
use Rattle.ps_brief.specs.Settings.{board_in}
use Rattle.ps_brief.specs.Targets.{IsTarget}
use Rattle.ps_brief.specs.Inner.Drafts.{AreLeavesOf}
use Rattle.ps_brief.specs.Inner.Parts.{AreNotedUpTo}
use Rattle.ps_brief.specs.declared.listing.Listing.{Listing}
use Rattle.ps_brief.specs.declared.setting.Setting.{Setting}
use Rattle.ps_brief.specs.declared.steps.Target.{Target}
use Rattle.ps_brief.specs.declared.steps.Targets.{Targets}
use Rattle.ps_brief.proofs.DraftedMoves.Drafting.{first_states}
use Rattle.ps_brief.proofs.ListedStates.TargetLists.{no_target}

pub none_noted : (setting : Setting) (keys : List Key) (leaves : List (Option ℕ)) → length leaves ≡ length keys →
    ((v : ℕ) → slice_index_or leaves v None ≡ None) → AreNotedUpTo setting keys leaves 0
none_noted setting keys leaves many none = record {
  count = many;
  each = λ v leaf at. let both : None ≡ Some leaf = sym (none v) ∙ at in absurd (cc both);
  whole = λ i v q p r s less. absurd (omega (arith, less));
}

pub all_noted : (setting : Setting) (keys : List Key) (leaves : List (Option ℕ)) (n : ℕ) → length keys ≤ n →
    AreNotedUpTo setting keys leaves n → AreLeavesOf setting keys leaves
all_noted setting keys leaves n done noted = record {
  count = noted.count;
  each = noted.each;
  whole = λ v q p r s inside leads stands none.
      let (i, at) = stands_there keys (First q p) inside in
      noted.whole i v q p r s (omega (arith, slice_get_within keys i (First q p) at, done)) at leads stands none;
}

-- the leaves keep what was noted, and note each key to which the state leads
pub record NotesState (setting : Setting) (keys : List Key) (q : ℕ) (old new : List (Option ℕ)) : Type 0 where
  pub count : length new ≡ length old
  pub each : (v leaf : ℕ) → slice_index_or new v None ≡ Some leaf → (leaf < length setting.automaton.now.steps) ×
      StandsAt keys v (First (pair_of setting.automaton.now leaf).state (pair_of setting.automaton.now leaf).priority)
  pub stays : (v : ℕ) → slice_index_or new v None ≡ None → slice_index_or old v None ≡ None
  pub whole : (v r s : ℕ) → HasStepTo (board_in setting) q r s → StandsAt keys v (First r s) →
      slice_index_or new v None ≡ None → ⊥

pub noted_more : (setting : Setting) (keys : List Key) (n q p : ℕ) (old new : List (Option ℕ)) →
    StandsAt keys n (First q p) → NotesState setting keys q old new → AreNotedUpTo setting keys old n →
    AreNotedUpTo setting keys new (n + 1)
noted_more setting keys n q p old new here notes noted = record {
  count = notes.count ∙ noted.count;
  each = notes.each;
  whole = λ i v r o t s less at leads stands none. elim (cases_lt i n) [
    | inl below ↦ noted.whole i v r o t s below at leads stands (notes.stays v none)
    | inr above ↦
        let is_n : i ≡ n = omega (arith, less, above) in
        let key : First r o ≡ First q p = same_some (sym at ∙ ap (λ (j : ℕ). slice_get keys j) is_n ∙ here) in
        notes.whole v t s (subst (λ (z : ℕ). HasStepTo (board_in setting) z t s) (first_states key) leads) stands none
  ];
}

-- ## One state's targets

pub record IsNoted (keys : List Key) (targets : List Target) (v leaf : ℕ) : Type 0 where
  pub index : ℕ
  pub target : Target
  pub at : slice_get targets index ≡ Some target
  pub is : target.leaf ≡ leaf
  pub stands : StandsAt keys v (First target.state target.priority)

-- the leaves of the first n targets are noted
pub record NotesFirst (keys : List Key) (targets : List Target) (n : ℕ) (old new : List (Option ℕ)) : Type 0 where
  pub count : length new ≡ length old
  pub each : (v leaf : ℕ) → slice_index_or new v None ≡ Some leaf →
      (slice_index_or old v None ≡ Some leaf) ⊎ IsNoted keys targets v leaf
  pub stays : (v : ℕ) → slice_index_or new v None ≡ None → slice_index_or old v None ≡ None
  pub whole : AllPairs (λ x y. x ≢ y) keys → (i v : ℕ) (target : Target) → i < n → slice_get targets i ≡ Some target →
      StandsAt keys v (First target.state target.priority) → slice_index_or new v None ≡ None → ⊥

module _ (keys : List Key) (targets : List Target) (n : ℕ) (target : Target)
    (here : slice_get targets n ≡ Some target) (old now : List (Option ℕ)) (notes : NotesFirst keys targets n old now)
  where
    last_target : (i : ℕ) (one : Target) → i < n + 1 → n ≤ i → slice_get targets i ≡ Some one → one ≡ target
    last_target i one less above at =
        let is_n : i ≡ n = omega (arith, less, above) in
        let both : Some one ≡ Some target = sym at ∙ ap (λ (j : ℕ). slice_get targets j) is_n ∙ here in
        same_Some one target both

    pub notes_skipped : (Contains keys (First target.state target.priority) → ⊥) →
        NotesFirst keys targets (n + 1) old now
    notes_skipped absent = record {
      count = notes.count;
      each = notes.each;
      stays = notes.stays;
      whole = λ differ i v one less at stands none. elim (cases_lt i n) [
        | inl below ↦ notes.whole differ i v one below at stands none
        | inr above ↦
            let is : one ≡ target = last_target i one less above at in
            absurd (absent (subst (λ (t : Target). Contains keys (First t.state t.priority)) is
            (stands_in keys v (First one.state one.priority) stands)))
      ];
    }

    module _ (place : ℕ) (stands : StandsAt keys place (First target.state target.priority))
        (within : place < length now) (new : List (Option ℕ)) (is_new : new ≡ set now place (Some target.leaf))
      where
        at_place : (v : ℕ) → v ≡ place → slice_index_or new v None ≡ Some target.leaf
        at_place v same = ap (λ (xs : List (Option ℕ)). slice_index_or xs v None) is_new
            ∙ ap (λ (w : ℕ). slice_index_or (set now place (Some target.leaf)) w None) same
            ∙ get_or-set_same now place (Some target.leaf) None within

        elsewhere : (v : ℕ) → v ≢ place → slice_index_or new v None ≡ slice_index_or now v None
        elsewhere v differs = ap (λ (xs : List (Option ℕ)). slice_index_or xs v None) is_new
            ∙ get_or-set_other now place v (Some target.leaf) None differs

        pub notes_set : NotesFirst keys targets (n + 1) old new
        notes_set = record {
          count = ap (λ (xs : List (Option ℕ)). length xs) is_new ∙ length-set now place (Some target.leaf)
              ∙ notes.count;
          each = λ v leaf at. elim (cases_eq v place) [
            | inl same ↦
                let both : Some target.leaf ≡ Some leaf = sym (at_place v same) ∙ at in
                let v_stands : StandsAt keys v (First target.state target.priority) =
                subst (λ (w : ℕ). StandsAt keys w (First target.state target.priority)) (sym same) stands in
                inr (record {
                  index = n;
                  target = target;
                  at = here;
                  is = same_Some target.leaf leaf both;
                  stands = v_stands;
                })
            | inr differs ↦ notes.each v leaf (sym (elsewhere v differs) ∙ at)
          ];
          stays = λ v none. elim (cases_eq v place) [
            | inl same ↦ let both : Some target.leaf ≡ None = sym (at_place v same) ∙ none in cc both
            | inr differs ↦ notes.stays v (sym (elsewhere v differs) ∙ none)
          ];
          whole = λ differ i v one less at v_stands none. elim (cases_eq v place) [
            | inl same ↦ let both : Some target.leaf ≡ None = sym (at_place v same) ∙ none in cc both
            | inr differs ↦ elim (cases_lt i n) [
              | inl below ↦ notes.whole differ i v one below at v_stands (sym (elsewhere v differs) ∙ none)
              | inr above ↦
                  let is : one ≡ target = last_target i one less above at in
                  let there : StandsAt keys v (First target.state target.priority) =
                  subst (λ (t : Target). StandsAt keys v (First t.state t.priority)) is v_stands in
                  absurd (differs (index_once keys (First target.state target.priority) v place differ there stands))
            ]
          ];
        }

-- the leaves of all targets of a state are noted
pub state_noted : (setting : Setting) {t : Table} (keys : List Key) → AllPairs (λ x y. x ≢ y) keys →
    (q : ℕ) (targets : Targets) → AreTargetsAt setting t q targets → (n : ℕ) → length targets.list.items ≤ n →
    (old new : List (Option ℕ)) →
    NotesFirst keys targets.list.items n old new → ((v leaf : ℕ) → slice_index_or old v None ≡ Some leaf →
    (leaf < length setting.automaton.now.steps) × StandsAt keys v (First (pair_of setting.automaton.now leaf).state
    (pair_of setting.automaton.now leaf).priority)) → NotesState setting keys q old new
state_noted setting {t} keys differ q targets at n done old new notes before = record {
  count = notes.count;
  each = λ v leaf there. elim (notes.each v leaf there) [
    | inl was ↦ before v leaf was
    | inr noted ↦ right v leaf noted
  ];
  stays = notes.stays;
  whole = λ v r s leads stands none.
      let from : HasStepTo (board_in setting) targets.state r s =
      subst (λ (p : ℕ). HasStepTo (board_in setting) p r s) (sym at.state) leads in
      let (i, target, is_target, is) = target_to r s from in
      notes.whole differ i v target (omega (arith, slice_get_within targets.list.items i target is_target, done))
      is_target (subst (λ (key : Key). StandsAt keys v key) (sym is) stands) none;
}
  where
    one : (i : ℕ) (target : Target) → slice_get targets.list.items i ≡ Some target →
        IsTarget setting t targets.state target
    one i target there = subst (λ (x : Target). IsTarget setting t targets.state x)
        (get_or_from_slice_get targets.list.items i target target there)
        (at.are.each i target (slice_get_within targets.list.items i target there))

    right : (v leaf : ℕ) → IsNoted keys targets.list.items v leaf → (leaf < length setting.automaton.now.steps) ×
        StandsAt keys v (First (pair_of setting.automaton.now leaf).state (pair_of setting.automaton.now leaf).priority)
    right v leaf noted =
        let is = one noted.index noted.target noted.at in
        let step : pair_of setting.automaton.now leaf ≡
        record { state = noted.target.state; priority = noted.target.priority } =
        ap (λ (l : ℕ). pair_of setting.automaton.now l) (sym noted.is) ∙ is.step in (
          subst (λ (l : ℕ). l < length setting.automaton.now.steps) noted.is is.within,
          subst (λ (s : Step). StandsAt keys v (First s.state s.priority)) (sym step) noted.stands,
        )

    target_to : (r s : ℕ) → HasStepTo (board_in setting) targets.state r s → (i : ℕ) × (target : Target) ×
        (slice_get targets.list.items i ≡ Some target) × (First target.state target.priority ≡ First r s)
    target_to r s leads =
        let (i, within, same) = at.are.listed.complete r s leads in
        let inside : i < length targets.list.items =
        omega (arith, within, length-map targets.list.items (λ (x : Target). First x.state x.priority)) in
        let is : First r s ≡ First (get_or targets.list.items i no_target).state
        (get_or targets.list.items i no_target).priority =
        sym same ∙ get_or-map (λ (x : Target). First x.state x.priority) targets.list.items i no_target (First r s)
        inside in (
          i,
          get_or targets.list.items i no_target,
          slice_get-get_or targets.list.items i no_target inside,
          sym is,
        )

-- ## A listing

module _ (setting : Setting) {t : Table} (listing : Listing) (is : IsListing setting t listing) (n q p : ℕ)
    (stands : StandsAt (listed_keys listing) n (First q p)) where
  abbrev keys : List Key
  keys = listed_keys listing

  there : (targets : Targets) × (get nat_eq listing.targets q ≡ Some targets) × AreTargetsAt setting t q targets
  there = some_of (get nat_eq listing.targets q) (AreTargetsAt setting t q)
      (is.targets q p (stands_in keys n (First q p) stands))

  pub has_targets : None ≡ get nat_eq listing.targets q → ⊥
  has_targets none = let both : None ≡ Some there.0 = none ∙ there.1 in cc both

  pub noted_at : (targets : Targets) → get nat_eq listing.targets q ≡ Some targets → (k : ℕ) →
      length targets.list.items ≤ k → (old new : List (Option ℕ)) → NotesFirst keys targets.list.items k old new →
      AreNotedUpTo setting keys old n → AreNotedUpTo setting keys new (n + 1)
  noted_at targets stored k done old new notes noted =
      let both : Some targets ≡ Some there.0 = sym stored ∙ there.1 in
      let at : AreTargetsAt setting t q targets =
      subst (λ (x : Targets). AreTargetsAt setting t q x) (sym (same_Some targets there.0 both)) there.2 in
      noted_more setting keys n q p old new stands
      (state_noted setting keys (listed_in_order (board_in setting) keys is.listed).different q targets at k done old
      new notes noted.each) noted
