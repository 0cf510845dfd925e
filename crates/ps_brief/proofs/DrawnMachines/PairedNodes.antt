-- The diagrams of pairs, made one after another while the store and the list of pairs grow.
-- - `kept_within`, `is_drafted`, `draft_at`: each memory state has a draft
-- - `next_paired`: one more memory state has its node
use Rattle.std.specs.Prelude.{◌≡◌, ℕ, ◌+◌, ◌^◌, ◌<◌, ◌++◌, ◌∷◌, [], List, length, nat_eq, Option, None, Some}
use Rattle.std.specs.Prelude.{slice_index, slice_index_or}
use Rattle.std.specs.List.{All, Contains}
use Rattle.std.proofs.Common.{sym, ◌∙◌, subst, ap, refl, inl, inr, arith}
use Rattle.std.proofs.lemmas.Bool.{cases_lt}
use Rattle.std.proofs.lemmas.List.{get_or_append_left, get_or_push, length_push}
use Rattle.std.proofs.lemmas.Option.{get_or_from_slice_get, slice_get-get_or, slice_get_within}
use Rattle.indexmap.specs.IndexMap.{get}
use Rattle.ps_diagram.specs.Pairs.{Adds, IsPaired, MeetAt}
use Rattle.ps_diagram.specs.Table.{Table, IsNode, Keeps, leaf_of}
use Rattle.ps_game.specs.Games.{ParityGame}
use Rattle.ps_machine.specs.Inner.Drawing.{anchor_of}
use Rattle.ps_machine.specs.Numbering.{StandsAt}
use Rattle.ps_machine.specs.declared.key.Key.TheVariants.{First}
use Rattle.ps_brief.specs.Settings.{Fits, board_in}
use Rattle.ps_brief.specs.Inner.Drafts.{IsReady, play_of}
use Rattle.ps_brief.specs.Inner.Playable.{IsPlayable}
use Rattle.ps_brief.specs.Inner.Reaching.{IsReached, Reaches}
use Rattle.ps_brief.specs.Inner.Parts.{ArePaired, HasDraftAt, HasMemories, IsGoodLeaf, IsPairedNode}
use Rattle.ps_brief.specs.declared.drafts.Draft.{Draft}
use Rattle.ps_brief.specs.declared.drafts.Plan.{Plan}
use Rattle.ps_brief.specs.declared.memories.Memories.{Memories}
use Rattle.ps_brief.specs.declared.reach.Reached.{Reached}
use Rattle.ps_brief.proofs.ListedStates.KeptTargets.{leaf_kept}
use Rattle.ps_brief.proofs.DrawnMachines.KeptPlaces.{found_reaches}
use Rattle.ps_brief.proofs.DrawnMachines.RowSteps.{good_leaf}
use Rattle.ps_brief.proofs.DrawnMachines.VisitedKeys.{draft_kept}

as_leaves : (pairs : List (ℕ × ℕ)) {a c x z : Option ℕ} → a ≡ x → c ≡ z → IsPaired pairs a a c → IsPaired pairs x x z
as_leaves pairs {a} {c} {x} {z} ax cz is = subst (λ (o : Option ℕ). IsPaired pairs x x o) cz
    (subst (λ (o : Option ℕ). IsPaired pairs o o c) ax is)

abbrev draft_stays : (plan : Plan) {s t : Table} → Keeps s t → (reached : Reached) (v : ℕ) →
    HasDraftAt plan s reached v →
    HasDraftAt plan t reached v
draft_stays plan keeps reached v has = record {
  state = has.state;
  priority = has.priority;
  reaches = has.reaches;
  draft = has.draft;
  stored = has.stored;
  is_draft = draft_kept plan keeps has.draft has.state has.priority has.is_draft;
}

module _ (plan : Plan) {s t : Table} (keeps : Keeps s t) (reached : Reached) (P : ℕ × ℕ → Type 0)
    (old new : List (ℕ × ℕ)) (adds : Adds P old new) where
  pair_stays : (a b c : Option ℕ) → IsPaired old a b c → IsPaired new a b c
  pair_stays None b c e = e
  pair_stays (Some k) None c e = e
  pair_stays (Some k) (Some m) c (place, leaf, at) = (place, leaf, adds.stays place (k, m) at)

  node_kept : (v node : ℕ) → IsPairedNode plan s reached old v node → IsPairedNode plan t reached new v node
  node_kept v node is = record {
    held = keeps.held node is.held;
    has = draft_stays plan keeps reached v is.has;
    paired = λ x. as_leaves new (sym (leaf_kept is.has.draft.steps x keeps is.has.is_draft.heeds.steps_held))
        (sym (leaf_kept node x keeps is.held))
        (pair_stays (leaf_of s is.has.draft.steps x) (leaf_of s is.has.draft.steps x) (leaf_of s node x) (is.paired x));
  }

  node_made : (v : ℕ) (has : HasDraftAt plan s reached v) (node : ℕ) → IsNode t node →
      ((x : ℕ) → IsPaired new (leaf_of s has.draft.steps x) (leaf_of s has.draft.steps x) (leaf_of t node x)) →
      IsPairedNode plan t reached new v node
  node_made v has node held paired = record {
    held = held;
    has = draft_stays plan keeps reached v has;
    paired = λ x. as_leaves new (sym (leaf_kept has.draft.steps x keeps has.is_draft.heeds.steps_held)) refl (paired x);
  }

  one_paired : (kept nodes more : List ℕ) (i v node : ℕ) → v ≡ slice_index kept i → more ≡ nodes ++ node ∷ [] →
      All (IsGoodLeaf plan) new → IsPairedNode plan t reached new v node → ArePaired plan s reached kept old nodes i →
      ArePaired plan t reached kept new more (i + 1)
  one_paired kept nodes more i v node at is good made paired = record {
    many = ap (λ (xs : List ℕ). length xs) is ∙ length_push nodes node ∙ ap (λ (k : ℕ). k + 1) paired.many;
    good = good;
    each = λ k less. elim (cases_lt k i) [
      | inl below ↦
          let inside : k < length nodes = omega (arith, below, paired.many) in
          let same : slice_index more k ≡ slice_index nodes k = ap (λ (xs : List ℕ). slice_index xs k) is
          ∙ get_or_append_left nodes (node ∷ []) 0 k inside in
          subst (λ (u : ℕ). IsPairedNode plan t reached new (slice_index kept k) u) (sym same)
          (node_kept (slice_index kept k) (slice_index nodes k) (paired.each k below))
      | inr above ↦
          let is_i : k ≡ length nodes = omega (arith, less, above, paired.many) in
          let is_k : k ≡ i = omega (arith, less, above) in
          let same : slice_index more k ≡ node = ap (λ (xs : List ℕ). slice_index xs k) is
          ∙ get_or_push nodes node 0 k (sym is_i) in
          subst (λ (u : ℕ). IsPairedNode plan t reached new (slice_index kept k) u) (sym same)
          (subst (λ (w : ℕ). IsPairedNode plan t reached new w node)
          (at ∙ ap (λ (j : ℕ). slice_index kept j) (sym is_k)) made)
    ];
  }

leaves_good : (plan : Plan) {s : Table} (arena : ParityGame) → IsPlayable (play_of plan) plan.moves_first arena →
    Fits plan.setting.now s → s.propositions ≡ (board_in plan.setting.now).propositions → (reached : Reached) (v : ℕ)
    (has : HasDraftAt plan s reached v) → (old new : List (ℕ × ℕ)) →
    Adds (MeetAt s has.draft.steps has.draft.steps) old new → All (IsGoodLeaf plan) old → All (IsGoodLeaf plan) new
leaves_good plan {s} arena playable fits size reached v has old new adds good i d within =
    let pair : ℕ × ℕ = slice_index_or new i d in
    elim (adds.added i pair (slice_get-get_or new i d within)) [
      | inl before ↦
          let inside : i < length old = slice_get_within old i pair before in
          subst (λ (x : ℕ × ℕ). IsGoodLeaf plan x) (get_or_from_slice_get old i pair d before) (good i d inside)
      | inr meets ↦
          let below : meets.0 < 2 ^ (board_in plan.setting.now).propositions =
          subst (λ (n : ℕ). meets.0 < 2 ^ n) size meets.1 in
          good_leaf plan arena playable fits v has.state has.priority has.reaches has.draft has.is_draft pair.0 meets.0
          below meets.2 pair.1
    ]

-- ## The drafts of memory states

module _ (plan : Plan) {s : Table} (reached : Reached) (is : IsReached plan s reached) (memories : Memories)
    (m : HasMemories plan reached memories) (i v : ℕ) (within : i < length memories.kept.items)
    (is_kept : v ≡ slice_index memories.kept.items i) where
  pub kept_within : v < length (play_of plan).keys
  kept_within =
      let here = m.each i within in
      let inside : slice_index memories.kept.items i < length (play_of plan).keys =
      slice_get_within (play_of plan).keys (slice_index memories.kept.items i) (First here.state here.priority)
      here.stands in
      omega (arith, inside, is_kept)

  pub kept_reaches : (q p : ℕ) → StandsAt (play_of plan).keys v (First q p) → Reaches plan v q p
  kept_reaches q p stands = found_reaches plan reached is memories m v q p
      (subst (λ (w : ℕ). Contains reached.places.keys w) (sym is_kept) (m.each i within).is_used) stands

  pub is_drafted : (q p : ℕ) → StandsAt (play_of plan).keys v (First q p) →
      None ≡ get nat_eq reached.drafts (anchor_of plan.moves_first v q) → ⊥
  is_drafted q p stands none =
      let has = is.drafts v q p (kept_reaches q p stands) in
      let both : None ≡ Some has.draft = none ∙ has.stored in
      cc both

  abbrev pub draft_at : {t : Table} → Keeps s t → (q p : ℕ) → StandsAt (play_of plan).keys v (First q p) →
      (draft : Draft) →
      get nat_eq reached.drafts (anchor_of plan.moves_first v q) ≡ Some draft → HasDraftAt plan t reached v
  draft_at keeps q p stands draft stored = record {
    state = q;
    priority = p;
    reaches = kept_reaches q p stands;
    draft = draft;
    stored = stored;
    is_draft = draft_kept plan keeps draft q p
        ((is.right (anchor_of plan.moves_first v q) draft stored).is_draft v q p (kept_reaches q p stands) refl);
  }

pub next_paired : (plan : Plan) {s t : Table} → IsReady plan s → Keeps s t → (reached : Reached) (v : ℕ)
    (has : HasDraftAt plan s reached v) → (old new : List (ℕ × ℕ)) →
    Adds (MeetAt s has.draft.steps has.draft.steps) old new →
    (kept nodes more : List ℕ) (i node : ℕ) → v ≡ slice_index kept i → more ≡ nodes ++ node ∷ [] → IsNode t node →
    ((x : ℕ) → IsPaired new (leaf_of s has.draft.steps x) (leaf_of s has.draft.steps x) (leaf_of t node x)) →
    ArePaired plan s reached kept old nodes i → ArePaired plan t reached kept new more (i + 1)
next_paired plan {s} {t} ready keeps reached v has old new adds kept nodes more i node is_kept is held leaves paired =
    let size : s.propositions ≡ (board_in plan.setting.now).propositions =
    ready.fits.fit.keeps.propositions ∙ ready.fits.fit.whole.letters in
    let good = leaves_good plan plan.arena.now ready.playable ready.fits size reached v has old new adds paired.good in
    let made = node_made plan keeps reached (MeetAt s has.draft.steps has.draft.steps) old new adds v has node held
    leaves in
    one_paired plan keeps reached (MeetAt s has.draft.steps has.draft.steps) old new adds kept nodes more i v node
    is_kept is good made paired
