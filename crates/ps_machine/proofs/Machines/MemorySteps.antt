-- The code makes memory states for the vertices visited so far. Visiting one more vertex keeps all earlier memory
-- states, and adds a memory state if the vertex needs a new one.
use Rattle.std.proofs.Common.{◌≡◌, ◌≢◌, ℕ, ◌+◌, ◌<◌, ◌≤◌, Bool, true, false, List, [], ◌∷◌, ◌++◌, length}
use Rattle.std.proofs.Common.{get_or, refl, ap, sym, ◌∙◌, arith, not, nat_eq, rules}
use Rattle.std.specs.List.{All, AllPairs, Contains, list_any}
use Rattle.std.specs.Cmp.{nat_eq_equiv}
use Rattle.std.proofs.lemmas.Bool.{eqb-true}
use Rattle.std.proofs.lemmas.List.{get_or_append_left, get_or_push, length_push}
use Rattle.std.proofs.lemmas.List.Elements.{All-push}
use Rattle.std.proofs.lemmas.List.Quantifiers.{all_pairs_push}
use Rattle.std.proofs.lemmas.Option.{slice_get_within, slice_get-get_or}
use Rattle.std.proofs.lemmas.Map.Views.{Contains-from_any, list_any-from_Contains}
use Rattle.indexmap.specs.IndexSet.{insert_key}
use Rattle.ps_machine.specs.Inner.Drawing.{AreMemories, HasMemory, IsMemory, KeepsAt, anchor_of}
use Rattle.ps_machine.specs.Numbering.{StandsAt}
use Rattle.ps_machine.specs.declared.key.Key.{Key}
use Rattle.ps_machine.specs.declared.key.Key.TheVariants.{First}
use Rattle.ps_machine.proofs.AutomatonGames.GameKeys.Exploring.{less_or_last}
use Rattle.ps_machine.proofs.Machines.UsedVertices.{different_push, inserted}
use Rattle.ps_machine.proofs.AutomatonGames.GameKeys.Standing.{one_state, slice_get-seam}
use Rattle.ps_diagram.proofs.ClassesOfLetters.Distinct.{at_left}

not_not : (b : Bool) → not (not b) ≡ b
not_not b = search rules

-- ## One memory state

-- if a search with the table's equality test finds a number, the number is in the list
pub is_there : (xs : List ℕ) (x : ℕ) {b : Bool} → b ≡ list_any (nat_eq x) xs → b ≡ true → Contains xs x
is_there xs x told is = Contains-from_any (λ y z h. eqb-true y z h) x xs (sym told ∙ is)

pub is_absent : (xs : List ℕ) (x : ℕ) {b : Bool} → b ≡ list_any (nat_eq x) xs → b ≡ false → Contains xs x → ⊥
is_absent xs x told is there = cc (list_any-from_Contains nat_eq_equiv x xs there)

pub keeps_known : {kept anchors : List ℕ} {v anchor : ℕ} {new : List ℕ} {b : Bool} →
    b ≡ not (list_any (nat_eq anchor) anchors)
    → b ≡ false → new ≡ insert_key nat_eq anchors anchor → KeepsAt kept anchors v anchor kept new
keeps_known {anchors} {anchor} {new} {b} told is e = grind (
  arith,
  inserted anchors anchor new e,
  is_there anchors anchor (ap not told ∙ not_not (list_any (nat_eq anchor) anchors)) (ap not is),
)

-- ## The memory states of the first vertices

module _ (is_first : Bool) (keys : List Key) (used : List ℕ) where
  -- the memory states that the reachable vertices less than n need
  pub record AreMemoriesBelow (kept anchors : List ℕ) (n : ℕ) : Type 0 where
    pub many : length anchors ≡ length kept
    pub rising : AllPairs (λ v w. v < w) kept
    pub different : AllPairs (λ one other. one ≢ other) anchors
    pub below : All (λ v. v < n) kept
    pub each : (memory : ℕ) → memory < length kept → IsMemory is_first keys used kept anchors memory
    pub found : (v q p : ℕ) → v < n → Contains used v → StandsAt keys v (First q p) →
        HasMemory kept anchors v (anchor_of is_first v q)

  pub none_below : {kept anchors : List ℕ} → kept ≡ [] → anchors ≡ [] → AreMemoriesBelow kept anchors 0
  none_below {anchors} k m = grind arith

  all_less : (kept : List ℕ) (n : ℕ) → All (λ v. v < n) kept → All (λ v. v < n + 1) kept
  all_less kept n below i d within = (let less = below i d within in omega arith)

  -- a vertex that is not reachable, or at which the second player moves, adds no memory state
  pub below_skip : {kept anchors : List ℕ} {n : ℕ} → ((q p : ℕ) → Contains used n → StandsAt keys n (First q p) → ⊥) →
      AreMemoriesBelow kept anchors n → AreMemoriesBelow kept anchors (n + 1)
  below_skip {kept} {n} none m = search (rules, all_less, less_or_last)

  -- each anchor in the list `anchors` belongs to a memory state (an anchor is what a memory state remembers)
  came_has : {kept anchors : List ℕ} {n anchor : ℕ} → AreMemoriesBelow kept anchors n → Contains anchors anchor →
      HasMemory kept anchors n anchor
  came_has {kept} {anchors} {anchor} m came = search (rules, slice_get-get_or)

  module _ {kept anchors : List ℕ} {n : ℕ} (q p : ℕ) (m : AreMemoriesBelow kept anchors n)
      (stands : StandsAt keys n (First q p)) (is_used : Contains used n) where
    abbrev new_kept : List ℕ
    new_kept = kept ++ n ∷ []

    abbrev new_anchor : ℕ
    new_anchor = anchor_of is_first n q

    abbrev new_anchors : List ℕ
    new_anchors = anchors ++ new_anchor ∷ []

    kept_left : (memory : ℕ) → memory < length kept → get_or new_kept memory 0 ≡ get_or kept memory 0
    kept_left memory within = get_or_append_left kept (n ∷ []) 0 memory within

    kept_last : get_or new_kept (length kept) 0 ≡ n
    kept_last = get_or_push kept n 0 (length kept) refl

    -- if `kept'` and `anchors'` have a memory state for n, and for each vertex that has one in `kept` and `anchors`,
    -- they have one for each reachable first-player vertex up to n
    found_more : (kept' anchors' : List ℕ) → ((v x : ℕ) → HasMemory kept anchors v x → HasMemory kept' anchors' v x) →
        HasMemory kept' anchors' n new_anchor → (v r l : ℕ) → v < n + 1 → Contains used v →
        StandsAt keys v (First r l) →
        HasMemory kept' anchors' v (anchor_of is_first v r)
    found_more kept' anchors' still here v r l less used_v at = search (rules, less_or_last, one_state)

    has_left : (v x : ℕ) → HasMemory kept anchors v x → HasMemory new_kept new_anchors v x
    has_left v x h =
        let within : h.memory < length kept =
        omega (arith, slice_get_within anchors h.memory x h.is_anchored, m.many) in
        grind (arith, at_left, kept_left)

    has_last : HasMemory new_kept new_anchors n new_anchor
    has_last = search (rules, slice_get-seam, kept_last)

    memory_left : (memory : ℕ) → memory < length kept → IsMemory is_first keys used new_kept new_anchors memory
    memory_left memory within =
        let old = m.each memory within in
        grind (arith, kept_left, at_left)

    memory_last : IsMemory is_first keys used new_kept new_anchors (length kept)
    memory_last = record {
      state = q;
      priority = p;
      stands = rw kept_last stands;
      is_used = rw kept_last is_used;
      anchor = rw (kept_last, ← m.many) (slice_get-seam anchors);
    }

    below_stays : Contains anchors new_anchor → AreMemoriesBelow kept anchors (n + 1)
    below_stays came = search (rules, all_less, found_more, came_has)

    below_grows : (Contains anchors new_anchor → ⊥) → AreMemoriesBelow new_kept new_anchors (n + 1)
    below_grows comes = record {
      many = omega (arith, length_push anchors new_anchor, length_push kept n, m.many);
      rising = all_pairs_push (λ v w. v < w) kept n m.rising m.below;
      different = different_push anchors new_anchor comes m.different;
      below = All-push (λ v. v < n + 1) kept n (all_less kept n m.below) (omega arith);
      each = search (rules, less_or_last, length_push, memory_left, memory_last);
      found = found_more new_kept new_anchors has_left has_last;
    }

    pub below_more : {kept' anchors' : List ℕ} → KeepsAt kept anchors n new_anchor kept' anchors' →
        AreMemoriesBelow kept' anchors' (n + 1)
    below_more h = search (rules, below_stays, below_grows)

  pub all_below : {kept anchors : List ℕ} {n : ℕ} → length keys ≤ n → AreMemoriesBelow kept anchors n →
      AreMemories is_first keys used kept anchors
  all_below all m = search (rules, slice_get_within)
