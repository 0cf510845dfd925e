-- A path from vertex 0 to a vertex is found backwards, by a table of predecessors. For each vertex, the table has the
-- first vertex with an edge to it, if this vertex is smaller, and otherwise the vertex itself.
-- - `lowered_none`, `lowered_here`, `lowered_kept`: `HasLowered` holds before any successor of the vertex is handled,
--   and still holds after each further successor is handled
-- - `firsts_none`, `firsts_more`: `AreFirsts` holds before any vertex is handled, and still holds after each further
--   vertex is handled
-- - `fall`: in the table, the entry of each vertex except 0 is an earlier vertex
-- - `way_is`: if each vertex of a list is the table's entry of the vertex after it, the list is a path
use Rattle.std.proofs.Common.{◌≡◌, ℕ, ◌+◌, ◌-◌, ◌<◌, ◌≤◌, ◌⊎◌, inl, inr, List, length, get_or, set, refl, sym}
use Rattle.std.proofs.Common.{ap, subst, ◌∙◌, arith, length-set, [], ◌∷◌, ◌++◌, reverse, take, drop, append-nil}
use Rattle.std.specs.List.{range_with_len}
use Rattle.std.proofs.lemmas.Bool.{cases_eq, cases_lt}
use Rattle.std.proofs.lemmas.Grind.{get_or-set_at}
use Rattle.std.proofs.lemmas.List.{get_or_append_left, get_or_default, get_or_push, get_or-reverse, get_or-set_other}
use Rattle.std.proofs.lemmas.List.{drop_all, length_push, length-reverse, take_all}
use Rattle.std.proofs.lemmas.List.FromFn.{get_or-range_with_len, length-range_with_len}
use Rattle.ps_game.specs.Games.{ParityGame, IsGame, HasEdge, successors_of, vertex_count}
use Rattle.ps_product.specs.Products.{IsLedTo}
use Rattle.ps_verify.specs.Inner.Ways.{AreFirsts, Fall, HasLowered, IsWayBack, IsWayBy, IsWayTo}

-- ## The successors of a vertex

pub successor_within : {game : ParityGame} {v k next : ℕ} (firsts : List ℕ) → IsGame game → v < vertex_count game →
    k < length (successors_of game v) → next ≡ get_or (successors_of game v) k 0 →
    length firsts ≡ vertex_count game → next < length firsts
successor_within {game} {v} {k} {next} firsts is_game within less is each = omega (
  arith,
  each,
  is_game.within v next
      (within, (k, less, get_or_default (successors_of game v) k next 0 less ∙ sym is)),
)

pub lowered_none : (game : ParityGame) (v : ℕ) (firsts : List ℕ) → HasLowered game v 0 firsts firsts
lowered_none game v firsts = record {
  each = refl;
  lower = λ w. omega arith;
  here = λ k less. absurd (omega arith);
  sound = λ w. inl refl;
}

module _ {game : ParityGame} {v count : ℕ} {old now : List ℕ} (is_game : IsGame game)
    (within : v < vertex_count game) (so_far : HasLowered game v count old now) (next : ℕ)
    (is : next ≡ get_or (successors_of game v) count 0) (less : count < length (successors_of game v)) where
  edge : HasEdge game v next
  edge = (within, (count, less, get_or_default (successors_of game v) count next 0 less ∙ sym is))

  -- `HasLowered` still holds after one more successor: each entry is the old entry or v, no entry has become larger,
  -- and the entry of the successor is at most v
  lowered_by : (new : List ℕ) → length new ≡ length now → ((w : ℕ) → get_or new w 0 ≤ get_or now w 0) →
      get_or new next 0 ≤ v → ((w : ℕ) → (get_or new w 0 ≡ get_or now w 0) ⊎ ((get_or new w 0 ≡ v) × (w ≡ next))) →
      HasLowered game v (count + 1) old new
  lowered_by new each lower here sound = record {
    each = each ∙ so_far.each;
    lower = λ w. omega (arith, lower w, so_far.lower w);
    here = λ k below. elim (cases_eq k count) [
      | inl same ↦ rw (same, ← is) here
      | inr other ↦ omega (arith, lower (get_or (successors_of game v) k 0), so_far.here k (omega arith))
    ];
    sound = λ w. elim (sound w) [
      | inl kept ↦ elim (so_far.sound w) [
        | inl old_one ↦ inl (kept ∙ old_one)
        | inr put ↦ inr (kept ∙ put.0, put.1)
      ]
      | inr put ↦ inr (put.0, rw put.1 edge)
    ];
  }

  pub lowered_here : v < get_or now next 0 → next < length now →
      HasLowered game v (count + 1) old (set now next v)
  lowered_here lower inside = lowered_by (set now next v) (length-set now next v)
      (λ w. elim (cases_eq w next) [
        | inl same ↦ rw same (omega (arith, get_or-set_at now next next v 0 refl inside))
        | inr other ↦ omega (arith, get_or-set_other now next w v 0 other)
      ]) (omega (arith, get_or-set_at now next next v 0 refl inside))
      (λ w. elim (cases_eq w next) [
        | inl same ↦ inr (get_or-set_at now next w v 0 same inside, same)
        | inr other ↦ inl (get_or-set_other now next w v 0 other)
      ])

  pub lowered_kept : get_or now next 0 ≤ v → HasLowered game v (count + 1) old now
  lowered_kept low = lowered_by now refl (λ w. omega arith) low (λ w. inl refl)

-- ## All vertices

pub firsts_none : {game : ParityGame} {firsts : List ℕ} → firsts ≡ range_with_len 0 (vertex_count game) →
    AreFirsts game 0 firsts
firsts_none {game} {firsts} is = record {
  each = ap length is ∙ length-range_with_len 0 (vertex_count game);
  least = λ v w below. absurd (omega arith);
  sound = λ w below. inl (ap (λ (xs : List ℕ). get_or xs w 0) is
      ∙ get_or-range_with_len 0 (vertex_count game) w 0 below ∙ omega arith);
}

pub firsts_more : {game : ParityGame} {n : ℕ} {old new : List ℕ} → AreFirsts game n old →
    HasLowered game n (length (successors_of game n)) old new → AreFirsts game (n + 1) new
firsts_more {game} {n} {old} {new} so_far lowered = record {
  each = lowered.each ∙ so_far.each;
  least = λ v w below edge. elim (cases_eq v n) [
    | inl same ↦ (let at = edge.1 in
        let is : get_or (successors_of game v) at.0 0 ≡ w =
        get_or_default (successors_of game v) at.0 0 w at.1 ∙ at.2 in
        let here : get_or new (get_or (successors_of game n) at.0 0) 0 ≤ n = lowered.here at.0 (rw (← same) at.1) in
        rw (← is) (rw same here))
    | inr other ↦ omega (arith, lowered.lower w, so_far.least v w (omega arith) edge)
  ];
  sound = λ w below. elim (lowered.sound w) [
    | inl kept ↦ elim (so_far.sound w below) [
      | inl same ↦ inl (kept ∙ same)
      | inr edge ↦ inr (rw kept edge)
    ]
    | inr put ↦ inr (rw put.0 put.1)
  ];
}

-- after a mutable borrow of the whole slice, the vector has the slice's new contents
pub firsts_lent : {game : ParityGame} {n : ℕ} (len : ℕ) {old : List ℕ} (new : List ℕ) → len ≡ length old →
    AreFirsts game n old →
    HasLowered game n (length (successors_of game n)) old new →
    AreFirsts game (n + 1) (take len (new ++ drop (length new) old))
firsts_lent {game} {n} len {old} new many so_far lowered =
    let none : drop (length new) old ≡ [] = drop_all (length new) old (omega (arith, lowered.each)) in
    let whole : take len (new ++ drop (length new) old) ≡ new = rw (none, append-nil new)
    (take_all len new (omega (arith, lowered.each))) in
    rw whole (firsts_more so_far lowered)

-- ## Ways

module _ {game : ParityGame} {firsts : List ℕ} (are : AreFirsts game (vertex_count game) firsts)
    (reached : (w : ℕ) → 0 < w → w < vertex_count game → IsLedTo game w) where
  pub fall : Fall firsts
  fall w some below =
      let led = reached w some (omega (arith, are.each)) in
      omega (arith, are.least led.from w led.edge.0 led.edge, led.earlier)

  pub way_is : {way : List ℕ} {v : ℕ} → IsWayBy firsts way v → IsWayTo game way v
  way_is {way} {v} by = record {
    is_path = record {
      begins = by.begins;
      vertices = λ k below. omega (arith, by.vertices k below, are.each);
      edges = λ k below. (let w = get_or way (k + 1) 0 in
          let step = by.steps k below in
          let inside = by.vertices (k + 1) below in
          elim (are.sound w (omega (arith, are.each, inside))) [
            | inl same ↦ absurd (omega (arith, same, fall w step.0 inside))
            | inr edge ↦ rw step.1 at edge
          ]);
    };
    from = by.from;
    ends = by.ends;
  }

-- ## Backwards

pub back_none : {firsts : List ℕ} (v : ℕ) → v < length firsts → IsWayBack firsts (v ∷ []) v v
back_none v within = record {
  begins = omega arith;
  from = refl;
  ends = refl;
  vertices = λ k below. (let e : k ≡ 0 = omega arith in rw e within);
  steps = λ k below. absurd (omega arith);
}

pub back_more : {firsts way : List ℕ} {v first : ℕ} → Fall firsts → IsWayBack firsts way v first → 0 < first →
    IsWayBack firsts (way ++ get_or firsts first 0 ∷ []) v (get_or firsts first 0)
back_more {firsts} {way} {v} {first} falls back some =
    let next = get_or firsts first 0 in
    let many = length_push way next in
    let old : (k : ℕ) → k < length way → get_or (way ++ next ∷ []) k 0 ≡ get_or way k 0 =
    λ k below. get_or_append_left way (next ∷ []) 0 k below in
    let last : get_or (way ++ next ∷ []) (length way) 0 ≡ next = get_or_push way next 0 (length way) refl in
    let begins = back.begins in
    let there : first < length firsts =
    subst (λ n. n < length firsts) back.ends (back.vertices (length way - 1) (omega arith)) in
    record {
      begins = omega arith;
      from = old 0 begins ∙ back.from;
      ends = ap (λ k. get_or (way ++ next ∷ []) k 0) (omega arith) ∙ last;
      vertices = λ k below. elim (cases_lt k (length way)) [
        | inl less ↦ omega (arith, old k less, back.vertices k less)
        | inr more ↦ (let e : k ≡ length way = omega arith in rw (e, last) (omega (arith, falls first some there)))
      ];
      steps = λ k below. elim (cases_lt (k + 1) (length way)) [
        | inl less ↦ rw (old k (omega arith), old (k + 1) less) (back.steps k less)
        | inr more ↦ (let e : k + 1 ≡ length way = omega arith in
            let at : get_or way k 0 ≡ first = ap (λ n. get_or way n 0) (omega arith) ∙ back.ends in
            rw (old k (omega arith), e, last, at) (some, refl))
      ];
    }

pub way_of_back : {firsts way : List ℕ} {v : ℕ} → IsWayBack firsts way v 0 → IsWayBy firsts (reverse way) v
way_of_back {firsts} {way} {v} back =
    let many = length-reverse way in
    let at : (k j : ℕ) → k + j + 1 ≡ length way → get_or (reverse way) k 0 ≡ get_or way j 0 =
    λ k j e. get_or-reverse way k 0 (omega arith) ∙ ap (λ n. get_or way n 0) (omega arith) in
    let begins = back.begins in
    record {
      begins = omega arith;
      from = at 0 (length way - 1) (omega arith) ∙ back.ends;
      ends = at (length (reverse way) - 1) 0 (omega arith) ∙ back.from;
      vertices = λ k below. rw (at k (length way - 1 - k) (omega arith))
          (back.vertices (length way - 1 - k) (omega arith));
      steps = λ k below. (let j = length way - 2 - k in
          rw (at k (j + 1) (omega arith), at (k + 1) j (omega arith)) (back.steps j (omega arith)));
    }
