-- Lists of vertices in four arrays: adding a vertex, replacing ids by indices, and vertices without repeated
-- successors.
use Rattle.std.proofs.Common.{◌≡◌, ◌≢◌, ℕ, suc, ◌+◌, ◌^◌, ◌<◌, ◌≤◌, Bool, not, List, [], ◌∷◌, ◌++◌, rules, map, filter}
use Rattle.std.proofs.Common.{length, get_or, take, refl, sym, ap, ap₂, ◌∙◌, arith, length-append, take-append-drop}
use Rattle.std.proofs.Common.{inl, inr}
use Rattle.std.specs.Prelude.{◌==◌, nat_lt}
use Rattle.std.specs.List.{All, AllPairs, Contains, list_all, list_any}
use Rattle.std.proofs.lemmas.Bool.{cases_lt, eq-eqb, le-ltb, lt-ltb, ne_eqb}
use Rattle.std.proofs.lemmas.Grind.{flat_map-append, get_or_default_zero}
use Rattle.std.proofs.lemmas.List.{append-nil, get_or_append_left, get_or_push, length-map, map-append, take-append-le}
use Rattle.std.proofs.lemmas.List.{take-map, take_all, get_or-take}
use Rattle.std.proofs.lemmas.List.Elements.{All-cons, All-tail}
use Rattle.std.proofs.lemmas.List.Folds.{list_all-append, list_any_at, list_any_none}
use Rattle.std.proofs.Math.Seq.{length-take-le, take-append_seam}
use Rattle.ps_ids.specs.Ids.{AreDistinct, place_of}
use Rattle.ps_ids.proofs.IdPlaces.{position_here}
use Rattle.ps_game.specs.Games.{VertexData, ParityGame}
use Rattle.ps_game.specs.Drafts.{distinct, without_repeats, with_places, AreOwn, HaveNoRepeats}
use Rattle.ps_game.specs.Flat.{game_in, AreVertices, TellGame, all_successors}
use Rattle.ps_game.proofs.StoredGames.FlatArrays.{front_within, game_is}

-- ---- adding a vertex

pub tell_none : TellGame [] (0 ∷ []) [] [] []
tell_none = search rules

all_successors-push : (game : ParityGame) (v : VertexData) →
    all_successors (game ++ v ∷ []) ≡ all_successors game ++ v.successors
all_successors-push game v = search (rules, flat_map-append, append-nil)

abbrev owner_there : VertexData → ℕ
owner_there v = v.owner

abbrev priority_there : VertexData → ℕ
priority_there v = v.priority

abbrev all_successors-length : ParityGame → ℕ
all_successors-length game = length (all_successors game)

-- the arrays represent the given list of vertices, each with an owner 0 or 1
pub record StandFor (game : ParityGame) (offsets successors owners priorities : List ℕ) : Type 0 where
  pub are : AreVertices offsets successors owners priorities
  pub is : game_in offsets successors owners priorities ≡ game

module _ {game : ParityGame} {offsets successors owners priorities : List ℕ}
    (tell : TellGame game offsets successors owners priorities) where
  pub tell_more : (v : VertexData) {n : ℕ} {offsets' successors' owners' priorities' : List ℕ} →
      offsets' ≡ offsets ++ n ∷ [] → successors' ≡ successors ++ v.successors → owners' ≡ owners ++ v.owner ∷ [] →
      priorities' ≡ priorities ++ v.priority ∷ [] → n ≡ length successors' → n < 2 ^ 64 →
      TellGame (game ++ v ∷ []) offsets' successors' owners' priorities'
  tell_more v {n = n} o s w p is few = search (
    rules,
    all_successors-push,
    length-append,
    cases_lt,
    get_or_append_left,
    take-append-le,
    get_or_push,
    take_all,
    map-append,
  )

  -- the first k vertices are represented by the front parts of the arrays
  pub tell_front : {k : ℕ} → k ≤ length game →
      TellGame (take k game) (take (k + 1) offsets) (take (get_or offsets k 0) successors) (take k owners)
      (take k priorities)
  tell_front {k = k} le =
      let front = tell.offsets_are in
      let long : length (take k game) ≡ k = length-take-le k game le in
      let both = take-append-drop k game in
      search (
        rules,
        flat_map-append,
        take-append_seam,
        length-take-le,
        get_or-take,
        take-append-le,
        front_within,
        take-map,
      )

  -- arrays with the offsets, successors, owners and priorities of a game represent the game, if each owner is 0 or 1
  pub stand_for : All (λ v. v.owner < 2) game → StandFor game offsets successors owners priorities
  stand_for players = search (rules, game_is)

-- ---- replacing ids by indices

all_successors-placed : (ids : List ℕ) (game : ParityGame) →
    all_successors (map (with_places ids) game) ≡ map (place_of ids) (all_successors game)
all_successors-placed ids [] = refl
all_successors-placed ids (v ∷ game) = search (rules, map-append, all_successors-placed ids game)

-- replacing ids by indices changes neither the owners nor the priorities
kept-placed : (f : VertexData → ℕ) (ids : List ℕ) → ((v : VertexData) → f (with_places ids v) ≡ f v) →
    (game : ParityGame) → map f (map (with_places ids) game) ≡ map f game
kept-placed f ids same [] = refl
kept-placed f ids same (v ∷ game) = ap₂ (λ n ns. n ∷ ns) (same v) (kept-placed f ids same game)

pub players-placed : (ids : List ℕ) (game : ParityGame) → All (λ v. v.owner < 2) game →
    All (λ v. v.owner < 2) (map (with_places ids) game)
players-placed ids [] all = all
players-placed ids (v ∷ game) all = All-cons (λ v. v.owner < 2) (with_places ids v) (map (with_places ids) game)
    (all 0 v (omega arith)) (players-placed ids game (All-tail (λ v. v.owner < 2) v game all))

pub tell_placed : (ids : List ℕ) {game : ParityGame} {offsets successors owners priorities successors' : List ℕ} →
    TellGame game offsets successors owners priorities → successors' ≡ map (place_of ids) successors →
    TellGame (map (with_places ids) game) offsets successors' owners priorities
tell_placed ids {game = game} {successors = successors} tell are =
    search (rules, length-map, all_successors-placed, take-map, kept-placed)

-- ---- a test of all successors

pub all_tested-each : (p : ℕ → Bool) (game : ParityGame) →
    list_all p (all_successors game) ≡ list_all (λ v. list_all p v.successors) game
all_tested-each p [] = refl
all_tested-each p (v ∷ game) = search (rules, list_all-append, all_tested-each p game)

-- ---- ids that are their own indices

module _ (ids : List ℕ) (own : AreOwn ids) where
  own_place-same : (id : ℕ) → Contains ids id → place_of ids id ≡ id
  own_place-same id (k, within, e) =
      let here : get_or ids k 0 ≡ id = sym (get_or_default_zero ids k id within) ∙ e in
      let distinct : AreDistinct ids = λ i j d lt less. grind (arith, own, get_or_default_zero) in
      rw (position_here ids id k distinct within here) (sym (own k within) ∙ here)

  own_places-same : (list : List ℕ) → All (λ id. Contains ids id) list → map (place_of ids) list ≡ list
  own_places-same [] all = refl
  own_places-same (id ∷ list) all = ap₂ (λ n ns. n ∷ ns) (own_place-same id (all 0 id (omega arith)))
      (own_places-same list (All-tail (λ id. Contains ids id) id list all))

  -- a number is an id exactly if it is less than the number of ids
  own_place-below : (w : ℕ) → nat_lt w (length ids) ≡ list_any (λ id. w == id) ids
  own_place-below w = elim (cases_lt w (length ids)) [
    | inl lt ↦
        rw (list_any_at (λ id. w == id) ids w 0 lt (eq-eqb w (get_or ids w 0) (sym (own w lt))))
        (lt-ltb w (length ids) lt)
    | inr le ↦
        rw (list_any_none (λ id. w == id) ids (λ k d lt. grind (arith, own, get_or_default_zero, ne_eqb)))
        (le-ltb w (length ids) le)
  ]

  own_places-below : (list : List ℕ) →
      list_all (λ w. nat_lt w (length ids)) list ≡ list_all (λ w. list_any (λ id. w == id) ids) list
  own_places-below [] = refl
  own_places-below (w ∷ list) = search (rules, own_place-below, own_places-below list)

  -- each successor is an id exactly if each is less than the number of ids
  pub successors-below : (game : ParityGame) → list_all (λ w. nat_lt w (length ids)) (all_successors game) ≡
      list_all (λ v. list_all (λ w. list_any (λ id. w == id) ids) v.successors) game
  successors-below game =
      own_places-below (all_successors game) ∙ all_tested-each (λ w. list_any (λ id. w == id) ids) game

  -- if each id is its own index, replacing ids by indices changes nothing
  pub with_places-same : (game : ParityGame) → All (λ v. All (λ id. Contains ids id) v.successors) game →
      map (with_places ids) game ≡ game
  with_places-same [] all = refl
  with_places-same (v ∷ game) all = ap₂ (λ ws vs. record v { successors = ws } ∷ vs)
      (own_places-same v.successors (all 0 v (omega arith)))
      (with_places-same game (All-tail (λ v. All (λ id. Contains ids id) v.successors) v game all))

-- ---- vertices without repeated successors

filter_none : (x : ℕ) (ys : List ℕ) → All (λ y. x ≢ y) ys → filter (λ y. not (x == y)) ys ≡ ys
filter_none x [] all = refl
filter_none x (y ∷ ys) all =
    rw (ne_eqb x y (all 0 y (omega arith))) (ap (λ zs. y ∷ zs) (filter_none x ys (All-tail (λ y. x ≢ y) y ys all)))

pub distinct_same : (xs : List ℕ) → AllPairs (λ x y. x ≢ y) xs → distinct xs ≡ xs
distinct_same [] differ = refl
distinct_same (x ∷ xs) differ = ap (λ ys. x ∷ filter (λ y. not (x == y)) ys)
    (distinct_same xs (λ i j d lt within. differ (suc i) (suc j) d (omega arith) (omega arith)))
    ∙ ap (λ ys. x ∷ ys) (filter_none x xs (λ k d lt. differ 0 (suc k) d (omega arith) (omega arith)))

pub without_repeats-same : (game : ParityGame) → HaveNoRepeats game → without_repeats game ≡ game
without_repeats-same [] none = refl
without_repeats-same (v ∷ game) none = ap₂ (λ ws vs. record v { successors = ws } ∷ vs) (grind (
  arith,
  distinct_same v.successors (none 0 v (omega arith)),
)) (without_repeats-same game (λ k d lt. none (suc k) d (omega arith)))
