-- Games in four arrays: reading a vertex and its successors from the arrays that represent a game, and a condition
-- under which arrays represent a given game.
use Rattle.std.proofs.Common.{◌≡◌, ℕ, ◌+◌, ◌-◌, ◌^◌, ◌<◌, ◌≤◌, List, [], ◌∷◌, ◌++◌, length, get_or, take, rules}
use Rattle.std.proofs.Common.{drop, length-append, take-append-drop, append-nil, refl, sym, ap, ◌∙◌, arith}
use Rattle.std.specs.List.{All, flat_map, slice_range}
use Rattle.std.proofs.lemmas.Grind.{flat_map-append, get_or_default_zero}
use Rattle.std.proofs.lemmas.List.{get_or-map, get_or_default, get_or-take, get_or-drop}
use Rattle.std.proofs.lemmas.List.{length-map, drop_more, take_more, drop_at, take_at}
use Rattle.std.proofs.lemmas.List.Concat.{length-flat_map}
use Rattle.std.proofs.lemmas.List.Elements.{All-append, All-tail}
use Rattle.std.proofs.lemmas.List.FromFn.{fill_by_all}
use Rattle.ps_game.specs.Games.{VertexData, ParityGame, IsGame, no_vertex, vertex_count, owner_of, priority_of}
use Rattle.ps_game.specs.Games.{successors_of}
use Rattle.ps_game.specs.Drafts.{NoneUnknown}
use Rattle.ps_game.specs.Flat.{successors_in, vertex_in, game_in, AreFlat, FitsWithin, TellGame, all_successors}
use Rattle.ps_game.specs.Flat.{edge_count}
use Rattle.ps_game.proofs.PathsAndLoops.SubgameFacts.{edge_at}

-- ---- consecutive pieces

-- in the concatenation of a sequence of lists, each list ends where the next list begins
pub piece_ends : {X A : Type 0} (f : X → List A) (xs : List X) (i : ℕ) (d : X) → i < length xs →
    length (flat_map f (take (i + 1) xs)) ≡ length (flat_map f (take i xs)) + length (f (get_or xs i d))
piece_ends f xs i d lt = rw (take_more xs i d lt, flat_map-append f, append-nil (f (get_or xs i d)), length-append)

-- in the concatenation of a sequence of lists, each list is the range from its start up to the start of the next list
piece_at : {X A : Type 0} (f : X → List A) (xs : List X) (i : ℕ) (d : X) → i < length xs →
    slice_range (flat_map f xs) (length (flat_map f (take i xs))) (length (flat_map f (take (i + 1) xs))) ≡
    f (get_or xs i d)
piece_at f xs i d lt =
    let x = get_or xs i d in
    let before = flat_map f (take i xs) in
    let behind = flat_map f (drop (i + 1) xs) in
    let split : flat_map f xs ≡ before ++ (f x ++ behind) = ap (flat_map f) (sym (take-append-drop i xs))
    ∙ flat_map-append f (take i xs) (drop i xs) ∙ ap (λ ys. before ++ flat_map f ys) (drop_more xs i d lt) in
    grind (arith, piece_ends, drop_at, take_at)

-- the vertices before v have together at most as many successors as all vertices have
pub front_within : (game : ParityGame) (v : ℕ) → length (all_successors (take v game)) ≤ length (all_successors game)
front_within game v =
    let f : VertexData → List ℕ = λ d. d.successors in
    grind (
      arith,
      take-append-drop v game,
      flat_map-append f (take v game) (drop v game),
      length-append (flat_map f (take v game)) (flat_map f (drop v game)),
    )

-- ---- facts about each successor

-- each successor of a vertex of a game is a vertex
none_unknown : (game : ParityGame) → IsGame game → NoneUnknown game
none_unknown game is_game v lt k d less =
    rw (get_or_default (successors_of game v) k d 0 less) (is_game.within v _ (edge_at game v k lt less))

pub All-successors : (P : ℕ → Type 0) (game : ParityGame) → All (λ v. All P v.successors) game →
    All P (all_successors game)
All-successors P [] all = λ k d lt. absurd (omega arith)
All-successors P (v ∷ game) all = All-append P v.successors (all_successors game) (all 0 v (omega arith))
    (All-successors P game (All-tail (λ v. All P v.successors) v game all))

-- ---- the content of the four arrays of a game

-- the four arrays have the owner, the priority and the successors of the vertex v of the game
pub record StandsAt (game : ParityGame) (offsets successors owners priorities : List ℕ) (v : ℕ) : Type 0 where
  pub owned : v < length owners
  pub ranked : v < length priorities
  pub ended : v + 1 < length offsets
  pub rises : get_or offsets v 0 ≤ get_or offsets (v + 1) 0
  pub within : get_or offsets (v + 1) 0 ≤ length successors
  pub few : length successors < 2 ^ 64
  pub owner_is : get_or owners v 0 ≡ owner_of game v
  pub priority_is : get_or priorities v 0 ≡ priority_of game v
  pub part_is : successors_in offsets successors v ≡ successors_of game v
  pub degree_is : length (successors_of game v) ≡ get_or offsets (v + 1) 0 - get_or offsets v 0

pub successor_is : {game : ParityGame} {offsets successors owners priorities : List ℕ} {v number : ℕ} →
    StandsAt game offsets successors owners priorities v → number < length (successors_of game v) →
    get_or successors (get_or offsets v 0 + number) 0 ≡ get_or (successors_of game v) number 0
successor_is {successors = successors} {number = number} at less = search (rules, get_or-take, get_or-drop)

-- `part` is the range of `successors` from `start` up to `end`
pub record IsPart (successors : List ℕ) (start end : ℕ) (part : List ℕ) : Type 0 where
  pub rises : start ≤ end
  pub within : end ≤ length successors
  pub is : slice_range successors start end ≡ part

module _ {game : ParityGame} {offsets successors owners priorities : List ℕ}
    (tell : TellGame game offsets successors owners priorities) where
  -- the array of owners has one entry for each vertex
  as_many : length owners ≡ length game
  as_many = ap length tell.owners_are ∙ length-map game (λ v. v.owner)

  pub owners_count : {other : ParityGame} → game ≡ other → length owners ≡ vertex_count other
  unfolding vertex_count
  owners_count is = as_many ∙ ap length is

  -- arrays that represent a game have the owner, the priority and the successors of each vertex of the game
  pub stands : {other : ParityGame} → game ≡ other → {v : ℕ} → v < vertex_count other →
      StandsAt other offsets successors owners priorities v
  unfolding vertex_count owner_of priority_of successors_of
  stands is {v = v} lt =
      let less : v < length game = omega (arith, ap length is) in
      let front = tell.offsets_are.in_front v (omega arith) in
      let next = tell.offsets_are.in_front (v + 1) (omega arith) in
      let ends = piece_ends (λ (d : VertexData). d.successors) game v no_vertex less in
      grind (arith, front_within, piece_at, as_many, length-map, get_or-map)

  -- the successors of a vertex are the range between the two offsets that the code reads
  pub part_read : {other : ParityGame} → game ≡ other → {v start end : ℕ} → v < vertex_count other →
      start ≡ get_or offsets v start → end ≡ get_or offsets (v + 1) end →
      IsPart successors start end (successors_of other v)
  part_read is {v = v} {start = start} {end = end} lt starts ends =
      let at = stands is lt in
      grind (arith, get_or_default_zero)

  pub game_is : game_in offsets successors owners priorities ≡ game
  unfolding game_in owner_of priority_of successors_of vertex_count
  game_is = sym (fill_by_all (vertex_in offsets successors owners priorities) game (length owners) no_vertex
      (sym as_many) (λ v lt. search (rules, stands, as_many)))

  pub game_flat : IsGame game → AreFlat offsets successors owners priorities
  unfolding vertex_count
  game_flat is_game = record {
    offset_each = omega (arith, tell.offsets_are.offset_each, as_many);
    priority_each = ap length tell.priorities_are ∙ length-map game (λ v. v.priority) ∙ sym as_many;
    in_order = λ v lt. (stands refl {v = v} (omega (arith, as_many))).rises;
    within = λ v lt. (stands refl {v = v} (omega (arith, as_many))).within;
    few = tell.few;
    is_game = rw game_is is_game;
    tell = rw game_is tell;
  }

  pub edges_count : {other : ParityGame} → game ≡ other → length successors ≡ edge_count other
  edges_count is = search (rules, length-flat_map)

  -- if the number of edges is at most the limit (the largest number of an integer type), so is each entry of the array
  -- of offsets
  pub offsets_fit : {other : ParityGame} {limit : ℕ} → game ≡ other → FitsWithin other limit →
      All (λ n. n ≤ limit) offsets
  offsets_fit is fits k d lt = search (rules, get_or_default, front_within, edges_count)

  -- if the number of vertices is at most the limit (the largest number of an integer type), so is each entry of the
  -- array of successors
  pub successors_fit : {other : ParityGame} {limit : ℕ} → game ≡ other → IsGame game → FitsWithin other limit →
      length owners < 2 ^ 64 → All (λ w. w ≤ limit) successors
  unfolding vertex_count successors_of
  successors_fit {limit = limit} is is_game fits few = rw tell.successors_are (All-successors (λ w. w ≤ limit) game
      (λ v d lt k e less. search (rules, get_or_default, none_unknown, owners_count, as_many, fits.vertices)))
