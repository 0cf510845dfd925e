-- Games whose vertices are known by keys: the vertex of a key, and edges as keys.
-- - `Vertex`: what the game says of the vertex v, whose key is `key`
-- - `key_once`, `edge_key`, `key_edge`: a key stands for one vertex; an edge leads to w exactly if the key of w is
--   among the keys of the successors
-- - `entered_from`: in a numbered game each vertex but the first has an edge to it
use Rattle.std.specs.Prelude.{◌≡◌, ◌≢◌, ℕ, zero, suc, ◌<◌, ◌≤◌, ◌⊎◌, List, length, map, Some, slice_get}
use Rattle.std.specs.Prelude.{slice_index_or}
use Rattle.std.specs.List.{AllPairs, AllZip, Contains}
use Rattle.std.proofs.Common.{sym, ◌∙◌, subst, ap, refl, inl, inr, arith, get_or}
use Rattle.std.proofs.lemmas.List.{length-map, get_or-map, get_or_default}
use Rattle.std.proofs.lemmas.List.Elements.{Contains-append_cases}
use Rattle.std.proofs.lemmas.Option.{get_or_from_slice_get, slice_get_read, slice_get_within}
use Rattle.ps_game.specs.Games.{ParityGame, vertex_count, owner_of, priority_of, successors_of, HasEdge}
use Rattle.ps_machine.specs.Keys.{owner_of_key, priority_of_key}
use Rattle.ps_machine.specs.Numbering.{IsGameByKeys, IsNumbered, IsVertexOf, StandsAt, listed}
use Rattle.ps_machine.specs.declared.key.Key.{Key}
use Rattle.ps_machine.proofs.AutomatonGames.GameKeys.Standing.{came, same_some, zip_vertex}
use Rattle.ps_machine.proofs.Uniqueness.Counting.{has_it}
use Rattle.ps_machine.proofs.Uniqueness.OneGame.{zipped}

-- ## Lists

pub stands_in : {X : Type 0} (xs : List X) (i : ℕ) (x : X) → slice_get xs i ≡ Some x → Contains xs x
stands_in xs i x at = (i, slice_get_within xs i x at, get_or_from_slice_get xs i x x at)

pub stands_there : {X : Type 0} (xs : List X) (x : X) → Contains xs x → (i : ℕ) × (slice_get xs i ≡ Some x)
stands_there xs x (i, within, same) = (i, slice_get_read xs (length xs) i x refl within (sym same))

pub in_map : {X Y : Type 0} (f : X → Y) (xs : List X) (x : X) → Contains xs x → Contains (map f xs) (f x)
in_map f xs x (k, within, same) =
    let inside : k < length (map f xs) = omega (arith, within, length-map xs f) in
    (k, inside, get_or-map f xs k x (f x) within ∙ ap f same)

pub from_map : {X Y : Type 0} (f : X → Y) (xs : List X) (d : X) (y : Y) → Contains (map f xs) y →
    (x : X) × Contains xs x × (y ≡ f x)
from_map f xs d y (k, within, same) =
    let inside : k < length xs = omega (arith, within, length-map xs f) in (
      get_or xs k d,
      (k, inside, get_or_default xs k (get_or xs k d) d inside),
      sym same ∙ get_or-map f xs k d y inside,
    )

pub index_once : {X : Type 0} (xs : List X) (x : X) (i j : ℕ) → AllPairs (λ a b. a ≢ b) xs →
    slice_get xs i ≡ Some x → slice_get xs j ≡ Some x → i ≡ j
index_once {X} xs x i j differ one other = elim (let t : (i < j) ⊎ (j < i) ⊎ (i ≡ j) = grind arith in t) [
  | inl less ↦ absurd (apart i j less one other)
  | inr (inl more) ↦ absurd (apart j i more other one)
  | inr (inr same) ↦ same
]
  where
    apart : (a b : ℕ) → a < b → slice_get xs a ≡ Some x → slice_get xs b ≡ Some x → ⊥
    apart a b less at there = differ a b x less (slice_get_within xs b x there)
        (get_or_from_slice_get xs a x x at ∙ sym (get_or_from_slice_get xs b x x there))

-- ## Vertices by their keys

pub record Vertex (leads : Key → List Key → Type 0) (mover : ℕ) (keys : List Key) (game : ParityGame) (v : ℕ)
    (key : Key) : Type 0 where
  pub below : v < vertex_count game
  pub owner : owner_of game v ≡ owner_of_key mover key
  pub priority : priority_of game v ≡ priority_of_key key
  pub next : List Key
  pub leads_to : leads key next
  pub successors : AllZip (StandsAt keys) (successors_of game v) next

module _ (leads : Key → List Key → Type 0) (mover : ℕ) (first : Key) (keys : List Key) (game : ParityGame)
    (is : IsGameByKeys leads mover first keys game) where
  pub below_keys : (v : ℕ) (key : Key) → StandsAt keys v key → v < vertex_count game
  below_keys v key at = subst (λ (n : ℕ). v < n) is.count (slice_get_within keys v key at)

  pub vertex_at : (v : ℕ) (key : Key) → StandsAt keys v key → Vertex leads mover keys game v key
  vertex_at v key at = as_key (is.vertices v (below_keys v key at))
    where
      as_key : IsVertexOf leads mover keys game v → Vertex leads mover keys game v key
      as_key here = let same : here.key ≡ key = same_some (sym here.stands ∙ at) in record {
        below = below_keys v key at;
        owner = here.owner ∙ ap (λ (k : Key). owner_of_key mover k) same;
        priority = here.priority ∙ ap (λ (k : Key). priority_of_key k) same;
        next = here.next;
        leads_to = subst (λ (k : Key). leads k here.next) same here.leads_to;
        successors = here.successors;
      }

  pub key_at : (v : ℕ) → v < vertex_count game → (key : Key) × StandsAt keys v key
  key_at v below = ((is.vertices v below).key, (is.vertices v below).stands)

  pub key_once : (v w : ℕ) (key : Key) → StandsAt keys v key → StandsAt keys w key → v ≡ w
  key_once v w key one other = index_once keys key v w is.different one other

  pub edge_key : (v w : ℕ) (key to : Key) (here : Vertex leads mover keys game v key) → StandsAt keys w to →
      HasEdge game v w → Contains here.next to
  edge_key v w key to here at edge = zipped keys (successors_of game v) here.next w to here.successors at edge.1

  pub next_vertex : (v : ℕ) (key to : Key) (here : Vertex leads mover keys game v key) → Contains here.next to →
      (w : ℕ) × HasEdge game v w × StandsAt keys w to
  next_vertex v key to here inside =
      let (w, contains, at) = zip_vertex keys (successors_of game v) here.next here.successors inside in
      (w, (here.below, contains), at)

  pub key_edge : (v w : ℕ) (key to : Key) (here : Vertex leads mover keys game v key) → StandsAt keys w to →
      Contains here.next to → HasEdge game v w
  key_edge v w key to here at inside =
      let (x, edge, there) = next_vertex v key to here inside in
      subst (λ (y : ℕ). HasEdge game v y) (key_once x w to there at) edge

-- ## Numbered games

entered_by : (game : ParityGame) (v n : ℕ) → 0 < v → n ≤ vertex_count game → Contains (listed game n) v →
    (u : ℕ) × HasEdge game u v
entered_by game v zero positive within (k, inside, same) = absurd (no_zero k inside same)
  where
    no_zero : (k : ℕ) → k < 1 → slice_index_or (listed game zero) k v ≡ v → ⊥
    no_zero zero inside same = omega (arith, positive, same)
    no_zero (suc k) inside same = omega (arith, inside)
entered_by game v (suc n) positive within here =
    elim (Contains-append_cases (listed game n) (successors_of game n) v here) [
      | inl before ↦ entered_by game v n positive (omega (arith, within)) before
      | inr next ↦ (n, (omega (arith, within), next))
    ]

pub entered_from : (game : ParityGame) (v : ℕ) → IsNumbered game → 0 < v → v < vertex_count game →
    (u : ℕ) × HasEdge game u v
entered_from game v numbered positive below = entered_by game v (vertex_count game) positive (omega arith)
    (has_it (listed game (vertex_count game)) v
    (came (listed game (vertex_count game)) (vertex_count game) v numbered below))
