-- Paths that are extended by one vertex.
use Rattle.std.proofs.Common.{◌≡◌, ℕ, ◌+◌, ◌-◌, ◌<◌, List, [], ◌∷◌, ◌++◌, length, get_or, take, Option, Some}
use Rattle.std.proofs.Common.{arith, rules}
use Rattle.std.proofs.Math.Nat.{le_refl}
use Rattle.std.proofs.lemmas.Bool.{cases_lt}
use Rattle.std.proofs.lemmas.List.{get_or_append_left, get_or_push, length_push, take-append-le, take_all}
use Rattle.ps_game.specs.Games.{ParityGame, vertex_count, owner_of, HasEdge}
use Rattle.ps_game.specs.Plays.{IsPath, Follows}
use Rattle.ps_game.specs.Strategies.{GoesBy, last_vertex}

-- a relation between consecutive elements of a list still holds after one element is appended, if it relates the old
-- last element to the new one
pub along-push : (R : ℕ → ℕ → ℕ → Type 0) (path : List ℕ) (w : ℕ) → 0 < length path →
    ((k : ℕ) → k + 1 < length path → R k (get_or path k 0) (get_or path (k + 1) 0)) →
    R (length path - 1) (last_vertex path) w → (k : ℕ) → k + 1 < length (path ++ w ∷ []) →
    R k (get_or (path ++ w ∷ []) k 0) (get_or (path ++ w ∷ []) (k + 1) 0)
along-push R path w some so_far last k within = search (rules, length_push, get_or_append_left, cases_lt, get_or_push)

-- an edge from the last vertex extends a path
pub IsPath-push : (game : ParityGame) (path : List ℕ) (w : ℕ) → IsPath game path → HasEdge game (last_vertex path) w →
    w < vertex_count game → IsPath game (path ++ w ∷ [])
IsPath-push game path w is_path edge is_vertex =
    let size : length (path ++ w ∷ []) ≡ length path + 1 = length_push path w in
    let IsVertex : ℕ → Type 0 = λ v. v < vertex_count game in
    record {
      begins = omega arith;
      vertices = search (rules, cases_lt, get_or_append_left, get_or_push);
      edges = along-push (λ k. HasEdge game) path w is_path.begins is_path.edges edge;
    }

-- a path that follows a table of moves, extended by one more step that follows the table, still follows the table
pub Follows-push : (game : ParityGame) (player : ℕ) (table : ℕ → Option ℕ) (path : List ℕ) (w : ℕ) → 0 < length path →
    Follows game player table path → (owner_of game (last_vertex path) ≡ player → table (last_vertex path) ≡ Some w) →
    Follows game player table (path ++ w ∷ [])
Follows-push game player table path w some follows last =
    along-push (λ k u x. owner_of game u ≡ player → table u ≡ Some x) path w some follows last

-- a path that follows a history table, extended by one more step that follows the history table, still follows the
-- history table
pub GoesBy-push : (game : ParityGame) (player : ℕ) (table : List ℕ → ℕ) (path : List ℕ) (w : ℕ) → 0 < length path →
    GoesBy game player table path → (owner_of game (last_vertex path) ≡ player → table path ≡ w) →
    GoesBy game player table (path ++ w ∷ [])
GoesBy-push game player table path w some goes_by last =
    along-push (λ k u x. owner_of game u ≡ player → table (take (k + 1) (path ++ w ∷ [])) ≡ x) path w some
    (λ k within owns. grind (arith, take-append-le)) (λ owns. search (rules, take-append-le, le_refl, take_all))
