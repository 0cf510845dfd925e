-- If one player holds a set by a table of moves, each history table (history-dependent strategy) of the other player
-- loses from each vertex of the set. The proof builds a path on which the player who holds the set moves by the table,
-- and the other player by the history table. The player who moves by the table wins each loop of the path that the
-- proof builds.
use Rattle.std.proofs.Common.{◌≡◌, ℕ, zero, suc, ◌+◌, ◌-◌, ◌<◌, ◌≤◌, inl, inr, List, [], ◌∷◌, ◌++◌, Bool, length, rules}
use Rattle.std.proofs.Common.{get_or, Option, Some, refl, sym, ◌∙◌, arith}
use Rattle.std.specs.Prelude.{IsTrue, IsSomeAnd}
use Rattle.std.proofs.Math.Nat.{le_refl}
use Rattle.std.proofs.lemmas.Bool.{cases_eq}
use Rattle.std.proofs.lemmas.List.{get_or_append_left, length_push}
use Rattle.ps_game.specs.Games.{ParityGame, IsGame, vertex_count, owner_of, HasEdge}
use Rattle.ps_game.specs.Plays.{IsPath, Follows, Holds, other_player}
use Rattle.ps_game.specs.Strategies.{IsHistoryTable, GoesBy, AllHistoriesBeaten, last_vertex}
use Rattle.ps_game.proofs.PathsAndLoops.Paths.{IsPath-push, Follows-push, GoesBy-push}
use Rattle.ps_game.proofs.PathsAndLoops.Repeats.{HasLoop-IsPath}

-- a path of k + 1 vertices from v, on which the player who holds the set follows the table and the other player follows
-- the history table
record Meets (game : ParityGame) (player : ℕ) (table : ℕ → Option ℕ) (history : List ℕ → ℕ) (v k : ℕ) : Type 0 where
  path : List ℕ
  is_path : IsPath game path
  starts : get_or path 0 0 ≡ v
  long : length path ≡ k + 1
  follows : Follows game (other_player player) table path
  goes_by : GoesBy game player history path

value_of : (o : Option ℕ) (P : ℕ → Type 0) → IsSomeAnd o P → (x : ℕ) × (o ≡ Some x) × P x
value_of o P h = search rules

pub players_differ : (player : ℕ) → player < 2 → player ≡ other_player player → ⊥
players_differ player is_player same = omega arith

module _ (game : ParityGame) (player : ℕ) (set : ℕ → Bool) (table : ℕ → Option ℕ) (is_game : IsGame game)
    (is_player : player < 2) (holds : Holds game (other_player player) set table) where
  -- a path of k + 1 vertices, on which one player moves by the table and the other by the history table, can be
  -- extended by one vertex
  meets_more : (n : ℕ) (history : List ℕ → ℕ) → IsHistoryTable game player n history → (v k : ℕ) → IsTrue (set v) →
      k < n → Meets game player table history v k → Meets game player table history v (suc k)
  meets_more n history is_table v k inside more met =
      let path = met.path in
      let last = last_vertex path in
      let some : 0 < length path = met.is_path.begins in
      let last_place : length path - 1 < length path = omega arith in
      let is_vertex : last < vertex_count game = met.is_path.vertices (length path - 1) last_place in
      let stays = holds.keeps.stays path met.is_path (rw met.starts inside) met.follows (length path - 1) last_place in
      let longer : (next : ℕ) → HasEdge game last next →
      (owner_of game last ≡ other_player player → table last ≡ Some next) →
      (owner_of game last ≡ player → history path ≡ next) → Meets game player table history v (suc k) =
      λ next edge by_table by_history. record {
        path = path ++ next ∷ [];
        is_path = IsPath-push game path next met.is_path edge (is_game.within _ _ edge);
        starts = get_or_append_left path (next ∷ []) 0 0 some ∙ met.starts;
        long = omega (arith, length_push path next, met.long);
        follows = Follows-push game (other_player player) table path next some met.follows by_table;
        goes_by = GoesBy-push game player history path next some met.goes_by by_history;
      } in
      elim (cases_eq (owner_of game last) player) [
        | inl owns ↦ longer (history path) (is_table path met.is_path (omega (arith, met.long)) owns)
            (λ other. absurd (players_differ player is_player (sym owns ∙ other))) (λ _. refl)
        | inr other ↦
            let owner = is_game.owners last is_vertex in
            let moved = value_of (table last) (HasEdge game last) (holds.keeps.moves _ is_vertex stays (omega arith)) in
            longer moved.0 moved.2 (λ _. moved.1) (λ same. absurd (other same))
      ]

  meets : (n : ℕ) (history : List ℕ → ℕ) → IsHistoryTable game player n history → (v : ℕ) → v < vertex_count game →
      IsTrue (set v) → (k : ℕ) → k ≤ n → Meets game player table history v k
  meets n history is_table v is_vertex inside zero within = record {
    path = v ∷ [];
    is_path = search rules;
    starts = refl;
    long = omega arith;
    follows = λ k below. absurd (omega arith);
    goes_by = λ k below. absurd (omega arith);
  }
  meets n history is_table v is_vertex inside (suc k) within = meets_more n history is_table v k inside (omega arith)
      (meets n history is_table v is_vertex inside k (omega arith))

  pub histories_beaten : (v : ℕ) → v < vertex_count game → IsTrue (set v) → AllHistoriesBeaten game player v
  histories_beaten v is_vertex inside n history is_table =
      let met = meets n history is_table v is_vertex inside n (le_refl n) in (
        grind arith,
        λ long. HasLoop-IsPath game met.path met.is_path (omega (arith, met.long)),
      )
