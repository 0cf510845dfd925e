-- From a region to the whole game. If the player owns no vertex, and the region has all vertices, the region's counts
-- (a progress measure) are counts for the game. A cycle that the player loses in a region is a cycle of the game.
-- - `wins_loops`: if the player owns no vertex, and the region of all vertices has counts, the player wins all loops of
--   the game
-- - `lost_round`: if the player loses a cycle in a region, this cycle, followed by its first vertex, is a path of the
--   game, and its greatest priority has the parity of the player's opponent
use Rattle.std.proofs.Common.{◌≡◌, ℕ, ◌+◌, ◌<◌, ◌⊎◌, inl, inr, List, [], ◌∷◌, length, get_or, Option}
use Rattle.std.proofs.Common.{Bool, true, ◌∙◌, refl, arith, rules}
use Rattle.std.proofs.lemmas.Bool.{cases_eq, cases_lt}
use Rattle.std.proofs.lemmas.List.{get_or_append_left, get_or_push, get_or_default, length_push}
use Rattle.ps_automaton.proofs.AdmittedFiles.Deciding.{some_or_none}
use Rattle.ps_game.specs.Games.{ParityGame, IsGame, HasEdge, owner_of, priority_of, vertex_count}
use Rattle.ps_game.specs.Plays.{other_player}
use Rattle.ps_game.specs.Ranking.{RemainsWithin}
use Rattle.ps_game.specs.Regions.{has}
use Rattle.ps_measure.specs.Ranks.{AreRanks, IsLostCycle, count_of}
use Rattle.ps_verify.specs.Inner.Rounds.{IsLostRound, WinsLoops, round_of}

-- ## Counts

abbrev IsAt : List ℕ → ℕ → ℕ → Type 0
IsAt xs x k = (k < length xs) × (get_or xs k 0 ≡ x)

listed_or_not : (xs : List ℕ) (x : ℕ) → ((k : ℕ) × IsAt xs x k) ⊎ ((k : ℕ) × IsAt xs x k → ⊥)
listed_or_not xs x = some_or_none (IsAt xs x)
    (λ k. grind (arith, cases_lt k (length xs), cases_eq (get_or xs k 0) x)) (length xs) (λ k h. h.0)

module _ {game : ParityGame} {player : ℕ} (is_player : player < 2) (is_game : IsGame game)
    (owners : (v : ℕ) → v < vertex_count game → owner_of game v ≡ other_player player) (region : List Bool)
    (all : (v : ℕ) → v < vertex_count game → has region v ≡ true) {table : ℕ → Option ℕ} where
  remains : (v w : ℕ) → HasEdge game v w → RemainsWithin game player (has region) table v w
  remains v w edge = record {
    from = all v edge.0;
    to = all w (is_game.within v w edge);
    remains = record { edge = edge; chosen = λ own. absurd (omega (arith, own, owners v edge.0)) };
  }

  pub wins_loops : {priorities : List ℕ} {rows : List (List ℕ)} →
      AreRanks game player (has region) table priorities rows → WinsLoops game player
  wins_loops {priorities} {rows} ranks p parity = elim (listed_or_not priorities p) [
    | inl found ↦ record {
      count = λ v. count_of rows v found.0;
      keep = λ v w edge. rw found.1.1 at ((ranks.columns found.0 found.1.0).keep v w (remains v w edge));
    }
    | inr nowhere ↦ record {
      count = λ v. 0;
      keep = λ v w edge. record {
        never_rises = λ low below. omega arith;
        falls = λ is below. (let at = ranks.listed.complete v edge.0 (rw is parity) in absurd (nowhere (
          at.0,
          (at.1, get_or_default priorities at.0 0 (priority_of game v) at.1 ∙ at.2 ∙ is),
        )));
      };
    }
  ]

-- ## Cycles

module _ {game : ParityGame} {player : ℕ} {set : ℕ → Bool} {table : ℕ → Option ℕ} {cycle : List ℕ}
    (lost : IsLostCycle game player set table cycle) where
  long : length (round_of cycle) ≡ length cycle + 1
  long = length_push cycle (get_or cycle 0 0)

  at_old : (k : ℕ) → k < length cycle → get_or (round_of cycle) k 0 ≡ get_or cycle k 0
  at_old k within = get_or_append_left cycle (get_or cycle 0 0 ∷ []) 0 k within

  at_end : get_or (round_of cycle) (length cycle) 0 ≡ get_or cycle 0 0
  at_end = get_or_push cycle (get_or cycle 0 0) 0 (length cycle) refl

  edge : (k : ℕ) → k + 1 < length (round_of cycle) →
      HasEdge game (get_or (round_of cycle) k 0) (get_or (round_of cycle) (k + 1) 0)
  edge k within = elim (cases_lt (k + 1) (length cycle)) [
    | inl less ↦ rw (at_old k (omega arith), at_old (k + 1) less) (lost.edges k less).remains.edge
    | inr more ↦ search (rules, long, at_end, at_old)
  ]

  pub lost_round : IsLostRound game player cycle
  lost_round = record {
    some = lost.some;
    is_path = record {
      begins = omega (arith, long);
      vertices = search (rules, cases_lt, at_old, long, at_end);
      edges = edge;
    };
    lost = lost.lost;
  }
