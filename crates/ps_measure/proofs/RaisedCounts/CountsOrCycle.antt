-- Rows of least counts exist for all priorities by which the player loses (those of the opponent's parity), or there is
-- a cycle that the player loses.
use Rattle.std.proofs.Common.{◌≡◌, ℕ, zero, suc, ◌%◌, ◌<◌, ◌≤◌, ◌⊎◌, List, [], ◌∷◌, length, map, get_or, inl, inr}
use Rattle.std.proofs.Common.{arith, Option, Some, Bool, rules}
use Rattle.std.specs.Prelude.{slice_get}
use Rattle.std.specs.List.{All, range_with_len}
use Rattle.std.proofs.lemmas.Bool.{cases_lt}
use Rattle.std.proofs.lemmas.List.FromFn.{get_or-map-range_with_len, length-map-range_with_len}
use Rattle.std.proofs.lemmas.Option.{slice_get-get_or, slice_get_past}
use Rattle.ps_game.specs.Games.{ParityGame, vertex_count}
use Rattle.ps_game.specs.Plays.{Holds, other_player}
use Rattle.ps_game.specs.Ranking.{ListsPriorities}
use Rattle.ps_game.proofs.PriorityLists.{priorities_there}
use Rattle.ps_measure.specs.Ranks.{AreLeastFor, AreRanks, IsLostCycle, count_of}
use Rattle.ps_measure.proofs.RaisedCounts.Held.{not_held}
use Rattle.ps_measure.proofs.RaisedCounts.Raising.{Column, column_or_cycle}
use Rattle.ps_measure.proofs.CountRows.Rows.{least_same}

module _ (game : ParityGame) (player : ℕ) (set : ℕ → Bool) (table : ℕ → Option ℕ) where
  abbrev SomeCycle : Type 0
  SomeCycle = (cycle : List ℕ) × IsLostCycle game player set table cycle

  abbrev then_more : (ℕ → ℕ) → (ℕ → ℕ → ℕ) → ℕ → ℕ → ℕ
  then_more first rest zero = first
  then_more first rest (suc k) = rest k

  -- counts that are the least ones for each of the given priorities
  record Columns (priorities : List ℕ) : Type 0 where
    count : ℕ → ℕ → ℕ
    are_least : (k : ℕ) → k < length priorities → AreLeastFor game player set table (get_or priorities k 0) (count k)
    none_past : (k v : ℕ) → k < length priorities → vertex_count game ≤ v → count k v ≡ 0

  columns_or_cycle : (priorities : List ℕ) → All (λ p. p % 2 ≡ other_player player) priorities →
      Columns priorities ⊎ SomeCycle
  columns_or_cycle [] parity = inl (record {
    count = λ k v. 0;
    are_least = λ k within. absurd (omega (arith, within));
    none_past = λ k v within. absurd (omega (arith, within));
  })
  columns_or_cycle (p ∷ ps) parity = elim (column_or_cycle game player set table p (parity 0 0 (omega arith))) [
    | inr cycle ↦ inr cycle
    | inl first ↦ elim (columns_or_cycle ps (λ k d within. parity (suc k) d (omega (arith, within)))) [
      | inr cycle ↦ inr cycle
      | inl rest ↦ inl (record {
        count = then_more first.count rest.count;
        are_least = each first rest;
        none_past = past_each first rest;
      })
    ]
  ]
    where
      each : (first : Column game player set table p) (rest : Columns ps) (k : ℕ) → k < length (p ∷ ps) →
          AreLeastFor game player set table (get_or (p ∷ ps) k 0) (then_more first.count rest.count k)
      each first rest zero within = first.are_least
      each first rest (suc k) within = rest.are_least k (omega (arith, within))

      past_each : (first : Column game player set table p) (rest : Columns ps) (k v : ℕ) → k < length (p ∷ ps) →
          vertex_count game ≤ v → then_more first.count rest.count k v ≡ 0
      past_each first rest zero v within far = first.none_past v far
      past_each first rest (suc k) v within far = rest.none_past k v (omega (arith, within)) far

  module _ (priorities : List ℕ) (listed : ListsPriorities game (other_player player) priorities)
      (c : Columns priorities) where
    row : ℕ → List ℕ
    row v = map (λ k. c.count k v) (range_with_len 0 (length priorities))

    rows : List (List ℕ)
    rows = map row (range_with_len 0 (vertex_count game))

    row_there : (v : ℕ) → v < vertex_count game → slice_get rows v ≡ Some (row v)
    unfolding rows
    row_there v below = grind (
      arith,
      slice_get-get_or rows v [] (omega (
        arith,
        below,
        length-map-range_with_len row 0 (vertex_count game),
      )),
      get_or-map-range_with_len row 0 (vertex_count game) v v [] below (omega arith),
    )

    count_there : (k v : ℕ) → k < length priorities → count_of rows v k ≡ c.count k v
    unfolding row rows
    count_there k v within =
        grind (arith, cases_lt, row_there, get_or-map-range_with_len, slice_get_past, rows, length-map-range_with_len)

    are_ranks : AreRanks game player set table priorities rows
    unfolding rows row
    are_ranks = record {
      listed = listed;
      shape = search (rules, length-map-range_with_len, row, row_there);
      columns = λ k within. least_same (λ v. count_there k v within) (c.are_least k within);
    }

  pub ranks_or_cycle : ((priorities : List ℕ) × (rows : List (List ℕ)) × AreRanks game player set table priorities rows)
      ⊎ ((cycle : List ℕ) × IsLostCycle game player set table cycle)
  ranks_or_cycle =
      let l = priorities_there game (other_player player) in
      elim (columns_or_cycle l.0 l.1.right_parity) [
        | inl c ↦ inl (l.0, rows l.0 l.1 c, are_ranks l.0 l.1 c)
        | inr cycle ↦ inr cycle
      ]

  pub held_ranks : player < 2 → Holds game player set table →
      (priorities : List ℕ) × (rows : List (List ℕ)) × AreRanks game player set table priorities rows
  held_ranks is_player holds = search (rules, ranks_or_cycle, not_held)
