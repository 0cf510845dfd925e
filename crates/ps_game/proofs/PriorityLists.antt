-- The priorities of one parity that a game has can be listed in ascending order, by testing each number below a bound.
use Rattle.std.proofs.Common.{◌≡◌, ℕ, ◌+◌, ◌%◌, ◌<◌, ◌∙◌, List, length, get_or, map, sym, ap, eqb, arith, Bool, true}
use Rattle.std.proofs.Common.{filter, ◌&&◌}
use Rattle.std.specs.Prelude.{◌==◌}
use Rattle.std.specs.List.{range_with_len, list_any}
use Rattle.std.proofs.lemmas.Bool.{eqb-true, eq-eqb, and_parts, and_from}
use Rattle.std.proofs.lemmas.List.Elements.{filter_passes}
use Rattle.std.proofs.lemmas.List.FromFn.{get_or-range_with_len, length-range_with_len, get_or-map-range_with_len}
use Rattle.std.proofs.lemmas.List.FromFn.{length-map-range_with_len}
use Rattle.std.proofs.lemmas.List.Kept.{IsStrictlyIncreasing-filter}
use Rattle.std.proofs.lemmas.Map.Views.{any-filter_same}
use Rattle.ps_ids.proofs.Members.{any-from_Contains, Contains-any}
use Rattle.ps_game.specs.Games.{ParityGame, vertex_count, priority_of}
use Rattle.ps_game.specs.Plays.{greatest}
use Rattle.ps_game.specs.Ranking.{ListsPriorities}
use Rattle.ps_game.proofs.PathsAndLoops.LoopPriorities.{le-greatest}

-- for each game and parity, an ascending list of the game's priorities of this parity exists
pub priorities_there : (game : ParityGame) (parity : ℕ) → (list : List ℕ) × ListsPriorities game parity list
priorities_there game parity = (
  filter test all,
  record {
    rising = grind (arith, IsStrictlyIncreasing-filter, test, size, get_or-range_with_len, many);
    complete = λ v below right.
        let p = priority_of game v in
        let low : p < many = omega (arith, at v 0 below, le-greatest priorities v (omega (arith, count))) in
        let passes : test p ≡ true = and_from _ _
        (any-from_Contains p priorities (v, omega (arith, count), at v p below)) (eq-eqb (p % 2) parity right) in
        Contains-any p (filter test all)
        (any-filter_same (eqb p) test true (λ k e. ap test (sym (eqb-true p k e)) ∙ passes) all
        ∙ any-from_Contains p all (p, omega (arith, size), omega (arith, get_or-range_with_len 0 many p p low)));
    right_parity = λ k d within. eqb-true _ parity (passed k d within).1;
    present = λ k d within.
        let (v, below, is) = Contains-any _ priorities (passed k d within).0 in
        let less : v < vertex_count game = omega (arith, count) in
        (v, less, sym (at v _ less) ∙ is);
  },
)
  where
    priorities : List ℕ
    priorities = map (priority_of game) (range_with_len 0 (vertex_count game))

    count : length priorities ≡ vertex_count game
    count = length-map-range_with_len (priority_of game) 0 (vertex_count game)

    at : (v d : ℕ) → v < vertex_count game → get_or priorities v d ≡ priority_of game v
    at v d below = get_or-map-range_with_len (priority_of game) 0 (vertex_count game) v v d below (omega arith)

    many : ℕ
    many = greatest priorities + 1

    all : List ℕ
    all = range_with_len 0 many

    size : length all ≡ many
    size = length-range_with_len 0 many

    test : ℕ → Bool
    test q = list_any (eqb q) priorities && (q % 2 == parity)

    passed : (k d : ℕ) → k < length (filter test all) →
        (list_any (eqb (get_or (filter test all) k d)) priorities ≡ true) ×
        ((get_or (filter test all) k d % 2 == parity) ≡ true)
    passed k d within = and_parts _ _ (filter_passes test all k d within)
