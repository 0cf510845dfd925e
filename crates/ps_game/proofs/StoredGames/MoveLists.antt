-- Tables of moves that are stored in two lists, `chosen` and `moves`. The laws state the move that such a table has at
-- a vertex, and the table after one move is set.
use Rattle.std.proofs.Common.{◌≡◌, ℕ, ◌<◌, Bool, true, false, cond, List, length, get_or, set, Option, Some}
use Rattle.std.proofs.Common.{None, sym, rules}
use Rattle.std.specs.Prelude.{replicate}
use Rattle.std.proofs.lemmas.Bool.{cases_eq}
use Rattle.std.proofs.lemmas.Grind.{get_or-set_at}
use Rattle.std.proofs.lemmas.List.{get_or-set_other, get_or-replicate, length-replicate}
use Rattle.std.proofs.lemmas.List.FromFn.{get_or-map-range_with_len, length-map-range_with_len, fill_by_all}
use Rattle.ps_game.specs.Moves.{move_in, moves_of}
use Rattle.ps_game.specs.Regions.{has, move_at}

pub length-moves_of : (chosen : List Bool) (moves : List ℕ) → length (moves_of chosen moves) ≡ length moves
unfolding moves_of
length-moves_of chosen moves = length-map-range_with_len (move_in chosen moves) 0 (length moves)

move_inside : (chosen : List Bool) (moves : List ℕ) (v : ℕ) → v < length moves →
    get_or (moves_of chosen moves) v None ≡ move_in chosen moves v
unfolding moves_of
move_inside chosen moves v lt = search (rules, get_or-map-range_with_len)

-- the table's move at v is entry v of the list `moves` if v is in the set `chosen`, and otherwise None
pub move_read : (chosen : List Bool) (moves : List ℕ) {table : List (Option ℕ)} {v : ℕ} {b : Bool} →
    moves_of chosen moves ≡ table → v < length table → has chosen v ≡ b →
    move_at table v ≡ cond b (Some (get_or moves v 0)) None
move_read chosen moves {v = v} is lt there = search (rules, move_inside, length-moves_of)

-- the lists `chosen` and `moves` represent a table if each entry of the table is the move that the two lists give
moves_are : (chosen : List Bool) (moves : List ℕ) (table : List (Option ℕ)) → length table ≡ length moves
    → ((v : ℕ) → v < length moves → get_or table v None ≡ move_in chosen moves v) → moves_of chosen moves ≡ table
unfolding moves_of
moves_are chosen moves table long each = sym (fill_by_all (move_in chosen moves) table (length moves) None long each)

pub no_moves : (places : ℕ) → moves_of (replicate places false) (replicate places 0) ≡ replicate places None
no_moves places = moves_are (replicate places false) (replicate places 0) (replicate places None)
    (search (rules, length-replicate)) (λ v lt. search (rules, length-replicate, get_or-replicate))

pub one_moved : (chosen : List Bool) (moves : List ℕ) (v w : ℕ) → length chosen ≡ length moves → v < length moves
    → moves_of (set chosen v true) (set moves v w) ≡ set (moves_of chosen moves) v (Some w)
one_moved chosen moves v w long lt =
    search (rules, moves_are, length-moves_of, cases_eq, get_or-set_at, get_or-set_other, move_inside)
