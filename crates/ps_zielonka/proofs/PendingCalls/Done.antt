-- The case in which the current recursive call is solved; if no other call is pending, the whole game is solved.
use Rattle.std.proofs.Common.{◌≡◌, ◌≢◌, ℕ, ◌+◌, ◌*◌, ◌<◌, ◌≤◌, List, length, get_or, Bool, true, false, rules, sym}
use Rattle.std.proofs.lemmas.Bool.{cases_lt, false≢true}
use Rattle.ps_game.specs.Games.{ParityGame}
use Rattle.ps_attractor.specs.Tables.{TablesData, level_of}
use Rattle.ps_zielonka.specs.declared.level.TheConstants.{UNPLACED}
use Rattle.ps_zielonka.specs.declared.frame.Frame.{Frame}
use Rattle.ps_zielonka.specs.Inner.Nests.{Searches, IsSoundBoard, IsNest}
use Rattle.ps_zielonka.specs.Inner.Stacks.{IsSolvedBy}
use Rattle.ps_zielonka.proofs.DividedSubgames.Turning.{Solved-done}
use Rattle.ps_zielonka.proofs.PlacedVertices.Sets.{from_at, to_from}

-- if no vertex from index `cursor` on in the list of vertices by descending priority is `UNPLACED`, the call has no
-- undecided vertex
none_left : {game : ParityGame} {tables : TablesData} {winner order : List ℕ} {a cursor : ℕ} →
    IsSoundBoard game tables winner order → Searches game tables winner order a cursor →
    ((j : ℕ) → cursor ≤ j → j < length order → level_of tables (get_or order j 0) ≢ UNPLACED) → (v : ℕ) →
    a + 2 ≤ level_of tables v → ⊥
none_left {tables} {order} {a} {cursor} sound searches placed v high =
    let (j, within, is) = sound.is_order.all v (searches.alive.vertices v (to_from tables.level (a + 2) v high)) in
    search (rules, cases_lt)

pub done_nest : {game : ParityGame} {tables : TablesData} {winner order : List ℕ} {frames : List Frame} {cursor : ℕ}
    {solved : Bool} → solved ≡ false → IsNest game tables winner order frames cursor solved →
    ((j : ℕ) → cursor ≤ j → j < length order → level_of tables (get_or order j 0) ≢ UNPLACED) →
    IsNest game tables winner order frames cursor true
done_nest {game} {tables} {winner} {order} {frames} {cursor} {solved} unsolved nest placed =
    let a : ℕ = 2 * length frames in
    let searches = nest.searches unsolved in
    let none = none_left nest.sound searches placed in
    record {
      sound = nest.sound;
      waits = nest.waits;
      rises = nest.rises;
      searches = λ is. absurd (false≢true (sym is));
      done = λ is. record {
        solved = Solved-done searches.progress (λ v inside. none v (from_at tables.level (a + 2) v inside));
        placed = search (rules, cases_lt);
      };
    }

-- if the current recursive call is solved and no call is pending, the whole game is solved
pub solved_by : {game : ParityGame} {tables : TablesData} {winner order : List ℕ} {frames : List Frame} {cursor : ℕ}
    {solved : Bool} → solved ≡ true → length frames ≡ 0 → IsNest game tables winner order frames cursor solved →
    IsSolvedBy game tables winner
solved_by {game} {tables} {winner} {solved} is_done empty nest = search rules
