-- A change to vertices of level c or higher does not affect the pending calls whose levels are below c.
use Rattle.std.proofs.Common.{◌≡◌, ℕ, ◌+◌, ◌*◌, ◌<◌, ◌≤◌, ◌⊎◌, List, length, get_or, Bool, Option, Some}
use Rattle.std.proofs.Common.{sym, ap, ◌∙◌, arith, rules}
use Rattle.std.specs.Prelude.{IsTrue}
use Rattle.std.proofs.lemmas.Bool.{cases_lt}
use Rattle.ps_game.specs.Games.{ParityGame, vertex_count}
use Rattle.ps_game.specs.Subgames.{IsWithin, LeadsInto, IsSubgame}
use Rattle.ps_game.specs.Attractors.{LeadsDown}
use Rattle.ps_attractor.specs.Tables.{TablesData, FitsGame, level_of, moves_of}
use Rattle.ps_zielonka.specs.declared.frame.Frame.{Frame}
use Rattle.ps_zielonka.specs.Inner.Turns.{Progress, IsTurned}
use Rattle.ps_zielonka.specs.Inner.Nests.{from, size_from, winner_of, IsCursor, IsSegment, StandsBetween, Waits}
use Rattle.ps_zielonka.specs.Inner.Nests.{IsSoundBoard}
use Rattle.ps_zielonka.specs.declared.level.TheConstants.{UNPLACED}
use Rattle.ps_zielonka.proofs.DividedSubgames.HeldSets.{some_more}
use Rattle.ps_zielonka.proofs.DividedSubgames.Turning.{Progress-same}
use Rattle.ps_zielonka.proofs.PlacedVertices.Sets.{AgreesAt, from_at, to_from, from-same, size_from-same}

-- the level, the move and the winner of v are unchanged
pub record IsStill (old new : TablesData) (winner winner_now : List ℕ) (v : ℕ) : Type 0 where
  pub level : level_of new v ≡ level_of old v
  pub move : get_or new.moves v 0 ≡ get_or old.moves v 0
  pub wins : get_or winner_now v 0 ≡ get_or winner v 0

-- each vertex that changed had level c or higher before, and has level c or higher now
pub record Agrees (c : ℕ) (old new : TablesData) (winner winner_now : List ℕ) : Type 0 where
  pub sizes : length new.level ≡ length old.level
  pub each : (v : ℕ) → IsStill old new winner winner_now v ⊎ ((c ≤ level_of old v) × (c ≤ level_of new v))

pub agrees_at : {c : ℕ} (b : ℕ) {old new : TablesData} {winner winner_now : List ℕ} →
    Agrees c old new winner winner_now → b ≤ c → (v : ℕ) → AgreesAt old.level new.level b v
agrees_at b {old} {new} agrees less v = search rules

pub agrees_from : {c : ℕ} (b : ℕ) {old new : TablesData} {winner winner_now : List ℕ} →
    Agrees c old new winner winner_now → b ≤ c → from new.level b ≡ from old.level b
agrees_from {c} b {old} {new} {winner} {winner_now} agrees less = search (rules, from-same, agrees_at)

-- a vertex whose level is less than c keeps its level, its move and its winner
pub still_below : {c : ℕ} {old new : TablesData} {winner winner_now : List ℕ} → Agrees c old new winner winner_now →
    (v : ℕ) → ¬ IsTrue (from old.level c v) → IsStill old new winner winner_now v
still_below {c} {old} agrees v below = search (rules, to_from)

pub progress_below : {game : ParityGame} {c : ℕ} (a b : ℕ) {old new : TablesData} {winner winner_now : List ℕ} →
    Agrees c old new winner winner_now → a ≤ c → b ≤ c → Progress game (from old.level a) (from old.level b)
    (winner_of winner) (moves_of old) → Progress game (from new.level a) (from new.level b)
    (winner_of winner_now) (moves_of new)
progress_below {game} {c} a b {old} {new} {winner} {winner_now} agrees low high progress =
    let below = λ (v : ℕ) (decided : ¬ IsTrue (from old.level b v)). (
    let still : IsStill old new winner winner_now v = search (rules, still_below, to_from, from_at) in
    still) in
    rw (agrees_from b agrees high) (rw (agrees_from a agrees low) (Progress-same (winner_of winner_now) (moves_of new)
    (λ v inside decided. (below v decided).wins) (λ v inside decided. ap Some (below v decided).move) progress))

pub subgame_below : {game : ParityGame} {c : ℕ} (b : ℕ) {old new : TablesData} {winner winner_now : List ℕ} →
    Agrees c old new winner winner_now → b ≤ c → IsSubgame game (from old.level b) → IsSubgame game (from new.level b)
subgame_below {game} {c} b {old} {new} {winner} {winner_now} agrees less alive = rw (agrees_from b agrees less) alive

-- the tables still satisfy their invariants (`IsSoundBoard`) if each changed level is at least 1 and at most `UNPLACED`
pub sound_on : {game : ParityGame} {old : TablesData} {winner winner_now order : List ℕ} (new : TablesData) →
    IsSoundBoard game old winner order → FitsGame game new → length winner_now ≡ vertex_count game →
    ((v : ℕ) → (level_of new v ≡ level_of old v) ⊎ ((1 ≤ level_of new v) × (level_of new v ≤ UNPLACED))) →
    IsSoundBoard game new winner_now order
sound_on new sound fits winners each = search rules

-- an iteration is prepared (`IsTurned`) once its tops are chosen and vertices are attracted to them; it stays prepared
-- if its sets, and the winners and moves of the attracted vertices, are unchanged
unfoldable pub IsTurned-on : {game : ParityGame} {open_part rest : ℕ → Bool} (open_now rest_now : ℕ → Bool) {player : ℕ}
    {win : ℕ → ℕ} (win_now : ℕ → ℕ) {table : ℕ → Option ℕ} (table_now : ℕ → Option ℕ)
    (turned : IsTurned game open_part rest player win table) → open_now ≡ open_part → rest_now ≡ rest →
    ((v : ℕ) → IsTrue (turned.attracted v) → win_now v ≡ win v) →
    ((v : ℕ) → IsTrue (turned.attracted v) → ¬ IsTrue (turned.tops v) → table_now v ≡ table v) →
    IsTurned game open_now rest_now player win_now table_now
IsTurned-on {game} {open_part} {rest} open_now rest_now win_now {table} table_now turned same_open same_rest
    same_win same_move =
    let was_open : IsWithin open_now open_part = λ v inside. rw same_open at inside in
    let is_open : IsWithin open_part open_now = λ v inside. rw same_open inside in
    let was_rest : IsWithin rest_now rest = λ v inside. rw same_rest at inside in
    let is_rest : IsWithin rest rest_now = λ v inside. rw same_rest inside in
    let leads_back : (v w : ℕ) → LeadsInto game open_now v w → LeadsInto game open_part v w =
    λ v w leads. record { edge = leads.edge; inside = was_open w leads.inside } in
    let down_now : (v w : ℕ) → LeadsDown game open_part turned.attracted turned.rank v w →
    LeadsDown game open_now turned.attracted turned.rank v w =
    λ v w down. record {
      leads = record { edge = down.leads.edge; inside = is_open w down.leads.inside };
      inside = down.inside;
      falls = down.falls;
    } in
    record {
      greatest = turned.greatest;
      tops = turned.tops;
      attracted = turned.attracted;
      rank = turned.rank;
      parity = turned.parity;
      most = λ v inside. turned.most v (was_open v inside);
      top = turned.top;
      above = λ v w top inside. turned.above v w top (was_open w inside);
      all_top = λ v inside is. turned.all_top v (was_open v inside) is;
      some_top = turned.some_top;
      within = λ v inside. is_open v (turned.within v inside);
      left = record {
        within = λ v inside. is_open v (turned.left.within v (was_rest v inside));
        outside = λ v inside. turned.left.outside v (was_rest v inside);
        all = λ v inside outside. is_rest v (turned.left.all v (was_open v inside) outside);
      };
      closed = record {
        holds = turned.closed.holds;
        own =
            λ v w inside owns leads there. turned.closed.own v w (was_open v inside) owns (leads_back v w leads) there;
        other = λ v inside others all. turned.closed.other v (was_open v inside) others
            (λ w leads. all w (record { edge = leads.edge; inside = is_open w leads.inside }));
      };
      falls = record {
        own = λ v inside outside owns. (
            (rw (same_move v inside outside) (some_more (LeadsDown game open_part turned.attracted turned.rank v)
            (LeadsDown game open_now turned.attracted turned.rank v) (table v) (down_now v)
            (turned.falls.own v inside outside owns))));
        other = λ v w inside outside others leads. down_now v w (turned.falls.other v w inside outside others
            (leads_back v w leads));
      };
      given = λ v inside. same_win v inside ∙ turned.given v inside;
    }

-- if the first m entries of the trail are unchanged, a vertex that stands between two indices, none of them greater
-- than m, still stands between them
between_front : {old : TablesData} (new : TablesData) (m : ℕ) {from_place to_place v : ℕ} →
    ((j : ℕ) → j < m → get_or new.trail j 0 ≡ get_or old.trail j 0) → to_place ≤ m →
    StandsBetween old from_place to_place v → StandsBetween new from_place to_place v
between_front new m {to_place} front end stands = search rules

cursor_below : {c b : ℕ} {old new : TablesData} {winner winner_now order : List ℕ} {cursor : ℕ} →
    Agrees c old new winner winner_now → b ≤ c → IsCursor order old.level cursor b → IsCursor order new.level cursor b
cursor_below {c} {b} {old} {new} {winner} {winner_now} {order} agrees less front =
    search (rules, cases_lt, AgreesAt, agrees_at)

-- after changes to vertices of level c or higher, a pending call whose levels are below c is still pending
pub waits_below : {game : ParityGame} {c a : ℕ} (m : ℕ) {old new : TablesData} {winner winner_now order : List ℕ}
    {frame : Frame} → Agrees c old new winner winner_now → a + 3 ≤ c →
    ((j : ℕ) → j < m → get_or new.trail j 0 ≡ get_or old.trail j 0) → m ≤ length new.trail → frame.top ≤ m →
    IsSegment new frame.turn (a + 2) → Waits game old winner order a frame → Waits game new winner_now order a frame
unfolding IsTurned-on
waits_below {game} {c} {a} m {old} {new} {winner} {winner_now} {order} {frame} agrees low front longer end
    segment waits =
    let prepared = waits.prepared in
    let still = λ (v : ℕ) (pulled : IsTrue (prepared.attracted v)). (
    let there : IsStill old new winner winner_now v = search (rules, still_below, to_from, from_at) in
    there) in
    let size : size_from (a + 1) new.level ≡ size_from (a + 1) old.level = search (rules, size_from-same, agrees_at) in
    let room : a + 2 * size_from (a + 1) old.level ≤ 2 * length old.level = waits.room in
    record {
      alive = subgame_below (a + 2) agrees (omega arith) waits.alive;
      progress = progress_below (a + 1) (a + 2) agrees (omega arith) (omega arith) waits.progress;
      prepared = IsTurned-on (from new.level (a + 2)) (from new.level (a + 3)) (winner_of winner_now)
          (moves_of new) prepared (agrees_from (a + 2) agrees (omega arith)) (agrees_from (a + 3) agrees low)
          (λ v pulled. (still v pulled).wins) (λ v pulled outside. ap Some (still v pulled).move);
      room = omega arith;
      segment = segment;
      some = waits.some;
      end = omega arith;
      tops = λ v top. between_front new m front end (waits.tops v top);
      only_tops = λ v stands. waits.only_tops v (between_front old m (λ j before. sym (front j before)) end stands);
      front = cursor_below agrees (omega arith) waits.front;
    }
