-- The end of an iteration in which the player keeps all tops (the attractor's target vertices): plays go on from the
-- tops to vertices that the player won. Such an iteration solves the last pending call. At each top that the player
-- owns, the table has a move to a vertex that the player won.
use Rattle.std.proofs.Common.{◌≡◌, ◌≢◌, ℕ, ◌+◌, ◌-◌, ◌*◌, ◌<◌, ◌≤◌, ◌⊎◌, inl, inr, List, [], ◌∷◌, ◌++◌, true, length}
use Rattle.std.proofs.Common.{Some, get_or, refl, sym, ap, arith, rules}
use Rattle.std.specs.Prelude.{IsTrue}
use Rattle.std.proofs.lemmas.Bool.{cases_eq, cases_lt, false≢true}
use Rattle.ps_game.specs.Games.{ParityGame}
use Rattle.ps_attractor.specs.Tables.{TablesData, FitsGame, level_of, moves_of}
use Rattle.ps_zielonka.specs.declared.frame.Frame.{Frame}
use Rattle.ps_zielonka.specs.Inner.Turns.{Solved}
use Rattle.ps_zielonka.specs.Inner.Nests.{from, winner_of, StandsBetween, Waits, IsNest, IsMoved, IsKeptAt}
use Rattle.ps_zielonka.proofs.DividedSubgames.Turning.{in_part_or_rest, Progress-same}
use Rattle.ps_zielonka.proofs.PlacedVertices.Sets.{from_at, to_from}
use Rattle.ps_zielonka.proofs.PendingCalls.Below.{Agrees, IsTurned-on, sound_on}
use Rattle.ps_zielonka.proofs.DividedSubgames.Forms.{frame_kept}
use Rattle.ps_zielonka.proofs.PendingCalls.Frames.{frame_last, frame_before, frames_size, last_waits, last_solved}
use Rattle.ps_zielonka.proofs.PendingCalls.Frames.{segment_moved}
use Rattle.ps_zielonka.proofs.PendingCalls.Frames.{below_wait, below_rise}

-- ## The last call is solved: no top is lost

pub kept_nest : {game : ParityGame} {old new : TablesData} {winner order : List ℕ} (frames : List Frame) (frame : Frame)
    {cursor : ℕ} → IsNest game old winner order (frames ++ frame ∷ []) cursor true →
    IsMoved old new (StandsBetween old frame.turn frame.top) → FitsGame game new →
    ((v : ℕ) → StandsBetween old frame.turn frame.top v → IsKeptAt game new winner (2 * length frames + 1) frame.player
    (1 - frame.player) v) → IsNest game new winner order frames cursor true
unfolding last_waits IsTurned-on
kept_nest {game} {old} {new} {winner} {order} frames frame {cursor} nest moved fits kept =
    let a : ℕ = 2 * length frames in
    let waits = last_waits frames frame nest in
    let solved = last_solved frames frame nest in
    let turned = waits.prepared in
    let done = nest.done refl in
    let at_level = λ (v : ℕ). ap (λ xs. get_or xs v 0) moved.level in
    -- only the tops, the target vertices of the attractor, have new moves
    let still = λ (v : ℕ) (not_top : ¬ IsTrue (turned.tops v)). (
    let same : moves_of new v ≡ moves_of old v = search rules in
    same) in
    let tops_open = λ (v : ℕ) (top : IsTrue (turned.tops v)). turned.within v (turned.closed.holds v top) in
    let turned_now = IsTurned-on (from old.level (a + 2))
    (from old.level (a + 3)) (winner_of winner) (moves_of new) turned
    refl refl (λ v pulled. refl) (λ v pulled not_top. still v not_top) in
    let solved_now = Progress-same (winner_of winner) (moves_of new) (λ v inside decided. refl) (λ v inside decided.
    still v (λ top. turned.left.outside v inside (turned.closed.holds v top))) solved in
    let progress_now = Progress-same (winner_of winner) (moves_of new) (λ v inside decided. refl)
    (λ v inside decided. still v (λ top. decided (tops_open v top))) waits.progress in
    let wins = λ (w : ℕ) (inside : IsTrue (from old.level (a + 2) w)). (
    let below : get_or winner w 0 < 2 = elim (in_part_or_rest turned.left w inside) [
      | inl pulled ↦ omega (arith, turned.given w pulled)
      | inr left ↦ solved.winners w left (λ h. false≢true h)
    ] in
    below) in
    let answer : Solved game (from old.level (a + 1)) (winner_of winner) (moves_of new) =
    frame_kept nest.sound.is_game waits.alive progress_now turned_now solved_now
    (λ v top owns. (
    let step = (kept v (waits.tops v top)).own owns in (
      step.edge,
      to_from old.level (a + 2) (get_or new.moves v 0) (omega (arith, at_level (get_or new.moves v 0))),
      step.won,
    )))
    (λ v w top others edge inside. (
    let high : a + 2 ≤ level_of old w = from_at old.level (a + 2) w inside in
    let not_other : get_or winner w 0 ≢ 1 - frame.player =
    (kept v (waits.tops v top)).foreign others w edge (omega (arith, at_level w)) in
    let below : get_or winner w 0 < 2 = wins w inside in
    elim (cases_eq (get_or winner w 0) frame.player) [
      | inl same ↦ same
      | inr differ ↦ absurd (not_other (omega arith))
    ])) in
    let agrees : Agrees (a + 1) old new winner winner = search (rules, from_at) in
    record {
      sound = sound_on new nest.sound fits nest.sound.winners (λ v. inl (at_level v));
      waits = below_wait frames frame nest agrees
          (omega (arith, ap length moved.trail)) (λ j before. ap (λ xs. get_or xs j 0) moved.trail)
          (λ b t less before segment. segment_moved new moved.level moved.trail segment);
      rises = below_rise frames frame nest;
      searches = λ open_now. absurd (false≢true (sym open_now));
      done = search rules;
    }

-- ## The moves at the tops are written, and the last call is still pending

abbrev with_moves : TablesData → List ℕ → TablesData
with_moves old moves = record { level = old.level; moves = moves; trail = old.trail }

with_moves_is : {old new : TablesData} (Changes : ℕ → Type 0) → IsMoved old new Changes → with_moves old new.moves ≡ new
with_moves_is {old} {new} Changes moved = search rules

still_moves : {game : ParityGame} {old : TablesData} (moves : List ℕ) {winner order : List ℕ} {a : ℕ} {frame : Frame}
    (waits : Waits game old winner order a frame) → ((v : ℕ) →
    (get_or moves v 0 ≡ get_or old.moves v 0) ⊎ StandsBetween old frame.turn frame.top v) → (v : ℕ) →
    ¬ IsTrue (waits.prepared.tops v) → moves_of (with_moves old moves) v ≡ moves_of old v
still_moves moves waits moved v not_top = elim (moved v) [
  | inl same ↦ ap Some same
  | inr stands ↦ absurd (not_top (waits.only_tops v stands))
]

moved_waits : {game : ParityGame} {old : TablesData} (moves : List ℕ) {winner order : List ℕ} {a : ℕ} {frame : Frame} →
    ((v : ℕ) → (get_or moves v 0 ≡ get_or old.moves v 0) ⊎ StandsBetween old frame.turn frame.top v) →
    Waits game old winner order a frame → Waits game (with_moves old moves) winner order a frame
unfolding IsTurned-on
moved_waits {game} {old} moves {winner} {order} {a} {frame} moved waits =
    let turned = waits.prepared in
    let new : TablesData = with_moves old moves in
    let still = still_moves moves waits moved in
    record {
      alive = waits.alive;
      progress = Progress-same (winner_of winner) (moves_of new) (λ v inside decided. refl)
          (λ v inside decided. still v (λ top. decided (turned.within v (turned.closed.holds v top)))) waits.progress;
      prepared = IsTurned-on (from old.level (a + 2)) (from old.level (a + 3)) (winner_of winner) (moves_of new)
          turned refl refl (λ v pulled. refl) (λ v pulled not_top. still v not_top);
      room = waits.room;
      segment = segment_moved new refl refl waits.segment;
      some = waits.some;
      end = waits.end;
      tops = search rules;
      only_tops = λ v stands. waits.only_tops v (record {
        place = stands.place;
        after = stands.after;
        before = stands.before;
        is = stands.is;
      });
      front = waits.front;
    }

pub moved_nest : {game : ParityGame} {old new : TablesData} {winner order : List ℕ} (frames : List Frame)
    (frame : Frame) {cursor : ℕ} → IsNest game old winner order (frames ++ frame ∷ []) cursor true →
    IsMoved old new (StandsBetween old frame.turn frame.top) → FitsGame game new →
    IsNest game new winner order (frames ++ frame ∷ []) cursor true
moved_nest {game} {old} {new} {winner} {order} frames frame {cursor} nest moved fits =
    let a : ℕ = 2 * length frames in
    let t : TablesData = with_moves old new.moves in
    let same : t ≡ new = with_moves_is (StandsBetween old frame.turn frame.top) moved in
    let waits = last_waits frames frame nest in
    let turned = waits.prepared in
    let still = still_moves new.moves waits moved.moves in
    let solved = last_solved frames frame nest in
    let solved_now : Solved game (from old.level (a + 3)) (winner_of winner) (moves_of t) =
    Progress-same (winner_of winner) (moves_of t) (λ v inside decided. refl)
    (λ v inside decided. still v (λ top. turned.left.outside v inside (turned.closed.holds v top))) solved in
    let depth : 2 * length (frames ++ frame ∷ []) + 1 ≡ a + 3 = omega (arith, frames_size frames frame) in
    let agrees : Agrees (a + 1) old t winner winner = search (rules, from_at) in
    let done = nest.done refl in
    let below = below_wait frames frame nest agrees waits.segment.within
    (λ j before. refl) (λ b m less before segment. segment_moved t refl refl segment) in
    rw (← same) (record {
      sound = sound_on t nest.sound (rw same fits) nest.sound.winners (λ v. inl refl);
      waits = λ i there. elim (cases_lt i (length frames)) [
        | inl less ↦ rw (frame_before frames frame i less) (below i less)
        | inr more ↦
            let last : i ≡ length frames = omega (arith, frames_size frames frame) in
            rw (last, frame_last frames frame) (moved_waits new.moves moved.moves waits)
      ];
      rises = nest.rises;
      searches = λ open_now. absurd (false≢true (sym open_now));
      done = λ solved_true. record { solved = rw depth solved_now; placed = done.placed };
    })
