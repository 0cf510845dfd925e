-- The stack of pending recursive calls: its last call, the calls below the last one, and the empty stack.
use Rattle.std.proofs.Common.{◌≡◌, ℕ, ◌+◌, ◌*◌, ◌<◌, ◌≤◌, ◌⊎◌, List, [], ◌∷◌, ◌++◌, Bool, true}
use Rattle.std.proofs.Common.{false, length, get_or, replicate, refl, subst, ap, ◌∙◌, arith, rules}
use Rattle.std.specs.Prelude.{IsTrue}
use Rattle.std.proofs.lemmas.Bool.{cases_lt, false≢true}
use Rattle.std.proofs.lemmas.List.{get_or_append_left, get_or_push, length_push, get_or-replicate, get_or_past}
use Rattle.std.proofs.lemmas.List.{length-replicate}
use Rattle.ps_game.specs.Games.{ParityGame, IsGame, vertex_count, successors_of}
use Rattle.ps_game.proofs.PathsAndLoops.SubgameFacts.{first_edge}
use Rattle.ps_attractor.specs.Tables.{TablesData, level_of, moves_of}
use Rattle.ps_attractor.specs.Aims.{StandsFrom}
use Rattle.ps_attractor.proofs.Placing.{stands_longer}
use Rattle.ps_zielonka.specs.declared.level.TheConstants.{UNPLACED}
use Rattle.ps_zielonka.specs.declared.frame.Frame.{Frame}
use Rattle.ps_zielonka.specs.Inner.Turns.{Solved}
use Rattle.ps_zielonka.specs.Inner.Nests.{from, size_from, winner_of, frame_at, IsSegment, IsOrder, Waits, IsNest}
use Rattle.ps_zielonka.proofs.PlacedVertices.Sets.{from_at, to_from}
use Rattle.ps_zielonka.proofs.PendingCalls.Below.{Agrees, waits_below}
use Rattle.ps_zielonka.proofs.DividedSubgames.Forms.{progress_start}

abbrev no_frame : Frame
no_frame = record { cursor = 0; player = 0; turn = 0; top = 0 }

pub frame_last : (frames : List Frame) (frame : Frame) → frame_at (frames ++ frame ∷ []) (length frames) ≡ frame
frame_last frames frame = get_or_push frames frame no_frame (length frames) refl

pub frame_before : (frames : List Frame) (frame : Frame) (i : ℕ) → i < length frames →
    frame_at (frames ++ frame ∷ []) i ≡ frame_at frames i
frame_before frames frame i below = get_or_append_left frames (frame ∷ []) no_frame i below

pub frames_size : (frames : List Frame) (frame : Frame) → length (frames ++ frame ∷ []) ≡ length frames + 1
frames_size frames frame = length_push frames frame

size_from-length : (c : ℕ) (levels : List ℕ) → size_from c levels ≤ length levels
size_from-length c [] = omega arith
size_from-length c (x ∷ xs) = grind (arith, size_from-length c xs)

-- ## The last call

module _ {game : ParityGame} {tables : TablesData} {winner order : List ℕ} (frames : List Frame) (frame : Frame)
    {cursor : ℕ} {solved : Bool} (nest : IsNest game tables winner order (frames ++ frame ∷ []) cursor solved) where
  unfoldable pub last_waits : Waits game tables winner order (2 * length frames) frame
  last_waits =
      let Waiting : Frame → Type 0 = Waits game tables winner order (2 * length frames) in
      subst Waiting (frame_last frames frame) (nest.waits (length frames) (omega (arith, frames_size frames frame)))

  pub last_low : 2 * length frames + 2 < UNPLACED
  last_low = let waits = last_waits in omega (arith, nest.sound.fits.levels)

  last_rises : (i : ℕ) → i < length frames → (frame_at frames i).top ≤ frame.turn
  last_rises i below =
      grind (arith, frames_size frames frame, frame_before frames frame i below, frame_last frames frame)

  -- after the last call's vertices change, the calls below the last one on the stack are still pending
  pub below_wait : {new : TablesData} {winner_now : List ℕ} →
      Agrees (2 * length frames + 1) tables new winner winner_now → frame.turn ≤ length new.trail →
      ((j : ℕ) → j < frame.turn → get_or new.trail j 0 ≡ get_or tables.trail j 0) →
      ((b t : ℕ) → b ≤ 2 * length frames + 1 → t ≤ frame.turn → IsSegment tables t b → IsSegment new t b) → (i : ℕ) →
      i < length frames → Waits game new winner_now order (2 * i) (frame_at frames i)
  below_wait agrees within front segments i below =
      let waits = rw (frame_before frames frame i below) at (nest.waits i (omega (arith, frames_size frames frame))) in
      waits_below frame.turn agrees (omega arith) front within (last_rises i below) (segments (2 * i + 2)
      (frame_at frames i).turn (omega arith) (omega (arith, waits.some, last_rises i below)) waits.segment) waits

  pub below_rise : (i j : ℕ) → i < j → j < length frames → (frame_at frames i).top ≤ (frame_at frames j).turn
  below_rise i j less below = search (rules, frames_size, frame_before)

pub last_solved : {game : ParityGame} {tables : TablesData} {winner order : List ℕ} (frames : List Frame)
    (frame : Frame) {cursor : ℕ} → IsNest game tables winner order (frames ++ frame ∷ []) cursor true →
    Solved game (from tables.level (2 * length frames + 3)) (winner_of winner) (moves_of tables)
last_solved frames frame nest = search (rules, frames_size)

-- ## Segments of the trail

-- changes to vertices of level c or higher, and to the trail from index m on, do not affect the segments of the trail
-- that belong to lower levels
pub segment_below : {b : ℕ} (c m : ℕ) {t : ℕ} {old : TablesData} (new : TablesData) → b ≤ c → t ≤ m →
    m ≤ length old.trail → m ≤ length new.trail → ((j : ℕ) → j < m → get_or new.trail j 0 ≡ get_or old.trail j 0) →
    ((j : ℕ) → m ≤ j → j < length new.trail → c ≤ level_of new (get_or new.trail j 0)) →
    ((v : ℕ) → ((level_of new v ≡ level_of old v) × (StandsFrom old m v → ⊥)) ⊎
    ((c ≤ level_of new v) × (level_of new v < UNPLACED → StandsFrom new m v))) → IsSegment old t b → IsSegment new t b
segment_below {b} c m {old} new less before inside within front behind each segment = grind (arith, cases_lt)

-- if a step changes neither the levels nor the trail, the placed vertices of level b or higher are still exactly those
-- at the indices from t on in the trail (`IsSegment`)
pub segment_moved : {b t : ℕ} {old : TablesData} (new : TablesData) → new.level ≡ old.level → new.trail ≡ old.trail →
    IsSegment old t b → IsSegment new t b
segment_moved {b} {t} {old} new level trail segment = search (rules, stands_longer)

-- ## No call is pending

pub nest_start : {game : ParityGame} (tables : TablesData) (winner : List ℕ) {order : List ℕ} → IsGame game →
    tables.level ≡ replicate (vertex_count game) UNPLACED → tables.moves ≡ replicate (vertex_count game) 0 →
    tables.trail ≡ [] → length winner ≡ vertex_count game → IsOrder game order → 2 * vertex_count game + 4 ≤ UNPLACED →
    IsNest game tables winner order [] 0 false
nest_start {game} tables winner is_game levels moves trail winners is_order high =
    let n : ℕ = vertex_count game in
    let at = λ (v : ℕ) (below : v < n). ap (λ xs. get_or xs v 0) levels ∙ get_or-replicate n v UNPLACED 0 below in
    let size : length tables.level ≡ n = ap length levels ∙ length-replicate n UNPLACED in
    let below : (v c : ℕ) → 0 < c → c ≤ level_of tables v → v < n = search (rules, cases_lt, get_or_past) in
    let inside : (v c : ℕ) → c ≤ UNPLACED → v < n → IsTrue (from tables.level c v) = grind (arith, to_from) in
    record {
      sound = search (rules, length-replicate, cases_lt, get_or_past);
      waits = λ i there. absurd (omega arith);
      rises = λ i j less there. absurd (omega arith);
      searches = λ open_now. record {
        alive = record {
          vertices = λ v there. below v 2 (omega arith) (from_at tables.level 2 v there);
          goes_on = λ v there. (
              let is_vertex = below v 2 (omega arith) (from_at tables.level 2 v there) in
              let edge = first_edge game v is_game is_vertex in (
                get_or (successors_of game v) 0 0,
                record {
                  edge = edge;
                  inside = inside (get_or (successors_of game v) 0 0) 2 (omega arith)
                      (is_game.within v (get_or (successors_of game v) 0 0) edge);
                },
              ));
        };
        progress = progress_start game (from tables.level 1) (from tables.level 2) (winner_of winner) (moves_of tables)
            (λ v there. inside v 1 (omega arith) (below v 2 (omega arith) (from_at tables.level 2 v there)))
            (λ v there. inside v 2 (omega arith) (below v 1 (omega arith) (from_at tables.level 1 v there)));
        room = (let few = size_from-length 1 tables.level in omega arith);
        unplaced = λ v there. at v (below v 2 (omega arith) there);
        front = record { within = omega arith; below = λ j there. absurd (omega arith) };
      };
      done = λ solved_now. absurd (false≢true solved_now);
    }
