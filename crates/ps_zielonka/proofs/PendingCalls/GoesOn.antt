-- The last pending call continues with its undecided vertices: its frame leaves the stack, and the bound on the
-- remaining steps decreases.
use Rattle.std.proofs.Common.{◌≡◌, ℕ, ◌+◌, ◌-◌, ◌*◌, ◌<◌, ◌≤◌, inl, inr, List, [], ◌∷◌, ◌++◌, Bool, true, rules}
use Rattle.std.proofs.Common.{false, length, get_or, refl, sym, ap, ◌∙◌, arith}
use Rattle.std.proofs.lemmas.Bool.{cases_lt, false≢true}
use Rattle.std.proofs.lemmas.List.Elements.{All-get_or, All-from_get_or}
use Rattle.ps_game.specs.Games.{ParityGame, vertex_count}
use Rattle.ps_attractor.specs.declared.aim.Aim.{Aim}
use Rattle.ps_attractor.specs.Tables.{TablesData, FitsGame, level_of, moves_of}
use Rattle.ps_attractor.specs.Aims.{StandsFrom, IsPosed, IsSetOfPlaced, IsAttracted, IsGrown, rank_of}
use Rattle.ps_zielonka.specs.declared.frame.Frame.{Frame}
use Rattle.ps_zielonka.specs.Inner.Nests.{StandsBetween, IsNest, IsLostAt, IsReopened, IsGiven, steps_left}
use Rattle.ps_zielonka.proofs.PendingCalls.Measure.{falls_on}
use Rattle.ps_zielonka.proofs.PlacedVertices.Sets.{size_from-same}
use Rattle.ps_zielonka.proofs.PendingCalls.Below.{agrees_at, sound_on}
use Rattle.ps_zielonka.proofs.PendingCalls.Climbs.{on_aim, Going, was_open, stands_open, going_still, going_open}
use Rattle.ps_zielonka.proofs.PendingCalls.Climbs.{going_agrees}
use Rattle.ps_zielonka.proofs.PendingCalls.Climbs.{going_searches, going_fewer}
use Rattle.ps_zielonka.proofs.PendingCalls.Frames.{last_waits, last_solved, last_low, segment_below, below_wait}
use Rattle.ps_zielonka.proofs.PendingCalls.Frames.{below_rise}

-- ## The last call continues

pub on_nest : {game : ParityGame} {old mid new : TablesData} {winner winner_now order : List ℕ} (frames : List Frame)
    {frame : Frame} {cursor : ℕ} → IsNest game old winner order (frames ++ frame ∷ []) cursor true →
    Going game (2 * length frames) frame old mid new winner winner_now order → FitsGame game new →
    length winner_now ≡ vertex_count game → IsNest game new winner_now order frames frame.cursor false
on_nest {game} {old} {mid} {new} {winner} {winner_now} {order} frames {frame} {cursor} nest going fits winners =
    let a : ℕ = 2 * length frames in
    let agrees = going_agrees going in
    let front = λ (j : ℕ) (before : j < frame.turn). going.grown.front j (omega arith)
    ∙ going.reopened.front j before in
    record {
      sound = sound_on new nest.sound fits winners (λ v. elim (cases_lt (level_of old v) (a + 2)) [
        | inl small ↦ inl (going_still going v small).level
        | inr high ↦ inr (elim (going_open going v high) [
          | inl decided ↦ (omega (arith, decided.0), omega (arith, decided.0, nest.sound.most v))
          | inr free ↦ (omega (arith, nest.sound.high), omega arith)
        ])
      ]);
      waits = below_wait frames frame nest agrees (omega arith) front (λ b t less before segment. segment_below (a + 1)
          frame.turn new less before going.waits.segment.within (omega arith) front (λ j after within. (
          let stands : StandsFrom new frame.turn (get_or new.trail j 0) =
          record { place = j; after = after; within = within; is = refl } in
          let high = stands_open going stands in
          elim (going_open going (get_or new.trail j 0) high) [
            | inl decided ↦ (let level : level_of new (get_or new.trail j 0) ≡ a + 1 = decided.0 in omega arith)
            | inr free ↦ omega arith
          ])) (λ v. elim (cases_lt (level_of old v) (a + 2)) [
            | inl small ↦ inl (
              (going_still going v small).level,
              λ stands. (let high = was_open going stands in
                  let h : ⊥ = omega arith in h),
            )
            | inr high ↦ inr (elim (going_open going v high) [
              | inl decided ↦ (let level : level_of new v ≡ a + 1 = decided.0 in (omega arith, λ below. decided.1))
              | inr free ↦ (omega arith, λ below. absurd (omega arith))
            ])
          ]) segment);
      rises = below_rise frames frame nest;
      searches = λ open_now. going_searches going;
      done = λ solved_now. absurd (false≢true solved_now);
    }

-- the tables after the vertices that the player won were taken off the trail and the opponent has attracted vertices;
-- `level` is the level of decided vertices
pub record Reached (game : ParityGame) (level : ℕ) (aim : Aim) (frame : Frame) (old mid new : TablesData)
    (winner winner_now : List ℕ) : Type 0 where
  pub reopened : IsReopened winner frame.player level frame.turn (StandsFrom old frame.turn) old mid
  pub grown : IsGrown aim mid new
  pub given : IsGiven aim.player aim.begin new winner winner_now
  pub attracted : (subgame target set : ℕ → Bool) → IsPosed game aim mid subgame target →
      IsSetOfPlaced aim new subgame set →
      IsAttracted game subgame aim.player target set (moves_of new) (rank_of aim new)

pub going_on : {game : ParityGame} {level : ℕ} {aim : Aim} {old mid new : TablesData} {winner winner_now order : List ℕ}
    (frames : List Frame) {frame : Frame} {cursor : ℕ} → IsNest game old winner order (frames ++ frame ∷ []) cursor true
    → level ≡ 2 * length frames + 1 → aim ≡ on_aim (2 * length frames) frame → FitsGame game mid → FitsGame game new →
    Reached game level aim frame old mid new winner winner_now →
    Going game (2 * length frames) frame old mid new winner winner_now order
going_on {game} {aim} {old} {mid} {new} {winner} {winner_now} {order} frames {frame} {cursor} nest same aims fits_mid
    fits_new reached =
    let here = rw aims at (rw same at reached) in
    record {
      is_game = nest.sound.is_game;
      low = last_low frames frame nest;
      waits = last_waits frames frame nest;
      solved = last_solved frames frame nest;
      placed = (nest.done refl).placed;
      reopened = here.reopened;
      sizes = fits_new.levels ∙ sym fits_mid.levels;
      grown = here.grown;
      given = here.given;
      attracted = here.attracted;
    }

-- the tables still fit the game after vertices were taken off the trail and some were placed again
pub fits_reopened : {game : ParityGame} {winner : List ℕ} {player level turn : ℕ} {old new : TablesData} →
    turn ≤ length old.trail → FitsGame game old → IsReopened winner player level turn (StandsFrom old turn) old new →
    FitsGame game new
fits_reopened {game} {turn} {old} {new} within fits reopened =
    let below = λ (j : ℕ) (less : j < length old.trail). All-get_or (λ v. v < vertex_count game) old.trail j 0 less
    fits.vertices in
    record {
      levels = reopened.sizes ∙ fits.levels;
      choices = ap length reopened.moves ∙ fits.choices;
      vertices = All-from_get_or (λ v. v < vertex_count game) new.trail 0 (λ j less. elim (cases_lt j turn) [
        | inl before ↦ search rules
        | inr after ↦ search rules
      ]);
    }

-- the bound on the remaining steps decreases when the last pending call continues
pub on_falls : {game : ParityGame} {level v : ℕ} {old mid new : TablesData} {winner winner_now order : List ℕ}
    (frames : List Frame) {frame : Frame} {cursor : ℕ} → IsNest game old winner order (frames ++ frame ∷ []) cursor true
    → level ≡ 2 * length frames + 1 → Going game (2 * length frames) frame old mid new winner winner_now order →
    StandsBetween old frame.turn frame.top v → IsLostAt game old winner level frame.player (1 - frame.player) v →
    steps_left new.level (length frames) false < steps_left old.level (length frames + 1) true
on_falls {game} {v} {old} {new} {winner} frames {frame} nest same going stands lost =
    let k : ℕ = length frames in
    let agrees = going_agrees going in
    falls_on old.level new.level k (k + 1) refl (λ i below. size_from-same (2 * i + 2) old.level new.level agrees.sizes
    (agrees_at (2 * i + 2) agrees (omega arith))) (going_fewer going v nest.sound.fits.levels stands (rw same at lost))
