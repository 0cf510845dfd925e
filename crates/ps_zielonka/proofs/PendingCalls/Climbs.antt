-- The last pending call continues after its recursive call: the vertices that the opponent won in the recursive call,
-- and those that the opponent attracts to them, are decided.
use Rattle.std.proofs.Common.{◌≡◌, ◌≢◌, ℕ, ◌+◌, ◌-◌, ◌*◌, ◌<◌, ◌≤◌, ◌⊎◌, inl, inr, List, Bool, length, get_or, rules}
use Rattle.std.proofs.Common.{Some, ap, sym, ◌∙◌, arith}
use Rattle.std.specs.Prelude.{IsTrue}
use Rattle.std.proofs.lemmas.Bool.{cases_eq, cases_lt, false≢true}
use Rattle.ps_game.specs.Games.{ParityGame, IsGame, vertex_count, owner_of}
use Rattle.ps_game.specs.Subgames.{IsWithin}
use Rattle.ps_attractor.specs.declared.aim.Aim.{Aim}
use Rattle.ps_attractor.specs.Tables.{TablesData, level_of, moves_of}
use Rattle.ps_attractor.specs.Aims.{StandsFrom, IsPosed, IsSetOfPlaced, IsAttracted, IsGrown, rank_of}
use Rattle.ps_attractor.proofs.Placing.{stands_after, stands_longer}
use Rattle.ps_zielonka.specs.declared.level.TheConstants.{UNPLACED}
use Rattle.ps_zielonka.specs.declared.frame.Frame.{Frame}
use Rattle.ps_zielonka.specs.Inner.Turns.{nothing, IsWithout, IsWon, Progress, Solved}
use Rattle.ps_zielonka.specs.Inner.Nests.{from, size_from, winner_of, StandsBetween, Waits, Searches, IsGiven, IsLostAt}
use Rattle.ps_zielonka.specs.Inner.Nests.{IsReopened}
use Rattle.ps_zielonka.proofs.DividedSubgames.Turning.{won_by, IsWon-won_by, without, IsWithout-without, IsSubgame-left}
use Rattle.ps_zielonka.proofs.PlacedVertices.Sets.{from_at, to_from, size_from-lt, size_from-same}
use Rattle.ps_zielonka.proofs.PendingCalls.Below.{IsStill, Agrees, agrees_at, agrees_from}
use Rattle.ps_zielonka.proofs.DividedSubgames.Forms.{frame_goes_on}

-- the parameters of the attractor by which, in a pending call of depth a / 2, the opponent attracts vertices to those
-- that it won in the recursive call
abbrev pub on_aim : ℕ → Frame → Aim
on_aim a frame = record { player = 1 - frame.player; begin = frame.turn; level = a + 1; free = UNPLACED }

pub record Going (game : ParityGame) (a : ℕ) (frame : Frame) (old mid new : TablesData)
    (winner winner_now order : List ℕ) : Type 0 where
  pub is_game : IsGame game
  pub low : a + 2 < UNPLACED
  pub waits : Waits game old winner order a frame
  pub solved : Solved game (from old.level (a + 3)) (winner_of winner) (moves_of old)
  pub placed : (v : ℕ) → level_of old v < UNPLACED
  pub reopened : IsReopened winner frame.player (a + 1) frame.turn (StandsFrom old frame.turn) old mid
  pub sizes : length new.level ≡ length mid.level
  pub grown : IsGrown (on_aim a frame) mid new
  pub given : IsGiven (1 - frame.player) frame.turn new winner winner_now
  pub attracted : (subgame target set : ℕ → Bool) → IsPosed game (on_aim a frame) mid subgame target →
      IsSetOfPlaced (on_aim a frame) new subgame set →
      IsAttracted game subgame (1 - frame.player) target set (moves_of new)
      (rank_of (on_aim a frame) new)

module _ {game : ParityGame} {a : ℕ} {frame : Frame} {old mid new : TablesData} {winner winner_now order : List ℕ}
    (going : Going game a frame old mid new winner winner_now order) where
  -- a vertex was in the trail at index `turn` or later if and only if it was undecided in the pending call
  pub was_open : {v : ℕ} → StandsFrom old frame.turn v → a + 2 ≤ level_of old v
  was_open stands = search rules

  stood : (v : ℕ) → a + 2 ≤ level_of old v → StandsFrom old frame.turn v
  stood v high = going.waits.segment.stands v high (going.placed v)

  -- the level of a vertex that the pending call had decided does not change when vertices are taken off the trail
  mid_still : (v : ℕ) → level_of old v < a + 2 → level_of mid v ≡ level_of old v
  mid_still v low = search (rules, was_open)

  -- a vertex that is in the new trail at index `turn` or later was undecided before the step
  pub stands_open : {v : ℕ} → StandsFrom new frame.turn v → a + 2 ≤ level_of old v
  stands_open {v} stands = elim (cases_lt stands.place (length mid.trail)) [
    | inl less ↦
        let high = was_open (going.reopened.behind stands.place stands.after less).0 in
        omega (arith, ap (λ x. level_of old x) (sym (going.grown.front stands.place less) ∙ stands.is))
    | inr more ↦
        let placed = going.grown.behind stands.place more stands.within in
        let was_free : level_of mid v ≡ UNPLACED = ap (λ x. level_of mid x) (sym stands.is) ∙ placed.was_free in
        elim (cases_lt (level_of old v) (a + 2)) [
          | inl low ↦ absurd (omega (arith, mid_still v low, going.placed v))
          | inr high ↦ high
        ]
  ]

  -- a vertex that the pending call had decided keeps its level, move and winner
  pub going_still : (v : ℕ) → level_of old v < a + 2 → IsStill old new winner winner_now v
  going_still v low = search (rules, mid_still, stands_open)

  -- an undecided vertex that the opponent won in the recursive call is decided
  pub going_lost : (v : ℕ) → a + 2 ≤ level_of old v → get_or winner v 0 ≢ frame.player →
      (level_of mid v ≡ a + 1) × StandsFrom mid frame.turn v
  going_lost v high lost = going.reopened.lost v (stood v high) lost

  lost_new : (v : ℕ) → level_of mid v ≡ a + 1 → (level_of new v ≡ a + 1) × (get_or new.moves v 0 ≡ get_or mid.moves v 0)
  lost_new v there = elim (going.grown.each v) [
    | inl same ↦ (same.level ∙ there, same.move)
    | inr placed ↦ absurd (omega (arith, placed.was_free, going.low))
  ]

  stands_on : {v : ℕ} → StandsFrom mid frame.turn v → StandsFrom new frame.turn v
  stands_on stands = stands_longer going.grown.longer going.grown.front stands

  -- each vertex that was undecided in the pending call is now decided, or has the level `UNPLACED`
  pub going_open : (v : ℕ) → a + 2 ≤ level_of old v → ((level_of new v ≡ a + 1) × StandsFrom new frame.turn v) ⊎
      (level_of new v ≡ UNPLACED)
  going_open v high = search (rules, cases_eq, going_lost, lost_new, stands_on, stood, stands_after)

  pub going_agrees : Agrees (a + 1) old new winner winner_now
  going_agrees = search (rules, cases_lt, going_still, going_open)

  -- ## The sets of the turn

  -- The following sets of vertices describe the step in which the pending call continues. The vertices in `open_then`
  -- are undecided before the step, and those in `open_now` after it. Of the vertices in `open_then`, the player has won
  -- those in `the_kept`, the opponent has won those in `the_lost`, and those in `the_gone` are decided now.
  abbrev open_then : ℕ → Bool
  open_then = from old.level (a + 2)

  abbrev open_now : ℕ → Bool
  open_now = from new.level (a + 2)

  abbrev the_kept : ℕ → Bool
  the_kept = won_by open_then (winner_of winner) frame.player

  abbrev the_lost : ℕ → Bool
  the_lost = without open_then the_kept

  abbrev the_gone : ℕ → Bool
  the_gone = without open_then open_now

  keeps : IsWon open_then nothing (winner_of winner) frame.player the_kept
  keeps = IsWon-won_by open_then (winner_of winner) frame.player

  loses : IsWithout open_then the_kept the_lost
  loses = IsWithout-without open_then the_kept

  goes : IsWithout open_then open_now the_gone
  goes = IsWithout-without open_then open_now

  is_lost : (v : ℕ) → a + 2 ≤ level_of old v → get_or winner v 0 ≢ frame.player → IsTrue (the_lost v)
  is_lost v high lost = loses.all v (to_from old.level (a + 2) v high) (λ won. lost (keeps.won v won))

  lost_is : (v : ℕ) → IsTrue (the_lost v) → (a + 2 ≤ level_of old v) × (get_or winner v 0 ≢ frame.player)
  lost_is v there =
      let inside = loses.within v there in (
        from_at old.level (a + 2) v inside,
        λ won. loses.outside v there (keeps.all v inside (λ h. false≢true h) won),
      )

  gone_parts : IsWithout open_then the_gone open_now
  gone_parts = search (rules, from_at, cases_lt, going_still, to_from)

  -- a vertex of the set `the_gone` was undecided before the step and is decided now
  gone_is : (v : ℕ) → IsTrue (the_gone v) →
      (a + 2 ≤ level_of old v) × ((level_of new v ≡ a + 1) × StandsFrom new frame.turn v)
  gone_is v gone = search (rules, from_at, going_open, to_from)

  going_posed : IsPosed game (on_aim a frame) mid open_then the_lost
  going_posed = record {
    is_subgame = going.waits.alive;
    split = λ v inside. (
        let high : a + 2 ≤ level_of old v = from_at old.level (a + 2) v inside in
        elim (cases_eq (get_or winner v 0) frame.player) [
          | inl won ↦ inl (going.reopened.freed v (stood v high) won)
          | inr lost ↦ inr (is_lost v high lost)
        ]);
    frees = search (rules, cases_lt, mid_still, to_from);
    target_within = λ v there. to_from old.level (a + 2) v (lost_is v there).0;
    target_placed = search (rules, lost_is, going_lost);
    target_stands = λ v there. (let is = lost_is v there in
        (going_lost v is.0 is.1).1);
    only_target = λ j after within. (
        let behind = going.reopened.behind j after within in
        is_lost (get_or mid.trail j 0) (was_open behind.0) behind.1);
  }

  going_taken : IsSetOfPlaced (on_aim a frame) new open_then the_gone
  going_taken = search (rules, gone_is, going_open, from_at)

  -- ## The call continues with the open vertices

  pub going_searches : Searches game new winner_now order a frame.cursor
  going_searches =
      let waits = going.waits in
      let agrees = going_agrees in
      let parted = gone_parts in
      let attracted = going.attracted open_then the_lost the_gone going_posed going_taken in
      let within : IsWithin the_gone open_then = goes.within in
      let still = λ (v : ℕ) (decided : ¬ IsTrue (open_then v)). (
      let is : IsStill old new winner winner_now v = elim (cases_lt (level_of old v) (a + 2)) [
        | inl low ↦ going_still v low
        | inr high ↦ absurd (decided (to_from old.level (a + 2) v high))
      ] in
      is) in
      let progress : Progress game (from old.level (a + 1)) open_now (winner_of winner_now) (moves_of new) =
      frame_goes_on (winner_of winner_now)
      going.is_game waits.alive waits.progress waits.prepared going.solved
      (λ v there. (let is = lost_is v there in (to_from old.level (a + 2) v is.0, is.1)))
      (λ v inside not_won. is_lost v (from_at old.level (a + 2) v inside) not_won)
      attracted within parted (λ v there. going.given.given v (gone_is v there).1.1)
      (λ v inside decided. (still v decided).wins) (λ v there. (let is = lost_is v there in
      ap Some ((lost_new v (going_lost v is.0 is.1).0).1 ∙ ap (λ xs. get_or xs v 0) going.reopened.moves)))
      (λ v inside decided. ap Some (still v decided).move) in
      let size : size_from (a + 1) new.level ≡ size_from (a + 1) old.level =
      search (rules, size_from-same, agrees_at) in
      let room : a + 2 * size_from (a + 1) old.level ≤ 2 * length old.level = waits.room in
      record {
        alive = IsSubgame-left waits.alive attracted parted;
        progress = rw (agrees_from (a + 1) agrees (omega arith)) progress;
        room = omega (arith, agrees.sizes);
        unplaced = search (rules, cases_lt, going_still, going_open);
        front = search (rules, going_still);
      }

  -- ## Fewer vertices are open

  -- if there is a top that the player can't keep (`IsLostAt`), the opponent won an undecided vertex in the recursive
  -- call
  pub some_lost : (v : ℕ) → StandsBetween old frame.turn frame.top v →
      IsLostAt game old winner (a + 1) frame.player (1 - frame.player) v →
      (u : ℕ) × (u < vertex_count game) × (a + 2 ≤ level_of old u) × (get_or winner u 0 ≢ frame.player)
  some_lost v stands lost =
      let waits = going.waits in
      let is_open = waits.prepared.within v (waits.prepared.closed.holds v (waits.only_tops v stands)) in
      elim (cases_eq (owner_of game v) frame.player) [
        | inl owns ↦ (
            let next = waits.alive.goes_on v is_open in
            let high : a + 2 ≤ level_of old next.0 = from_at old.level (a + 2) next.0 next.1.inside in
            (next.0, waits.alive.vertices next.0 next.1.inside, high, lost.own owns next.0 next.1.edge (omega arith)))
        | inr others ↦ (
            let step = lost.foreign others in
            (step.0, going.is_game.within v step.0 step.1.edge, omega arith, λ same. omega arith))
      ]

  pub going_fewer : (v : ℕ) → length old.level ≡ vertex_count game → StandsBetween old frame.turn frame.top v →
      IsLostAt game old winner (a + 1) frame.player (1 - frame.player) v →
      size_from (a + 2) new.level < size_from (a + 2) old.level
  going_fewer v size stands lost =
      let found = some_lost v stands lost in
      search (rules, going_agrees, going_lost, lost_new, size_from-lt, cases_lt, going_still)
