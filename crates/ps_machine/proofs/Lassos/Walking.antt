-- A machine that reads letters for ever walks through the game by the winner's moves. In each step, the automaton reads
-- the sum of the letter that the machine reads and the letter that it outputs.
use Rattle.std.proofs.Common.{◌≡◌, ℕ, zero, suc, ◌+◌, ◌-◌, ◌%◌, ◌<◌, ◌≤◌, Bool, true, false, List, length, get_or}
use Rattle.std.proofs.Common.{Option, Some, refl, ap, ap₂, sym, ◌∙◌, arith, rules, add-one, add-zero, ◌==◌}
use Rattle.std.specs.Prelude.{IsTrue, slice_index}
use Rattle.std.specs.List.{slice_get}
use Rattle.std.proofs.Math.Nat.{le-max_left, le-max_right, le_antisymm}
use Rattle.std.proofs.lemmas.Option.{slice_get_within, slice_get-get_or}
use Rattle.std.proofs.lemmas.Bool.{eqb-true, eqb-false, eq-eqb}
use Rattle.ps_automaton.specs.Autos.{Auto, state_at, priority_at, greatest_from}
use Rattle.ps_automaton.proofs.AdmittedFiles.Orbits.{all_below}
use Rattle.ps_game.specs.Games.{ParityGame, owner_of, priority_of, HasEdge}
use Rattle.ps_game.specs.Plays.{IsLoop, WinsLoop, loop_priority}
use Rattle.ps_game.proofs.PathsAndLoops.LoopPriorities.{le-loop_priority, loop_priority_stands}
use Rattle.ps_certificate.specs.Certificates.{CertificateData, winner_of, choice_of}
use Rattle.ps_certificate.proofs.FlawsAndValidity.Holding.{BothHold-from_valid}
use Rattle.ps_machine.specs.Numbering.{StandsAt}
use Rattle.ps_machine.specs.Boards.{Board}
use Rattle.ps_machine.specs.Behaviours.{Behaviour, IsInput, Makes}
use Rattle.ps_machine.specs.Extracting.{IsRepresentative, StandsFor, Shares, GoesTo, IsPlayed, IsOtherLetter}
use Rattle.ps_machine.specs.Extracting.{IsMachineOf}
use Rattle.ps_solver.specs.Solving.{winner_at_start}
use Rattle.ps_machine.specs.declared.key.Key.{Key}
use Rattle.ps_machine.specs.declared.key.Key.TheVariants.{First}
use Rattle.ps_machine.proofs.Machines.UsedVertices.{used_first}
use Rattle.ps_machine.proofs.AutomatonGames.GameKeys.Standing.{one_state}
use Rattle.ps_machine.proofs.Lassos.Rounds.{Setting, Round, within_game, same_place, first_owner, priority_here}
use Rattle.ps_machine.proofs.Lassos.Rounds.{to_class, round_first, round_second}
use Rattle.ps_machine.proofs.Lassos.ListedPaths.{list_of, length-list_of, get_or-list_of, twice, twice_rises}
use Rattle.ps_machine.proofs.Lassos.ListedPaths.{greatest_shift, list_is_path, list_follows}

-- ## Plain facts

same_number : {a b : ℕ} {o : Option ℕ} → o ≡ Some a → o ≡ Some b → a ≡ b
same_number e f = cc

-- if a memory state belongs to the vertex v, the vertex that the machine keeps for this memory state has the same
-- automaton state as v
same_state : {first : Bool} {keys : List Key} {kept : List ℕ} {memory v q : ℕ} (p : ℕ) {u r : ℕ} (o : ℕ) →
    StandsFor first keys kept memory v q → StandsAt keys v (First q p) → slice_get kept memory ≡ Some u →
    StandsAt keys u (First r o) → r ≡ q
same_state {first} {keys} {kept} {memory} {v} {q} p {u} {r} o f at is there = search (rules, same_number, one_state)

same_vertex : (first : Bool) {keys : List Key} {kept : List ℕ} {memory v q u : ℕ} →
    StandsFor first keys kept memory v q → slice_get kept memory ≡ Some u → first ≡ true → u ≡ v
same_vertex first h k m = search (rules, same_number)

-- ## The walk

-- the priority of the step that led to the state in which the automaton reads the t-th letter; 0 at the start
pub entering : Auto → (ℕ → ℕ) → ℕ → ℕ
entering a w zero = 0
entering a w (suc t) = priority_at a w t

pub record IsEndless (m : Behaviour) (w memories : ℕ → ℕ) : Type 0 where
  pub begins : memories 0 ≡ 0
  pub makes : (t : ℕ) → Makes m (memories t) (w t) (memories (suc t))

module _ {board : Board} {mover : ℕ} {keys : List Key} {game : ParityGame} {certificate : CertificateData}
    (s : Setting board mover keys game certificate) {m : Behaviour}
    (made : IsMachineOf board mover keys game certificate m) (others : (x : ℕ) → IsInput m x →
    IsOtherLetter m.is_first board x) where
  won_along : (v : ℕ) {w : ℕ} → winner_of certificate v ≡ winner_at_start certificate → HasEdge game v w →
      (owner_of game v ≡ winner_at_start certificate → choice_of certificate v ≡ Some w) →
      winner_of certificate w ≡ winner_at_start certificate
  won_along v {w} here edge chosen = search rules

  small_winner : winner_at_start certificate < 2
  small_winner = s.fits.winners 0 (within_game s 0 s.by_keys.begins)

  round_by : (first : Bool) → first ≡ (mover == winner_at_start certificate) → (v u q p x letter w : ℕ) →
      (first ≡ true → u ≡ v) → winner_of certificate v ≡ winner_at_start certificate → StandsAt keys v (First q p) →
      IsPlayed first board keys certificate u q x letter → IsOtherLetter first board x →
      GoesTo keys board q (x + letter) w →
      Round game certificate v w
  round_by true is v u q p x letter w same here at played other goes = round_first s v q p x letter w
      (eqb-true mover (winner_at_start certificate) (sym is)) here at (rw (same refl) at played) other goes
  round_by false is v u q p x letter w same here at played other goes =
      let loses = eqb-false mover (winner_at_start certificate) (sym is) in
      let edge = to_class s v played.at q p at played.stands played.is_class in
      let won = won_along v here edge (λ o. absurd (loses (sym (first_owner s v at) ∙ o))) in
      round_second s v u q p x letter w loses small_winner at played won goes

  record Next (memory v q x : ℕ) : Type 0 where
    pub vertex : ℕ
    pub stands : StandsAt keys vertex (First (board.auto.next q (x + m.plays memory x))
        (board.auto.priority q (x + m.plays memory x)))
    pub at_memory : StandsFor m.is_first keys made.kept (m.next memory x) vertex
        (board.auto.next q (x + m.plays memory x))
    pub won : winner_of certificate vertex ≡ winner_at_start certificate
    pub round : Round game certificate v vertex

  next_vertex : {memory v q : ℕ} (p : ℕ) {x : ℕ} → StandsAt keys v (First q p) →
      StandsFor m.is_first keys made.kept memory v q →
      winner_of certificate v ≡ winner_at_start certificate → IsInput m x → Next memory v q x
  next_vertex {memory} {v} {q} p {x} at f here input =
      let within : memory < m.memories =
      omega (arith, made.memories, slice_get_within made.kept memory f.vertex f.is_kept) in
      let step = made.steps memory x within (others x input) in
      let state : step.state ≡ q = same_state p step.priority f at step.is_kept step.stands in
      let letter = m.plays memory x in
      let played : IsPlayed m.is_first board keys certificate step.vertex q x letter = rw state at step.played in
      let goes : GoesTo keys board q (x + letter) step.entered = rw state at step.goes in
      let round = round_by m.is_first made.is_first v step.vertex q p x letter step.entered
      (same_vertex m.is_first f step.is_kept) here at played (others x input) goes in
      grind (arith, won_along round.between (won_along v here round.there round.first) round.on round.second)

  -- ## Memory state 0

  start_kept : IsRepresentative m.is_first keys game certificate 0
  start_kept = record {
    state = board.auto.start;
    priority = 0;
    here = search (rules, used_first, within_game);
    least = λ w r p less. absurd (omega arith);
  }

  memory_of_start : slice_get made.kept 0 ≡ Some 0
  memory_of_start = (let c = made.complete 0 start_kept in first c.0 c.1 c.2)
    where
      first : (k : ℕ) → k < length made.kept → get_or made.kept k 0 ≡ 0 → slice_get made.kept 0 ≡ Some 0
      first zero within is = slice_get-get_or made.kept 0 0 within ∙ ap (λ n. Some n) is
      first (suc k) within is = absurd (omega (arith, made.rising 0 (suc k) 0 (omega arith) within, is))

  start_shares : (first : Bool) → Shares first 0 board.auto.start 0 board.auto.start
  start_shares first = search rules

  -- ## The endless walk

  module _ {w memories : ℕ → ℕ} (e : IsEndless m w memories) where
    record At (t : ℕ) : Type 0 where
      pub vertex : ℕ
      pub stands : StandsAt keys vertex (First (state_at board.auto w t) (entering board.auto w t))
      pub at_memory : StandsFor m.is_first keys made.kept (memories t) vertex (state_at board.auto w t)
      pub won : winner_of certificate vertex ≡ winner_at_start certificate

    record Advance (t : ℕ) (now : At t) : Type 0 where
      pub next : At (suc t)
      pub round : Round game certificate now.vertex next.vertex

    advance : (t : ℕ) (now : At t) → Advance t now
    unfolding entering
    advance t now =
        let a = board.auto in
        let makes = e.makes t in
        let q = state_at a w t in
        let n = next_vertex (entering a w t) now.stands now.at_memory now.won makes.is_input in
        let letter : makes.input + m.plays (memories t) makes.input ≡ w t = sym makes.joined in
        record {
          next = search rules;
          round = n.round;
        }

    walk : (t : ℕ) → At t
    unfolding entering
    walk zero = grind (arith, memory_of_start, start_shares)
    walk (suc t) = (advance t (walk t)).next

    vertex_at : ℕ → ℕ
    vertex_at t = (walk t).vertex

    round_at : (t : ℕ) → Round game certificate (vertex_at t) (vertex_at (suc t))
    unfolding walk vertex_at
    round_at t = (advance t (walk t)).round

    -- the vertices that the walk through the game visits from its step t on
    pub place : ℕ → ℕ → ℕ
    place t zero = vertex_at t
    place t (suc zero) = (round_at t).between
    place t (suc (suc k)) = place (suc t) k

    place_goes : (t k : ℕ) → HasEdge game (place t k) (place t (suc k))
    unfolding place
    place_goes t zero = (round_at t).there
    place_goes t (suc zero) = (round_at t).on
    place_goes t (suc (suc k)) = place_goes (suc t) k

    place_follows : (t k : ℕ) → owner_of game (place t k) ≡ winner_at_start certificate →
        choice_of certificate (place t k) ≡ Some (place t (suc k))
    unfolding place
    place_follows t zero own = (round_at t).first own
    place_follows t (suc zero) own = (round_at t).second own
    place_follows t (suc (suc k)) own = place_follows (suc t) k own

    place_even : (t n : ℕ) → place t (twice n) ≡ vertex_at (t + n)
    unfolding place twice
    place_even t zero = ap vertex_at (sym (add-zero t))
    place_even t (suc n) = grind (arith, place_even (suc t) n)

    priority_of_vertex : ℕ → ℕ
    priority_of_vertex t = priority_of game (vertex_at t)

    place_below : (t n k : ℕ) → k < twice n → priority_of game (place t k) ≤ greatest_from priority_of_vertex t n
    unfolding place twice priority_of_vertex
    place_below t zero k within = absurd (omega arith)
    place_below t (suc n) zero within = le-max_left (priority_of_vertex t) (greatest_from priority_of_vertex (t + 1) n)
    place_below t (suc n) (suc zero) within = (let none = (round_at t).priority in omega arith)
    place_below t (suc n) (suc (suc k)) within = grind (
      arith,
      add-one t,
      le-max_right (priority_of_vertex t) (greatest_from priority_of_vertex (t + 1) n),
      place_below (suc t) n k (omega arith),
    )

    entered_priority : (t : ℕ) → priority_of_vertex (suc t) ≡ priority_at board.auto w t
    unfolding priority_of_vertex vertex_at entering
    entered_priority t = priority_here s (vertex_at (suc t)) (walk (suc t)).stands

    -- ## Parts that return

    module _ (from count : ℕ) (some : 0 < count) (back : memories (from + count) ≡ memories from)
        (again : w (from + count) ≡ w from) where
      pub state_returns : state_at board.auto w (from + count) ≡ state_at board.auto w from
      state_returns = grind (arith, walk from, walk (from + count), same_state, entering)

      -- if two steps of the machine begin in the same memory state and have the same letter, the walk reaches the same
      -- vertex by each of them
      vertex_returns : vertex_at (suc from + count) ≡ vertex_at (suc from)
      unfolding vertex_at entering
      vertex_returns =
          let a = board.auto in
          let place_is : suc (from + count) ≡ suc from + count = omega arith in
          let first_key : ℕ → ℕ → Key = λ q x. First (a.next q x) (a.priority q x) in
          let same : first_key (state_at a w (from + count)) (w (from + count)) ≡ first_key (state_at a w from) (w from)
          = ap₂ first_key state_returns again in
          let there : StandsAt keys (vertex_at (suc (from + count))) (first_key (state_at a w from) (w from)) =
          rw same at (walk (suc (from + count))).stands in
          ap vertex_at (sym place_is) ∙ same_place s (vertex_at (suc (from + count)))
          (vertex_at (suc from)) there (walk (suc from)).stands

      path : List ℕ
      path = list_of (place (suc from)) (suc (twice count))

      path_long : length path ≡ suc (twice count)
      unfolding path
      path_long = length-list_of (place (suc from)) (suc (twice count))

      path_at : (k : ℕ) → k < suc (twice count) → slice_index path k ≡ place (suc from) k
      unfolding path
      path_at k within = get_or-list_of (place (suc from)) (suc (twice count)) k 0 within

      path_begins : slice_index path 0 ≡ vertex_at (suc from)
      unfolding place
      path_begins = path_at 0 (omega arith)

      is_loop : IsLoop path 0 (twice count)
      unfolding twice
      is_loop = grind (arith, twice_rises 0 count some, path_long, path_begins, vertex_returns, place_even, path_at)

      won_loop : WinsLoop game (winner_at_start certificate) path 0 (twice count)
      unfolding path vertex_at
      won_loop =
          let player = winner_at_start certificate in
          let holds = BothHold-from_valid game certificate s.fits s.valid player small_winner in
          let region : IsTrue (winner_of certificate (slice_index path 0) == player) =
          eq-eqb (winner_of certificate (slice_index path 0)) player (cc (path_begins, (walk (suc from)).won)) in
          holds.wins path 0 (twice count) (list_is_path game (place (suc from)) (place_goes (suc from)) (twice count))
          region (search (rules, list_follows, place, place_goes, twice, place_follows)) is_loop

      top_is : loop_priority game path 0 (twice count) ≡ greatest_from (priority_at board.auto w) from count
      unfolding priority_of_vertex
      top_is =
          let top = loop_priority game path 0 (twice count) in
          let great = greatest_from priority_of_vertex (suc from) count in
          let (k, after, before, has) =
          loop_priority_stands game path 0 (twice count) is_loop.rises (omega (arith, path_long)) in
          let at_k : priority_of game (slice_index path k) ≡ priority_of game (place (suc from) k) =
          ap (priority_of game) (path_at k (omega arith)) in
          let below : top ≤ great = omega (arith, has, at_k, place_below (suc from) count k before) in
          let above : great ≤ top =
          all_below priority_of_vertex (suc from) count top (λ t low high. at_vertex t low high) in
          le_antisymm below above ∙ greatest_shift priority_of_vertex (priority_at board.auto w)
          entered_priority from count
        where
          at_vertex : (t : ℕ) → suc from ≤ t → t < suc from + count →
              priority_of_vertex t ≤ loop_priority game path 0 (twice count)
          at_vertex t low high =
              let n = t - suc from in
              let less : twice n < twice count = twice_rises n count (omega arith) in
              let bound =
              le-loop_priority game path 0 (twice count) (twice n) (omega arith) less (omega (arith, path_long)) in
              let back_to : suc from + n ≡ t = omega arith in
              let is : slice_index path (twice n) ≡ vertex_at t = search
              (rules, path_at, twice, place_even, vertex_at) in
              rw is at bound

      -- if a part of the endless run begins and ends with the same memory state and letter, its greatest priority has
      -- the winner's parity
      pub parity_of_part : greatest_from (priority_at board.auto w) from count % 2 ≡ winner_at_start certificate
      parity_of_part = cc (top_is, won_loop)
