-- The vertices of the first player that a play by a lifted certificate reaches are those to which the arena's rounds
-- lead.
-- - `used_by`: what holds at the start, and is passed on along the edges of the play, holds at each vertex of the play
-- - `first_used`, `second_used`: the two cases of the law `used_of_lift`
use Rattle.std.specs.Prelude.{◌≡◌, ◌≢◌, ◌↔◌, ℕ, zero, suc, ◌+◌, ◌-◌, ◌<◌, List, length, Option, None, Some}
use Rattle.std.specs.Prelude.{slice_index}
use Rattle.std.specs.List.{Contains}
use Rattle.std.specs.Option.{option_map}
use Rattle.std.proofs.Common.{sym, ◌∙◌, subst, ap, ap₂, refl, arith}
use Rattle.ps_game.specs.Games.{ParityGame, vertex_count, owner_of, HasEdge}
use Rattle.ps_certificate.specs.Certificates.{CertificateData, Fits, IsValid, winner_of, choice_of}
use Rattle.ps_certificate.proofs.FlawsAndValidity.SuccessorEdges.{IsSomeAnd-at}
use Rattle.ps_machine.specs.Boards.{Board, IsClassLetter, IsGameOf, LeadsTo}
use Rattle.ps_machine.specs.Extracting.{IsUsed}
use Rattle.ps_machine.specs.Inner.Drawing.{GoesOn}
use Rattle.ps_machine.specs.Numbering.{StandsAt}
use Rattle.ps_solver.specs.Solving.{winner_at_start}
use Rattle.ps_machine.specs.declared.key.Key.{Key}
use Rattle.ps_machine.specs.declared.key.Key.TheVariants.{First, Second}
use Rattle.ps_machine.proofs.AutomatonGames.DecidedMoves.{class_there}
use Rattle.ps_machine.proofs.Machines.Diagrams.DrawingLemmas.{used_more, used_won}
use Rattle.ps_machine.proofs.AutomatonGames.GameKeys.Standing.{same_some}
use Rattle.ps_machine.proofs.Machines.UsedVertices.{used_first}
use Rattle.ps_pruning.specs.Lifting.{Pruning, IsPruning, IsKeptAs, IsFirstIn, HasEntryOf}
use Rattle.ps_pruning.proofs.KeptVertices.{kept_below, kept_is, kept_there}
use Rattle.ps_basis.specs.ArenaMoves.{MovesBehind, IsFirstRound, IsSecondRound, ComesTo, at_start, after}
use Rattle.ps_basis.specs.Arenas.{IsArenaOf, IsLiftOfArena, HaveSameKey, pruning_to}
use Rattle.ps_basis.specs.Bases.{CanGoTo}
use Rattle.ps_basis.proofs.ArenaEdges.{Behind, in_game, game_key_once, first_leads, behind_first}
use Rattle.ps_basis.proofs.ArenaKeys.{Vertex, key_at, edge_key, next_vertex, stands_in, stands_there}
use Rattle.ps_basis.proofs.ArenaSteps.{ReachedAt, at_won, first_is_one, guided, guided_first, kept_as, kept_target}
use Rattle.ps_basis.proofs.ArenaSteps.{key_reached, move_is, reached_key}

used_by : (game : ParityGame) (certificate : CertificateData) (P : ℕ → Type 0) → P 0 →
    ((v w : ℕ) → P v → GoesOn game certificate v w → P w) → (v : ℕ) → IsUsed game certificate v → P v
used_by game certificate P start next v used = subst P used.ends (along (length used.path - 1) last)
  where
    last : length used.path - 1 < length used.path
    last = omega (arith, used.is_path.begins)

    along : (k : ℕ) → k < length used.path → P (slice_index used.path k)
    along zero within = subst P (sym used.begins) start
    along (suc k) within =
        let more : k + 1 < length used.path = omega (arith, within) in
        let is_next : k + 1 ≡ suc k = omega arith in
        subst (λ (j : ℕ). P (slice_index used.path j)) is_next
        (next (slice_index used.path k) (slice_index used.path (k + 1)) (along k (omega (arith, within))) (record {
          edge = used.is_path.edges k more;
          chosen = used.follows k more;
        }))

module _ (board : Board) (bases : ℕ → List ℕ) (mover : ℕ) (keys others : List Key) (order : ℕ → List ℕ)
    (game arena : ParityGame) (c lifted : CertificateData) (small : mover < 2) (is : IsGameOf board mover keys game)
    (of : IsArenaOf board bases mover keys others arena) (fits : Fits arena c) (valid : IsValid arena c)
    (lift : IsLiftOfArena mover keys others order game arena c lifted) where
  abbrev start : Key
  start = First board.auto.start 0

  abbrev p : Pruning
  p = pruning_to mover game lift.kept arena

  pruning_is : IsPruning p
  pruning_is = lift.pruning.is_pruning

  within : (v w : ℕ) → HasEdge game v w → w < vertex_count game
  within v w edge = pruning_is.is_game.within v w edge

  abbrev GameVertex : ℕ → Key → Type 0
  GameVertex v key = Vertex (LeadsTo board) mover keys game v key

  vertex_of : (v : ℕ) (key : Key) → StandsAt keys v key → GameVertex v key
  vertex_of v key at = in_game board bases mover keys others game arena is of v key at

  key_to : (v w : ℕ) (key to : Key) (here : GameVertex v key) → StandsAt keys w to → HasEdge game v w →
      Contains here.next to
  key_to v w key to here at edge = edge_key (LeadsTo board) mover start keys game is.by_keys v w key to here at edge

  key_of : (v : ℕ) → v < vertex_count game → (key : Key) × StandsAt keys v key
  key_of v below = key_at (LeadsTo board) mover start keys game is.by_keys v below

  not_mover : 1 - mover ≢ mover
  not_mover same = omega (arith, small, same)

  start_used : IsUsed game lifted 0
  start_used = used_first game lifted ((vertex_of 0 start is.by_keys.begins).below)

  -- a move of the lift is the vertex that is kept for the move of the arena's certificate
  choice_there : (u v : ℕ) → u < vertex_count arena →
      option_map (λ x. slice_index lift.kept x) (choice_of c u) ≡ Some v →
      (z : ℕ) × (choice_of c u ≡ Some z) × IsKeptAs p z v
  choice_there u v below mapped = at_choice (choice_of c u) refl
    where
      at_choice : (o : Option ℕ) → choice_of c u ≡ o → (z : ℕ) × (choice_of c u ≡ Some z) × IsKeptAs p z v
      at_choice None none = let gone : None ≡ Some v = rw none at mapped in absurd (cc gone)
      at_choice (Some z) some =
          let is_v : Some (slice_index lift.kept z) ≡ Some v = rw some at mapped in
          let same : slice_index lift.kept z ≡ v = grind (arith, is_v) in
          let inside : z < vertex_count arena = rw some at (fits.choices u below) in
          (z, some, subst (λ (w : ℕ). IsKeptAs p z w) same (kept_there p pruning_is z inside))

  -- ## The first player wins

  module _ (won : winner_at_start c ≡ mover) where
    abbrev FirstRounds : ℕ → ℕ → Type 0
    FirstRounds q o = ComesTo (IsFirstRound board others c) board.auto.start q o

    lifted_start : winner_at_start lifted ≡ mover
    lifted_start = lift.start ∙ won

    -- a play reached the vertex v, whose key is given
    record FromFirst (v q : ℕ) : Type 0 where
      priority : ℕ
      comes : FirstRounds q priority
      from : ℕ
      at : StandsAt keys from (First q priority)
      choice : choice_of lifted from ≡ Some v

    abbrev FirstCame : ℕ → Key → Type 0
    FirstCame v (First q o) = FirstRounds q o
    FirstCame v (Second q x) = FromFirst v q

    first_to : (v w q o : ℕ) (to : Key) → StandsAt keys v (First q o) → FirstRounds q o → choice_of lifted v ≡ Some w →
        Behind board bases mover keys others game arena is of to q o → FirstCame w to
    first_to v w q o to at_v came chosen behind =
        let came_to : FirstCame w (Second q behind.letter) = record {
          priority = o;
          comes = came;
          from = v;
          at = at_v;
          choice = chosen;
        } in
        subst (λ (k : Key). FirstCame w k) (sym behind.is_key) came_to

    first_from : (v w q o : ℕ) (to : Key) → StandsAt keys v (First q o) → StandsAt keys w to →
        FirstRounds q o → GoesOn game lifted v w → FirstCame w to
    first_from v w q o to at_v at_w came goes =
        let here : GameVertex v (First q o) = vertex_of v (First q o) at_v in
        first_to v w q o to at_v came (goes.chosen (here.owner ∙ sym lifted_start))
        (behind_first board bases mover keys others game arena is of v q o here to
        (key_to v w (First q o) to here at_w goes.edge))

    first_round : (v q x r s : ℕ) → StandsAt keys v (Second q x) → FromFirst v q → CanGoTo board q x r s →
        FirstRounds r s
    first_round v q x r s at_v came reached =
        let (u, there) = stands_there others (First q came.priority)
        (of.firsts q came.priority (stands_in keys came.from (First q came.priority) came.at)) in
        let entry : HasEntryOf p c lifted came.from u = lift.firsts u came.from q came.priority there came.at in
        let below : u < vertex_count arena = kept_below p pruning_is u came.from (kept_as board bases mover keys others
        order game arena c lifted small is of fits valid lift u came.from (First q came.priority) there came.at) in
        let (z, choice, kept) = choice_there u v below (sym entry.choice ∙ came.choice) in
        let same : HaveSameKey keys others z v = lift.pruning.same_keys.same z v kept in
        let key_same : same.key ≡ Second q x = same_some (sym same.in_game ∙ at_v) in
        after came.comes (record {
          vertex = u;
          stands = there;
          chosen = z;
          choice = choice;
          letter = x;
          target = subst (λ (k : Key). StandsAt others z k) key_same same.in_arena;
          reached = reached;
        })

    first_over : (v w q x : ℕ) (to : Key) → StandsAt keys v (Second q x) → FromFirst v q → ReachedAt board q x to →
        FirstCame w to
    first_over v w q x to at_v came reached = subst (λ (k : Key). FirstCame w k) (sym reached.is_key)
        (first_round v q x reached.state reached.priority at_v came reached.reached)

    first_next : (v w : ℕ) (from to : Key) → StandsAt keys v from → StandsAt keys w to → FirstCame v from →
        GoesOn game lifted v w → FirstCame w to
    first_next v w (First q o) to at_v at_w came goes = first_from v w q o to at_v at_w came goes
    first_next v w (Second q x) to at_v at_w came goes =
        let here : GameVertex v (Second q x) = vertex_of v (Second q x) at_v in
        first_over v w q x to at_v came (key_reached board q x here.next to here.leads_to
        (key_to v w (Second q x) to here at_w goes.edge))

    first_came : (v : ℕ) → IsUsed game lifted v → (key : Key) → StandsAt keys v key → FirstCame v key
    first_came v used = used_by game lifted (λ v. (key : Key) → StandsAt keys v key → FirstCame v key)
        (λ key at. subst (λ (k : Key). FirstCame 0 k) (same_some (sym is.by_keys.begins ∙ at)) at_start)
        (λ v w came goes to at_w. let (from, at_v) = key_of v goes.edge.0 in
        first_next v w from to at_v at_w (came from at_v) goes)
        v used

    first_back : (q o : ℕ) → FirstRounds q o → (v : ℕ) × StandsAt keys v (First q o) × IsUsed game lifted v
    first_back q o at_start = (0, is.by_keys.begins, start_used)
    first_back r s (after {q} {p = o} before round) = with_before (first_back q o before)
      where
        with_before : (v : ℕ) × StandsAt keys v (First q o) × IsUsed game lifted v →
            (t : ℕ) × StandsAt keys t (First r s) × IsUsed game lifted t
        with_before (v, at_v, used) =
            let here : GameVertex v (First q o) = vertex_of v (First q o) at_v in
            let (w, at_w) = stands_there keys (Second q round.letter) (of.within (Second q round.letter)
            (stands_in others round.chosen (Second q round.letter) round.target)) in
            let kept : IsKeptAs p round.chosen w = kept_as board bases mover keys others order game arena c lifted small
            is of fits valid lift round.chosen w (Second q round.letter) round.target at_w in
            let entry : HasEntryOf p c lifted v round.vertex = lift.firsts round.vertex v q o round.stands at_v in
            let chosen : choice_of lifted v ≡ Some w = entry.choice ∙
            ap (λ (x : Option ℕ). option_map (λ z. slice_index lift.kept z) x) round.choice ∙
            ap (λ (x : ℕ). Some x) (kept_is p pruning_is round.chosen w kept) in
            let own : owner_of game v ≡ winner_of lifted v =
            here.owner ∙ sym lifted_start ∙ sym (used_won lift.valid.closed used) in
            let edge : HasEdge game v w =
            IsSomeAnd-at (HasEdge game v) chosen ((lift.valid.closed.moves v here.below).own own) in
            let used_w : IsUsed game lifted w = used_more used edge (within v w edge) (λ mine. chosen) in
            let there : GameVertex w (Second q round.letter) = vertex_of w (Second q round.letter) at_w in
            let (t, next, at_t) = next_vertex (LeadsTo board) mover start keys game is.by_keys w
            (Second q round.letter) (First r s) there
            (reached_key board q round.letter r s there.next there.leads_to round.reached) in (
              t,
              at_t,
              used_more used_w next (within w t next)
                  (λ mine. absurd (not_mover (sym there.owner ∙ mine ∙ lifted_start))),
            )

    pub first_used : (v q o : ℕ) → StandsAt keys v (First q o) → IsUsed game lifted v ↔ FirstRounds q o
    first_used v q o at = (λ used. first_came v used (First q o) at, λ comes. back (first_back q o comes))
      where
        back : (w : ℕ) × StandsAt keys w (First q o) × IsUsed game lifted w → IsUsed game lifted v
        back (w, there, used) = subst (λ (x : ℕ). IsUsed game lifted x)
            (game_key_once board bases mover keys others game arena is of w v (First q o) there at) used

  -- ## The second player wins

  module _ (lost : winner_at_start c ≢ mover) where
    abbrev SecondRounds : ℕ → ℕ → Type 0
    SecondRounds q o = ComesTo (IsSecondRound board mover others c order) board.auto.start q o

    pub second_start : winner_at_start lifted ≡ 1 - mover
    second_start = lift.start ∙ other (winner_at_start c) mover
        (fits.winners 0 (kept_below p pruning_is 0 0 (kept_as board bases mover keys others order game arena c lifted
        small is of fits valid lift 0 0 start of.by_keys.begins is.by_keys.begins))) small lost
      where
        other : (a m : ℕ) → a < 2 → m < 2 → a ≢ m → a ≡ 1 - m
        other a m a_below m_below differ = omega arith

    record FromSecond (q x : ℕ) : Type 0 where
      priority : ℕ
      comes : SecondRounds q priority
      from : ℕ
      at : StandsAt keys from (First q priority)
      won : winner_of lifted from ≡ 1 - mover
      is_class : IsClassLetter board q x

    record AtFirst (v q o : ℕ) : Type 0 where
      comes : SecondRounds q o
      won : winner_of lifted v ≡ 1 - mover

    abbrev SecondCame : ℕ → Key → Type 0
    SecondCame v (First q o) = AtFirst v q o
    SecondCame v (Second q x) = FromSecond q x

    second_to : (v w q o : ℕ) (to : Key) → StandsAt keys v (First q o) → AtFirst v q o →
        Behind board bases mover keys others game arena is of to q o → SecondCame w to
    second_to v w q o to at_v came behind =
        let came_to : SecondCame w (Second q behind.letter) = record {
          priority = o;
          comes = came.comes;
          from = v;
          at = at_v;
          won = came.won;
          is_class = behind.is_class;
        } in
        subst (λ (k : Key). SecondCame w k) (sym behind.is_key) came_to

    second_from : (v w q o : ℕ) (to : Key) → StandsAt keys v (First q o) → StandsAt keys w to →
        AtFirst v q o → GoesOn game lifted v w → SecondCame w to
    second_from v w q o to at_v at_w came goes =
        let here : GameVertex v (First q o) = vertex_of v (First q o) at_v in
        second_to v w q o to at_v came (behind_first board bases mover keys others game arena is of v q o here to
        (key_to v w (First q o) to here at_w goes.edge))

    second_round : (v w q x : ℕ) (to : Key) → StandsAt keys v (Second q x) → StandsAt keys w to → FromSecond q x →
        GoesOn game lifted v w → SecondCame w to
    second_round v w q x to at_v at_w came goes =
        let here : GameVertex v (Second q x) = vertex_of v (Second q x) at_v in
        let chosen : choice_of lifted v ≡ Some w = goes.chosen (here.owner ∙ sym second_start) in
        let (y, by_guide) = guided board bases mover keys others order game arena c lifted small is of fits valid lift
        came.from q came.priority v x came.at came.is_class at_v came.won in
        let is_first : IsFirstIn (order q) (MovesBehind board mover others c q x) y =
        guided_first board bases mover keys others order game arena c lifted small is of fits valid lift
        came.from q came.priority v x came.at came.is_class at_v came.won x
        (λ z second. record { state = refl; priority = refl }) y by_guide.given in
        let moves : MovesBehind board mover others c q x y = is_first.here in
        let (t, at_t, kept_t) = kept_target board bases mover keys others order game arena c lifted small is of fits
        valid lift moves.chosen moves.state moves.priority moves.target in
        let moved : choice_of lifted v ≡ Some t = move_is board bases mover keys others order game arena c lifted small
        is of fits valid lift came.from q came.priority v x came.at came.is_class at_v came.won x
        (λ z second. record { state = refl; priority = refl }) y moves.chosen t by_guide moves.choice kept_t in
        let some : Some t ≡ Some w = sym moved ∙ chosen in
        let same : t ≡ w = grind (arith, some) in
        let key_is : First moves.state moves.priority ≡ to =
        same_some (sym (subst (λ (z : ℕ). StandsAt keys z (First moves.state moves.priority)) same at_t) ∙ at_w) in
        let won_v : winner_of lifted v ≡ 1 - mover = at_won board bases mover keys others order game arena c lifted
        small is of fits valid lift came.from q came.priority v x came.at came.is_class at_v came.won in
        let came_to : SecondCame w (First moves.state moves.priority) = record {
          comes = after came.comes (record {
            letter = x;
            is_letter = came.is_class.here.0;
            guide = y;
            first = is_first;
            state = refl;
            priority = refl;
          });
          won = lift.valid.closed.stays v w (record { edge = goes.edge; chosen = λ mine. chosen }) ∙ won_v;
        } in
        subst (λ (k : Key). SecondCame w k) key_is came_to

    second_next : (v w : ℕ) (from to : Key) → StandsAt keys v from → StandsAt keys w to → SecondCame v from →
        GoesOn game lifted v w → SecondCame w to
    second_next v w (First q o) to at_v at_w came goes = second_from v w q o to at_v at_w came goes
    second_next v w (Second q x) to at_v at_w came goes = second_round v w q x to at_v at_w came goes

    second_came : (v : ℕ) → IsUsed game lifted v → (key : Key) → StandsAt keys v key → SecondCame v key
    second_came v used = used_by game lifted (λ v. (key : Key) → StandsAt keys v key → SecondCame v key)
        (λ key at. (let here : SecondCame 0 start = record { comes = at_start; won = second_start } in
        subst (λ (k : Key). SecondCame 0 k) (same_some (sym is.by_keys.begins ∙ at)) here))
        (λ v w came goes to at_w. let (from, at_v) = key_of v goes.edge.0 in
        second_next v w from to at_v at_w (came from at_v) goes)
        v used

    second_back : (q o : ℕ) → SecondRounds q o → (v : ℕ) × StandsAt keys v (First q o) × IsUsed game lifted v
    second_back q o at_start = (0, is.by_keys.begins, start_used)
    second_back r s (after {q} {p = o} before round) = with_before (second_back q o before)
      where
        with_before : (v : ℕ) × StandsAt keys v (First q o) × IsUsed game lifted v →
            (t : ℕ) × StandsAt keys t (First r s) × IsUsed game lifted t
        with_before (v, at_v, used) =
            let here : GameVertex v (First q o) = vertex_of v (First q o) at_v in
            let won : winner_of lifted v ≡ 1 - mover = used_won lift.valid.closed used ∙ second_start in
            let (class, is_class, same) = class_there board q round.is_letter in
            let (w, edge, at_w) = next_vertex (LeadsTo board) mover start keys game is.by_keys v (First q o)
            (Second q class) here
            (first_leads board bases mover keys others game arena is of v q o here class is_class) in
            let used_w : IsUsed game lifted w = used_more used edge (within v w edge)
            (λ mine. absurd (not_mover (sym second_start ∙ sym mine ∙ here.owner))) in
            let (y, by_guide) = guided board bases mover keys others order game arena c lifted small is of fits valid
            lift v q o w class at_v is_class at_w won in
            let is_first : IsFirstIn (order q) (MovesBehind board mover others c q round.letter) y =
            guided_first board bases mover keys others order game arena c lifted small is of fits valid lift v q o w
            class at_v is_class at_w won round.letter same y by_guide.given in
            let moves : MovesBehind board mover others c q round.letter round.guide = round.first.here in
            let one : round.guide ≡ y = first_is_one (order q) (MovesBehind board mover others c q round.letter)
            round.guide y round.first is_first in
            let choice : choice_of c y ≡ Some moves.chosen =
            subst (λ (g : ℕ). choice_of c g ≡ Some moves.chosen) one moves.choice in
            let (t, at_t, kept_t) = kept_target board bases mover keys others order game arena c lifted small is of
            fits valid lift moves.chosen moves.state moves.priority moves.target in
            let chosen : choice_of lifted w ≡ Some t = move_is board bases mover keys others order game arena c lifted
            small is of fits valid lift v q o w class at_v is_class at_w won round.letter same y moves.chosen t
            by_guide choice kept_t in
            let own : owner_of game w ≡ winner_of lifted w = (vertex_of w (Second q class) at_w).owner ∙
            sym (at_won board bases mover keys others order game arena c lifted small is of fits valid lift v q o w
            class at_v is_class at_w won) in
            let next : HasEdge game w t =
            IsSomeAnd-at (HasEdge game w) chosen ((lift.valid.closed.moves w (within v w edge)).own own) in (
              t,
              subst (λ (k : Key). StandsAt keys t k)
                  (ap₂ (λ (a b : ℕ). First a b) round.state round.priority) at_t,
              used_more used_w next (within w t next) (λ mine. chosen),
            )

    pub second_used : (v q o : ℕ) → StandsAt keys v (First q o) → IsUsed game lifted v ↔ SecondRounds q o
    second_used v q o at = (λ used. (second_came v used (First q o) at).comes, λ comes. back (second_back q o comes))
      where
        back : (w : ℕ) × StandsAt keys w (First q o) × IsUsed game lifted w → IsUsed game lifted v
        back (w, there, used) = subst (λ (x : ℕ). IsUsed game lifted x)
            (game_key_once board bases mover keys others game arena is of w v (First q o) there at) used
