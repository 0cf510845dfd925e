-- The second player's steps in a lifted certificate are those that the arena describes.
-- - `serves_moves`, `moves_serve`: at a vertex that the second player wins, the vertices of the arena that serve it are
--   those whose moves can be made behind its letter
-- - `steps_behind`, `steps_back`: the two halves of the law `second_steps_of_lift`
use Rattle.std.specs.Prelude.{◌↔◌}
use Rattle.std.specs.Prelude.{◌≡◌, ◌≢◌, ℕ, ◌+◌, ◌-◌, ◌<◌, ◌⊎◌, List, length, map, Option, Some, slice_get}
use Rattle.std.specs.Prelude.{slice_index}
use Rattle.std.specs.List.{Contains}
use Rattle.std.specs.Option.{option_map}
use Rattle.std.proofs.Common.{sym, ◌∙◌, subst, ap, ap₂, refl, inl, inr, arith}
use Rattle.std.proofs.lemmas.Option.{get_or_from_slice_get}
use Rattle.ps_game.specs.Games.{ParityGame, IsGame, owner_of, HasEdge}
use Rattle.ps_certificate.specs.Certificates.{CertificateData, Fits, IsValid, Remains, winner_of, choice_of}
use Rattle.ps_diagram.specs.Letters.{IsLeastLetter}
use Rattle.ps_machine.specs.Boards.{Board, IsClassLetter, IsFirstLetter, IsSecondLetter, IsGameOf}
use Rattle.ps_machine.specs.Boards.{LeadsTo, SameSteps}
use Rattle.ps_machine.specs.Extracting.{GoesTo, StepsSecond}
use Rattle.ps_machine.specs.Numbering.{StandsAt}
use Rattle.ps_machine.specs.declared.key.Key.{Key}
use Rattle.ps_machine.specs.declared.key.Key.TheVariants.{First, Second}
use Rattle.ps_machine.proofs.AutomatonGames.DecidedMoves.{class_there, move_there, same_states, same_priorities}
use Rattle.ps_machine.proofs.AutomatonGames.DecidedMoves.{steps_sym}
use Rattle.ps_machine.proofs.AutomatonGames.GameKeys.Standing.{same_some}
use Rattle.ps_pruning.specs.Lifting.{Pruning, IsPruning, IsKeptAs, Serves, IsGuide, IsFirstIn}
use Rattle.ps_pruning.specs.Lifting.{HasEntryOf}
use Rattle.ps_pruning.proofs.KeptVertices.{kept_is, kept_there}
use Rattle.ps_pruning.proofs.Lifted.{kept_winner, move_kept, served_edge, lift_is_closed}
use Rattle.ps_pruning.proofs.Servers.{move_of, server_owner, server_below, given_there}
use Rattle.ps_basis.specs.ArenaMoves.{MovesBehind, GoesThere, StepsBehind}
use Rattle.ps_basis.specs.Arenas.{IsArenaOf, IsLiftOfArena, pruning_to, candidates_at}
use Rattle.ps_basis.specs.Arenas.{candidates_of}
use Rattle.ps_basis.specs.Bases.{CanGoTo, ReachesNoMore}
use Rattle.ps_basis.proofs.ArenaKeys.{Vertex, edge_key, key_edge, next_vertex, stands_in, stands_there, in_map}
use Rattle.ps_basis.proofs.ArenaKeys.{from_map}
use Rattle.ps_basis.proofs.ArenaEdges.{in_game, first_leads, in_basis_is_class, kept_by_key}
use Rattle.ps_basis.proofs.ArenaCovers.{server_state, replaces}
use Rattle.ps_basis.proofs.LetterReach.{reaches_same}

-- ## Lists and least letters

first_in_through : (list : List ℕ) (P Q : ℕ → Type 0) (x : ℕ) → ((y : ℕ) → P y → Q y) → ((y : ℕ) → Q y → P y) →
    (first : IsFirstIn list P x) → Q x → IsFirstIn list Q x
first_in_through list P Q x to from first here = record {
  place = first.place;
  stands = first.stands;
  here = here;
  none_before = λ k y less at holds. first.none_before k y less at (from y holds);
}

pub first_is_one : (list : List ℕ) (P : ℕ → Type 0) (x y : ℕ) → IsFirstIn list P x → IsFirstIn list P y → x ≡ y
first_is_one list P x y one other =
    elim (let t : (one.place < other.place) ⊎ (other.place < one.place) ⊎ (one.place ≡ other.place) = grind arith in t) [
      | inl less ↦ absurd (other.none_before one.place x less one.stands one.here)
      | inr (inl more) ↦ absurd (one.none_before other.place y more other.stands other.here)
      | inr (inr same) ↦
          let at : slice_get list one.place ≡ Some y = subst (λ (k : ℕ). slice_get list k ≡ Some y) (sym same)
          other.stands in
          let is : Some x ≡ Some y = sym one.stands ∙ at in
          grind (arith, is)
    ]

least_through : (P Q : ℕ → Type 0) (x : ℕ) → ((y : ℕ) → P y → Q y) → ((y : ℕ) → Q y → P y) → IsLeastLetter P x →
    IsLeastLetter Q x
least_through P Q x to from least = record {
  here = to x least.here;
  none_before = λ y holds before. least.none_before y (from y holds) before;
}

-- ## What is reached behind a letter, and the successors of its vertex

pub reached_key : (board : Board) (q c r s : ℕ) (next : List Key) → LeadsTo board (Second q c) next →
    CanGoTo board q c r s → Contains next (First r s)
reached_key board q c r s next (letters, list, is) reached =
    let (z, is_move, step) = move_there board {q = q} c reached.is_letter in
    let there : Contains (map goes letters) (goes z) = in_map goes letters z (list.complete z is_move) in
    let key_is : goes z ≡ First r s =
    ap₂ (λ (a b : ℕ). First a b) (step.state ∙ reached.state) (step.priority ∙ reached.priority) in
    subst (λ (keys : List Key). Contains keys (First r s)) (sym is)
    (subst (λ (k : Key). Contains (map goes letters) k) key_is there)
  where
    goes : ℕ → Key
    goes y = First (board.auto.next q (c + y)) (board.auto.priority q (c + y))

-- a key behind the letter c is that of a step of the second player
pub record ReachedAt (board : Board) (q c : ℕ) (key : Key) : Type 0 where
  pub state : ℕ
  pub priority : ℕ
  pub is_key : key ≡ First state priority
  pub reached : CanGoTo board q c state priority

pub key_reached : (board : Board) (q c : ℕ) (next : List Key) (key : Key) → LeadsTo board (Second q c) next →
    Contains next key → ReachedAt board q c key
key_reached board q c next key (letters, list, is) inside =
    let goes : ℕ → Key = λ y. First (board.auto.next q (c + y)) (board.auto.priority q (c + y)) in
    let mapped : Contains (map goes letters) key = subst (λ (keys : List Key). Contains keys key) is inside in
    let (y, listed, same) = from_map goes letters 0 key mapped in
    let (k, within, at) = listed in
    record {
      state = board.auto.next q (c + y);
      priority = board.auto.priority q (c + y);
      is_key = same;
      reached = record {
        letter = y;
        is_letter = subst (λ (z : ℕ). IsSecondLetter board z) at ((list.each k y within).here.0);
        state = refl;
        priority = refl;
      };
    }

-- the vertex u of the arena moves to the vertex z, whose key is that of a step behind the letter x
moves_at : (board : Board) (mover : ℕ) (others : List Key) (c : CertificateData) (q x u letter z : ℕ) (key : Key) →
    StandsAt others u (Second q letter) → winner_of c u ≡ 1 - mover → choice_of c u ≡ Some z → StandsAt others z key →
    ReachedAt board q x key → MovesBehind board mover others c q x u
moves_at board mover others c q x u letter z key stands won choice target at = record {
  letter = letter;
  stands = stands;
  won = won;
  chosen = z;
  choice = choice;
  state = at.state;
  priority = at.priority;
  target = subst (λ (k : Key). StandsAt others z k) at.is_key target;
  reached = at.reached;
}

moves_through : (board : Board) (mover : ℕ) (others : List Key) (c : CertificateData) (q x y u : ℕ) →
    ReachesNoMore board q x y → MovesBehind board mover others c q x u → MovesBehind board mover others c q y u
moves_through board mover others c q x y u no_more moves = record {
  letter = moves.letter;
  stands = moves.stands;
  won = moves.won;
  chosen = moves.chosen;
  choice = moves.choice;
  state = moves.state;
  priority = moves.priority;
  target = moves.target;
  reached = no_more _ _ moves.reached;
}

module _ (board : Board) (bases : ℕ → List ℕ) (mover : ℕ) (keys others : List Key) (order : ℕ → List ℕ)
    (game arena : ParityGame) (c lifted : CertificateData) (small : mover < 2) (is : IsGameOf board mover keys game)
    (of : IsArenaOf board bases mover keys others arena) (fits : Fits arena c) (valid : IsValid arena c)
    (lift : IsLiftOfArena mover keys others order game arena c lifted) where
  abbrev start : Key
  start = First board.auto.start 0

  abbrev p : Pruning
  p = pruning_to mover game lift.kept arena

  pruning_is : IsPruning p
  pruning_is = lift.pruning.is_pruning

  well : IsGame game
  well = pruning_is.is_game

  guides : IsGuide p c lift.guide
  guides = lift.is_guide.is_guide

  abbrev GameVertex : ℕ → Key → Type 0
  GameVertex v key = Vertex (LeadsTo board) mover keys game v key

  vertex_of : (v : ℕ) (key : Key) → StandsAt keys v key → GameVertex v key
  vertex_of v key at = in_game board bases mover keys others game arena is of v key at

  edge_to : (v w : ℕ) (key to : Key) (here : GameVertex v key) → StandsAt keys w to → Contains here.next to →
      HasEdge game v w
  edge_to v w key to here at inside =
      key_edge (LeadsTo board) mover start keys game is.by_keys v w key to here at inside

  pub kept_as : (u v : ℕ) (key : Key) → StandsAt others u key → StandsAt keys v key → IsKeptAs p u v
  kept_as = kept_by_key board bases mover keys others game arena is of small well lift.kept lift.pruning.same_keys

  -- the vertex of the game with the key of a vertex of the arena
  pub kept_target : (z r s : ℕ) → StandsAt others z (First r s) → (t : ℕ) × StandsAt keys t (First r s) × IsKeptAs p z t
  kept_target z r s there =
      let (t, at) = stands_there keys (First r s) (of.within (First r s) (stands_in others z (First r s) there)) in
      (t, at, kept_as z t (First r s) there at)

  -- ## A vertex of the second player

  module _ (v q o at class : ℕ) (first : StandsAt keys v (First q o)) (is_class : IsClassLetter board q class)
      (here : StandsAt keys at (Second q class)) (won : winner_of lifted v ≡ 1 - mover) where
    not_mover : 1 - mover ≢ mover
    not_mover same = omega (arith, small, same)

    edge : HasEdge game v at
    edge = edge_to v at (First q o) (Second q class) (vertex_of v (First q o) first) here
        (first_leads board bases mover keys others game arena is of v q o (vertex_of v (First q o) first) class
        is_class)

    remains : Remains game lifted v at
    remains = record {
      edge = edge;
      chosen = λ own. absurd (not_mover (sym won ∙ sym own ∙ (vertex_of v (First q o) first).owner));
    }

    at_owner : owner_of game at ≡ 1 - mover
    at_owner = (vertex_of at (Second q class) here).owner

    pub at_won : winner_of lifted at ≡ 1 - mover
    at_won = (lift_is_closed p c lifted lift.guide pruning_is lift.pruning.is_covered fits valid guides
        lift.is_lift).stays v at remains ∙ won

    -- the guide gives a vertex, whose entry is that of `at`
    pub record Guided (y : ℕ) : Type 0 where
      pub given : lift.guide at ≡ Some y
      pub entry : HasEntryOf p c lifted at y

    pub guided : (y : ℕ) × Guided y
    guided =
        let (u, there) = stands_there others (First q o) (of.firsts q o (stands_in keys v (First q o) first)) in
        let (y, given, serves) = given_there p c lift.guide pruning_is fits valid guides v u edge.0
        (inl (kept_as u v (First q o) there first)) in
        let (z, follows) = served_edge p c lifted lift.guide pruning_is lift.pruning.is_covered fits valid guides
        lift.is_lift v y at
        (record { given = given; serves = serves; entry = lift.is_lift.served v y edge.0 given }) remains in (
          z,
          record {
            given = follows.given;
            entry = lift.is_lift.served at z (well.within v at edge) follows.given;
          },
        )

    server_won : (y : ℕ) → Serves p c at y → winner_of c y ≡ 1 - mover
    server_won y (inl kept) =
        sym (kept_winner p c lifted lift.guide pruning_is fits valid guides lift.is_lift y at kept) ∙ at_won
    server_won y (inr guide) = guide.won ∙ at_owner

    serves_moves : (y : ℕ) → Serves p c at y → MovesBehind board mover others c q class y
    serves_moves y serves =
        let (letter, stands) = server_state board bases mover keys others game arena is of small well lift.kept
        lift.pruning.same_keys c at y q class here serves in
        let winner : winner_of c y ≡ 1 - mover = server_won y serves in
        let own : owner_of arena y ≡ winner_of c y =
        server_owner p c pruning_is fits valid at y serves ∙ at_owner ∙ sym winner in
        let (z, moves) = move_of p c pruning_is fits valid y (server_below p c pruning_is fits valid at y serves) own in
        let leads : HasEdge game at (slice_index lift.kept z) = move_kept p c lifted lift.guide pruning_is
        lift.pruning.is_covered fits valid guides lift.is_lift at y z (well.within v at edge) serves moves in
        let same = lift.pruning.same_keys.same z (slice_index lift.kept z) (kept_there p pruning_is z moves.below) in
        let to : GameVertex at (Second q class) = vertex_of at (Second q class) here in
        let reached : ReachedAt board q class same.key = key_reached board q class to.next same.key to.leads_to
        (edge_key (LeadsTo board) mover start keys game is.by_keys at (slice_index lift.kept z) (Second q class)
        same.key to same.in_game leads) in
        moves_at board mover others c q class y letter z same.key stands winner moves.choice same.in_arena reached

    moves_serve : (y : ℕ) → MovesBehind board mover others c q class y → Serves p c at y
    moves_serve y moves =
        let inside : Contains others (Second q moves.letter) =
        stands_in others y (Second q moves.letter) moves.stands in
        let (w, at_w) = stands_there keys (Second q moves.letter) (of.within (Second q moves.letter) inside) in
        let letter_class : IsClassLetter board q moves.letter =
        in_basis_is_class board bases mover keys others game arena is of q o moves.letter
        (stands_in keys v (First q o) first) (of.seconds q moves.letter inside) in
        let (t, at_t, kept_t) = kept_target moves.chosen moves.state moves.priority moves.target in
        let to : GameVertex at (Second q class) = vertex_of at (Second q class) here in
        inr (record {
          turn = λ own. not_mover (sym at_owner ∙ own);
          won = moves.won ∙ sym at_owner;
          vertex = w;
          is_kept = kept_as y w (Second q moves.letter) moves.stands at_w;
          replaces = replaces board bases mover keys others game arena is of small well lift.kept lift.pruning.same_keys
              at w q class moves.letter here at_w letter_class;
          chosen = moves.chosen;
          choice = moves.choice;
          target = t;
          is_target = kept_t;
          edge = edge_to at t (Second q class) (First moves.state moves.priority) to at_t
              (reached_key board q class moves.state moves.priority to.next to.leads_to moves.reached);
        })

    -- ## A letter of the class

    module _ (x : ℕ) (same : SameSteps board q x class) where
      abbrev Behind : ℕ → Type 0
      Behind u = MovesBehind board mover others c q x u

      to_behind : (y : ℕ) → Serves p c at y → Behind y
      to_behind y serves = moves_through board mover others c q class x y
          (reaches_same board q class x (steps_sym board q x class same)) (serves_moves y serves)

      from_behind : (y : ℕ) → Behind y → Serves p c at y
      from_behind y moves = moves_serve y (moves_through board mover others c q x class y
          (reaches_same board q x class same) moves)

      pub guided_first : (y : ℕ) → lift.guide at ≡ Some y → IsFirstIn (order q) Behind y
      guided_first y given =
          let by_guide : IsFirstIn (candidates_of keys others order at) (Serves p c at) y =
          lift.is_guide.first at y given in
          let list : candidates_of keys others order at ≡ order q =
          ap (λ (k : Key). candidates_at order (length others) k)
          (get_or_from_slice_get keys at (Second q class) (First 0 0) here) in
          first_in_through (order q) (Serves p c at) Behind y to_behind from_behind
          (subst (λ (xs : List ℕ). IsFirstIn xs (Serves p c at) y) list by_guide) (to_behind y by_guide.here)

      -- the second player's letters that lead to the chosen vertex
      module _ (chosen r s : ℕ) (target : StandsAt keys chosen (First r s)) where
        goes_there : (y : ℕ) → IsSecondLetter board y × GoesTo keys board q (class + y) chosen →
            GoesThere board q x r s y
        goes_there y (second, goes) =
            let is_key : First (board.auto.next q (class + y)) (board.auto.priority q (class + y)) ≡ First r s =
            same_some (sym goes.stands ∙ target) in
            record {
              is_letter = second;
              state = (same y second).state ∙ same_states is_key;
              priority = (same y second).priority ∙ same_priorities is_key;
            }

        goes_back : (y : ℕ) → GoesThere board q x r s y →
            IsSecondLetter board y × GoesTo keys board q (class + y) chosen
        goes_back y goes = (
          goes.is_letter,
          record {
            stands = target ∙ ap (λ (k : Key). Some k) (ap₂ (λ (a b : ℕ). First a b)
                (sym goes.state ∙ (same y goes.is_letter).state)
                (sym goes.priority ∙ (same y goes.is_letter).priority));
          },
        )

      -- the move of `at` is the vertex with the key to which its guide moves
      pub move_is : (y z t : ℕ) → Guided y → choice_of c y ≡ Some z → IsKeptAs p z t → choice_of lifted at ≡ Some t
      move_is y z t by_guide choice kept =
          by_guide.entry.choice ∙
          ap (λ (o : Option ℕ). option_map (λ w. slice_index lift.kept w) o) choice ∙
          ap (λ (w : ℕ). Some w) (kept_is p pruning_is z t kept)

  -- ## Steps

  steps_behind : (v q o x letter : ℕ) → StandsAt keys v (First q o) → winner_of lifted v ≡ 1 - mover →
      StepsSecond board keys lifted v q x letter → StepsBehind board mover others c order q x letter
  steps_behind v q o x letter first won steps =
      let (y, by_guide) = guided v q o steps.at steps.class first steps.is_class steps.stands won in
      let is_first : IsFirstIn (order q) (MovesBehind board mover others c q x) y =
      guided_first v q o steps.at steps.class first steps.is_class steps.stands won x steps.same y by_guide.given in
      let moves : MovesBehind board mover others c q x y = is_first.here in
      let (t, at_t, kept_t) = kept_target moves.chosen moves.state moves.priority moves.target in
      let moved : choice_of lifted steps.at ≡ Some t = move_is v q o steps.at steps.class first steps.is_class
      steps.stands won x steps.same y moves.chosen t by_guide moves.choice kept_t in
      let some : Some t ≡ Some steps.chosen = sym moved ∙ steps.choice in
      let same : t ≡ steps.chosen = grind (arith, some) in
      let target : StandsAt keys steps.chosen (First moves.state moves.priority) =
      subst (λ (w : ℕ). StandsAt keys w (First moves.state moves.priority)) same at_t in
      record {
        guide = y;
        first = is_first;
        least = least_through
            (λ z. IsSecondLetter board z × GoesTo keys board q (steps.class + z) steps.chosen)
            (GoesThere board q x moves.state moves.priority) letter
            (goes_there v q o steps.at steps.class first steps.is_class steps.stands won x steps.same steps.chosen
            moves.state moves.priority target)
            (goes_back v q o steps.at steps.class first steps.is_class steps.stands won x steps.same steps.chosen
            moves.state moves.priority target)
            steps.least;
      }

  steps_back : (v q o x letter : ℕ) → StandsAt keys v (First q o) → winner_of lifted v ≡ 1 - mover →
      IsFirstLetter board x → StepsBehind board mover others c order q x letter →
      StepsSecond board keys lifted v q x letter
  steps_back v q o x letter first won is_letter steps =
      let (class, is_class, same) = class_there board q is_letter in
      let from : GameVertex v (First q o) = vertex_of v (First q o) first in
      let (at, edge_at, here) = next_vertex (LeadsTo board) mover start keys game is.by_keys v (First q o)
      (Second q class) from (first_leads board bases mover keys others game arena is of v q o from class is_class)
      in
      let (y, by_guide) = guided v q o at class first is_class here won in
      let is_first : IsFirstIn (order q) (MovesBehind board mover others c q x) y =
      guided_first v q o at class first is_class here won x same y by_guide.given in
      let moves : MovesBehind board mover others c q x steps.guide = steps.first.here in
      let one : steps.guide ≡ y = first_is_one (order q) (MovesBehind board mover others c q x) steps.guide y
      steps.first is_first in
      let choice : choice_of c y ≡ Some moves.chosen =
      subst (λ (g : ℕ). choice_of c g ≡ Some moves.chosen) one moves.choice in
      let (t, at_t, kept_t) = kept_target moves.chosen moves.state moves.priority moves.target in
      record {
        class = class;
        is_class = is_class;
        same = same;
        at = at;
        stands = here;
        chosen = t;
        choice = move_is v q o at class first is_class here won x same y moves.chosen t by_guide choice kept_t;
        least = least_through (GoesThere board q x moves.state moves.priority)
            (λ z. IsSecondLetter board z × GoesTo keys board q (class + z) t) letter
            (goes_back v q o at class first is_class here won x same t moves.state moves.priority at_t)
            (goes_there v q o at class first is_class here won x same t moves.state moves.priority at_t)
            steps.least;
      }

  pub second_steps : (v q o x letter : ℕ) → StandsAt keys v (First q o) → winner_of lifted v ≡ 1 - mover →
      IsFirstLetter board x →
      StepsSecond board keys lifted v q x letter ↔ StepsBehind board mover others c order q x letter
  second_steps v q o x letter first won is_letter =
      (steps_behind v q o x letter first won, steps_back v q o x letter first won is_letter)
