-- A play by a valid certificate of an arena can go on for ever (`IsPlayable`).
-- - `first_came`, `second_came`: the winner wins each vertex to which the rounds lead
-- - `first_move`, `second_move`: the winner's moves
use Rattle.std.specs.Prelude.{◌≡◌, ◌≢◌, ℕ, ◌-◌, ◌<◌, List}
use Rattle.std.specs.Prelude.{map, IfSome, Option, None, Some}
use Rattle.std.specs.List.{Contains}
use Rattle.std.proofs.Common.{sym, ◌∙◌, subst, inl, inr, arith}
use Rattle.std.proofs.lemmas.Bool.{cases_eq}
use Rattle.ps_game.specs.Games.{ParityGame, vertex_count, owner_of, successors_of, HasEdge}
use Rattle.ps_certificate.specs.Certificates.{CertificateData, Fits, IsValid, winner_of, choice_of}
use Rattle.ps_certificate.proofs.FlawsAndValidity.SuccessorEdges.{IsSomeAnd-at, some_of}
use Rattle.ps_machine.specs.Boards.{Board, IsFirstLetter, IsGameOf}
use Rattle.ps_machine.specs.Numbering.{StandsAt}
use Rattle.ps_solver.specs.Solving.{winner_at_start}
use Rattle.ps_machine.specs.declared.key.Key.{Key}
use Rattle.ps_machine.specs.declared.key.Key.TheVariants.{First, Second}
use Rattle.ps_machine.proofs.AutomatonGames.GameKeys.Standing.{same_some}
use Rattle.ps_basis.specs.ArenaMoves.{MovesBehind, IsFirstRound, IsSecondRound, ComesTo, at_start, after}
use Rattle.ps_basis.specs.Arenas.{IsArenaOf, LeadsWithin}
use Rattle.ps_basis.specs.Bases.{CanGoTo}
use Rattle.ps_basis.specs.PairOrder.{AreNumberedAlike, IsInOrder}
use Rattle.ps_basis.proofs.ArenaEdges.{in_arena, in_basis_is_class, second_letter_same}
use Rattle.ps_basis.proofs.ArenaKeys.{Vertex, key_at, key_once, edge_key, next_vertex, stands_in, stands_there, in_map}
use Rattle.ps_basis.proofs.ArenaKeys.{from_map}
use Rattle.ps_basis.proofs.ArenaSteps.{ReachedAt, key_reached, reached_key}
use Rattle.ps_basis.proofs.GameOrder.{game_in_order}
use Rattle.ps_basis.proofs.OneOrder.{numbered_alike}
use Rattle.ps_brief.specs.Inner.Playable.{IsFirstMove, IsSecondMove, CanMove}

module _ (board : Board) (bases : ℕ → List ℕ) (mover : ℕ) (keys others list : List Key) (game arena : ParityGame)
    (c : CertificateData) (small : mover < 2) (is : IsGameOf board mover keys game)
    (of : IsArenaOf board bases mover keys others arena) (fits : Fits arena c) (valid : IsValid arena c)
    (sorted : IsInOrder board list) (numbers : (v : ℕ) (key : Key) → StandsAt list v key → StandsAt others v key) where
  abbrev start : Key
  start = First board.auto.start 0

  abbrev ArenaVertex : ℕ → Key → Type 0
  ArenaVertex u key = Vertex (LeadsWithin bases board) mover others arena u key

  vertex_of : (u : ℕ) (key : Key) → StandsAt others u key → ArenaVertex u key
  vertex_of u key at = in_arena board bases mover keys others game arena is of u key at

  once : (u v : ℕ) (key : Key) → StandsAt others u key → StandsAt others v key → u ≡ v
  once u v key one other =
      key_once (LeadsWithin bases board) mover start others arena of.by_keys u v key one other

  key_of : (u : ℕ) → u < vertex_count arena → (key : Key) × StandsAt others u key
  key_of u below = key_at (LeadsWithin bases board) mover start others arena of.by_keys u below

  key_to : (u v : ℕ) (key to : Key) (here : ArenaVertex u key) → StandsAt others v to → HasEdge arena u v →
      Contains here.next to
  key_to u v key to here at edge =
      edge_key (LeadsWithin bases board) mover start others arena of.by_keys u v key to here at edge

  next_of : (u : ℕ) (key to : Key) (here : ArenaVertex u key) → Contains here.next to →
      (v : ℕ) × HasEdge arena u v × StandsAt others v to
  next_of u key to here inside =
      next_vertex (LeadsWithin bases board) mover start others arena of.by_keys u key to here inside

  alike : AreNumberedAlike keys list
  alike = numbered_alike board keys list (game_in_order board mover keys game is) sorted

  in_list : (q p : ℕ) → Contains others (First q p) → Contains list (First q p)
  in_list q p inside = (alike.keys q p).0 (of.within (First q p) inside)

  in_game : (v q p : ℕ) → StandsAt others v (First q p) → Contains keys (First q p)
  in_game v q p at = of.within (First q p) (stands_in others v (First q p) at)

  not_mover : 1 - mover ≢ mover
  not_mover same = omega (arith, small, same)

  -- the winner of a vertex also wins what follows it
  passes : (u v : ℕ) → HasEdge arena u v → (owner_of arena u ≡ winner_of c u → choice_of c u ≡ Some v) →
      winner_of c v ≡ winner_of c u
  passes u v edge chosen = valid.closed.stays u v (record { edge = edge; chosen = chosen })

  choice_edge : (u v : ℕ) → u < vertex_count arena → owner_of arena u ≡ winner_of c u → choice_of c u ≡ Some v →
      HasEdge arena u v
  choice_edge u v below own choice = IsSomeAnd-at (HasEdge arena u) choice ((valid.closed.moves u below).own own)

  -- a move is one of the winner
  own_choice : (u v : ℕ) → u < vertex_count arena → choice_of c u ≡ Some v → owner_of arena u ≡ winner_of c u
  own_choice u v below choice = elim (cases_eq (owner_of arena u) (winner_of c u)) [
    | inl same ↦ same
    | inr differ ↦
        let gone : None ≡ Some v = sym ((valid.closed.moves u below).other differ) ∙ choice in absurd (cc gone)
  ]

  below_choice : (u v : ℕ) → u < vertex_count arena → choice_of c u ≡ Some v → v < vertex_count arena
  below_choice u v below choice =
      subst (λ (o : Option ℕ). IfSome o (λ w. w < vertex_count arena)) choice (fits.choices u below)

  -- a successor of a vertex of the first player is that of a letter of a basis
  basis_vertex : (v q p u : ℕ) → StandsAt list v (First q p) → HasEdge arena v u → u < vertex_count arena →
      (y : ℕ) × StandsAt others u (Second q y) × IsFirstLetter board y
  basis_vertex v q p u at_list edge below =
      let at : StandsAt others v (First q p) = numbers v (First q p) at_list in
      let here : ArenaVertex v (First q p) = vertex_of v (First q p) at in
      let (key, at_u) = key_of u below in
      let mapped : Contains (map (λ z. Second q z) (bases q)) key =
      subst (λ (ks : List Key). Contains ks key) here.leads_to (key_to v u (First q p) key here at_u edge) in
      let (y, listed, is_key) = from_map (λ z. Second q z) (bases q) 0 key mapped in (
        y,
        subst (λ (k : Key). StandsAt others u k) is_key at_u,
        (in_basis_is_class board bases mover keys others game arena is of q p y (in_game v q p at) listed).here.0,
      )

  -- ## The winner moves first

  module _ (won : winner_at_start c ≡ mover) where
    abbrev FirstRounds : ℕ → ℕ → Type 0
    FirstRounds q p = ComesTo (IsFirstRound board others c) board.auto.start q p

    abbrev FirstWon : ℕ → ℕ → Type 0
    FirstWon q p = (v : ℕ) × StandsAt others v (First q p) × (winner_of c v ≡ mover)

    first_next : (q p r s : ℕ) → FirstWon q p → IsFirstRound board others c q p r s → FirstWon r s
    first_next q p r s (v, at, wins) round =
        let same : v ≡ round.vertex = once v round.vertex (First q p) at round.stands in
        let wins_here : winner_of c round.vertex ≡ mover = subst (λ (x : ℕ). winner_of c x ≡ mover) same wins in
        let here : ArenaVertex round.vertex (First q p) = vertex_of round.vertex (First q p) round.stands in
        let edge : HasEdge arena round.vertex round.chosen =
        choice_edge round.vertex round.chosen here.below (here.owner ∙ sym wins_here) round.choice in
        let wins_there : winner_of c round.chosen ≡ mover =
        passes round.vertex round.chosen edge (λ own. round.choice) ∙ wins_here in
        let there : ArenaVertex round.chosen (Second q round.letter) =
        vertex_of round.chosen (Second q round.letter) round.target in
        let (w, next, at_w) = next_of round.chosen (Second q round.letter) (First r s) there
        (reached_key board q round.letter r s there.next there.leads_to round.reached) in (
          w,
          at_w,
          passes round.chosen w next (λ own. absurd (not_mover (sym there.owner ∙ own ∙ wins_there))) ∙ wins_there,
        )

    first_came : (q p : ℕ) → FirstRounds q p → FirstWon q p
    first_came q p at_start = (0, of.by_keys.begins, won)
    first_came r s (after {q} {p = o} before round) = first_next q o r s (first_came q o before) round

    pub first_listed : (q p : ℕ) → FirstRounds q p → Contains list (First q p)
    first_listed q p comes =
        let (v, at, wins) = first_came q p comes in in_list q p (stands_in others v (First q p) at)

    pub first_move : (order : ℕ → List ℕ) (v q p : ℕ) → FirstRounds q p → StandsAt list v (First q p) →
        (letter : ℕ) × IsFirstMove
        (record { board = board; mover = mover; others = others; certificate = c; order = order; keys = list }) v q
        letter
    first_move order v q p comes at_list =
        let at : StandsAt others v (First q p) = numbers v (First q p) at_list in
        let (w, there, wins_w) = first_came q p comes in
        let same : w ≡ v = once w v (First q p) there at in
        let wins : winner_of c v ≡ mover = subst (λ (x : ℕ). winner_of c x ≡ mover) same wins_w in
        let here : ArenaVertex v (First q p) = vertex_of v (First q p) at in
        let (u, choice, edge) = some_of (choice_of c v) (HasEdge arena v)
        ((valid.closed.moves v here.below).own (here.owner ∙ sym wins)) in
        let (y, at_u, is_letter) = basis_vertex v q p u at_list edge (below_choice v u here.below choice) in
        (y, record { chosen = u; choice = choice; target = at_u; is_letter = is_letter })

  -- ## The winner moves second

  -- a move from a successor of a vertex of the first player
  pub second_move : (order : ℕ → List ℕ) (v q p u chosen : ℕ) → StandsAt list v (First q p) →
      Contains (successors_of arena v) u → choice_of c u ≡ Some chosen → u < vertex_count arena → IsSecondMove
      (record { board = board; mover = mover; others = others; certificate = c; order = order; keys = list }) u q chosen
  second_move order v q p u chosen at_list next choice below =
      let here : ArenaVertex v (First q p) = vertex_of v (First q p) (numbers v (First q p) at_list) in
      let (y, at_u, is_letter) = basis_vertex v q p u at_list (here.below, next) below in
      let there : ArenaVertex u (Second q y) = vertex_of u (Second q y) at_u in
      let own : owner_of arena u ≡ winner_of c u = own_choice u chosen there.below choice in
      let edge : HasEdge arena u chosen = choice_edge u chosen there.below own choice in
      let (key, at) = key_of chosen (below_choice u chosen there.below choice) in
      let reached : ReachedAt board q y key = key_reached board q y there.next key there.leads_to
      (key_to u chosen (Second q y) key there at edge) in
      let target : StandsAt others chosen (First reached.state reached.priority) =
      subst (λ (k : Key). StandsAt others chosen k) reached.is_key at in
      record {
        letter = y;
        stands = at_u;
        is_letter = is_letter;
        state = reached.state;
        priority = reached.priority;
        target = target;
        reached = reached.reached;
        behind = λ x goes. record {
          letter = y;
          stands = at_u;
          won = sym own ∙ there.owner;
          chosen = chosen;
          choice = choice;
          state = reached.state;
          priority = reached.priority;
          target = target;
          reached = goes;
        };
      }

  module _ (order : ℕ → List ℕ) (lost : winner_at_start c ≡ 1 - mover) where
    abbrev SecondRounds : ℕ → ℕ → Type 0
    SecondRounds q p = ComesTo (IsSecondRound board mover others c order) board.auto.start q p

    abbrev SecondWon : ℕ → ℕ → Type 0
    SecondWon q p = (v : ℕ) × StandsAt others v (First q p) × (winner_of c v ≡ 1 - mover)

    moved : (q x u : ℕ) → (moves : MovesBehind board mover others c q x u) → SecondWon moves.state moves.priority
    moved q x u moves =
        let here : ArenaVertex u (Second q moves.letter) = vertex_of u (Second q moves.letter) moves.stands in
        let edge : HasEdge arena u moves.chosen =
        choice_edge u moves.chosen here.below (here.owner ∙ sym moves.won) moves.choice in (
          moves.chosen,
          moves.target,
          passes u moves.chosen edge (λ own. moves.choice) ∙ moves.won,
        )

    second_came : (q p : ℕ) → SecondRounds q p → SecondWon q p
    second_came q p at_start = (0, of.by_keys.begins, lost)
    second_came r s (after {q} {p = o} before round) =
        let at_state : SecondWon r round.first.here.priority =
        subst (λ (x : ℕ). SecondWon x round.first.here.priority) round.state
        (moved q round.letter round.guide round.first.here) in
        subst (λ (x : ℕ). SecondWon r x) round.priority at_state

    pub second_listed : (q p : ℕ) → SecondRounds q p → Contains list (First q p)
    second_listed q p comes =
        let (v, at, wins) = second_came q p comes in in_list q p (stands_in others v (First q p) at)

    pub second_can_move : (tried : (v q p : ℕ) → StandsAt list v (First q p) → successors_of arena v ≡ order q) →
        (q p x : ℕ) → SecondRounds q p → IsFirstLetter board x → CanMove
        (record { board = board; mover = mover; others = others; certificate = c; order = order; keys = list }) q x
    second_can_move tried q p x comes first =
        let (v, at, wins) = second_came q p comes in
        let here : ArenaVertex v (First q p) = vertex_of v (First q p) at in
        let (b, below) = (of.are_bases q p (in_game v q p at)).below_each x first in
        let inside : Contains here.next (Second q b) =
        subst (λ (ks : List Key). Contains ks (Second q b)) (sym here.leads_to)
        (in_map (λ z. Second q z) (bases q) b below.listed) in
        let (u, edge, at_u) = next_of v (First q p) (Second q b) here inside in
        let (w, at_list) = stands_there list (First q p) (in_list q p (stands_in others v (First q p) at)) in
        let same : w ≡ v = once w v (First q p) (numbers w (First q p) at_list) at in
        let there : ArenaVertex u (Second q b) = vertex_of u (Second q b) at_u in
        let wins_u : winner_of c u ≡ 1 - mover =
        passes v u edge (λ own. absurd (not_mover (sym wins ∙ sym own ∙ here.owner))) ∙ wins in
        let (chosen, choice, goes) = some_of (choice_of c u) (HasEdge arena u)
        ((valid.closed.moves u there.below).own (there.owner ∙ sym wins_u)) in
        let next : Contains (successors_of arena w) u =
        subst (λ (a : ℕ). Contains (successors_of arena a) u) (sym same) edge.1 in
        let move = second_move order w q p u chosen at_list next choice there.below in
        let letter_is : move.letter ≡ b = second_letter_same (same_some (sym move.stands ∙ at_u)) in
        let reached : CanGoTo board q b move.state move.priority =
        subst (λ (a : ℕ). CanGoTo board q a move.state move.priority) letter_is move.reached in
        record {
          vertex = u;
          tried = subst (λ (us : List ℕ). Contains us u) (tried w q p at_list) next;
          moves = move.behind x (below.no_more move.state move.priority reached);
        }
