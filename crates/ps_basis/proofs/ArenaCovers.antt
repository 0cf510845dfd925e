-- Each vertex of the second player in the game may be replaced by a vertex of the arena that leads nowhere else, as its
-- letter is above a letter of the basis.
-- - `next_less`: if the second player reaches no more behind one letter than behind another, the vertex of the first
--   letter leads nowhere but where the vertex of the other leads
-- - `arena_covered`: the condition `IsCovered`
-- - `arena_there`, `lift_of_arena`: the laws
use Rattle.std.specs.Prelude.{◌≡◌, ◌≢◌, ℕ, zero, suc, ◌+◌, ◌<◌, List, length, map}
use Rattle.std.specs.List.{Contains, range_with_len}
use Rattle.std.proofs.Common.{sym, ◌∙◌, subst, ap₂, refl, inl, inr, arith}
use Rattle.std.proofs.lemmas.List.FromFn.{get_or-range_with_len, length-range_with_len}
use Rattle.std.proofs.lemmas.Option.{get_or_from_slice_get, slice_get_within}
use Rattle.ps_game.specs.Games.{ParityGame, IsGame, vertex_count, owner_of, successors_of, HasEdge}
use Rattle.ps_machine.specs.Boards.{Board, IsClassLetter, IsSecondLetter, IsGameOf}
use Rattle.ps_machine.specs.Boards.{LeadsTo}
use Rattle.ps_machine.specs.Numbering.{StandsAt}
use Rattle.ps_machine.specs.declared.key.Key.{Key}
use Rattle.ps_machine.specs.declared.key.Key.TheVariants.{First, Second}
use Rattle.ps_machine.proofs.AutomatonGames.DecidedMoves.{move_there}
use Rattle.ps_machine.proofs.AutomatonGames.GameKeys.GameSound.{board_game_is_game}
use Rattle.ps_machine.proofs.AutomatonGames.GameKeys.Standing.{same_some, no_second}
use Rattle.ps_certificate.specs.Certificates.{CertificateData, Fits, IsValid}
use Rattle.ps_pruning.specs.Lifting.{Pruning, IsCovered, IsKeptAs, IsGuide, MayReplace, CoversVertex}
use Rattle.ps_pruning.specs.Lifting.{AreCandidates, Serves}
use Rattle.ps_pruning.proofs.Guiding.{guide_there}
use Rattle.ps_pruning.proofs.LiftEntries.{lift_there}
use Rattle.ps_pruning.proofs.Lifted.{lift_fits, lift_is_valid, kept_winner, first_entry}
use Rattle.ps_basis.specs.Arenas.{IsArenaOf, IsArenaPruning, IsLiftOfArena, LeadsWithin, AreSameKeys, pruning_to}
use Rattle.ps_basis.specs.Arenas.{AreOrders, candidates_at, candidates_of}
use Rattle.ps_basis.specs.Bases.{IsBasis, IsBelowLetter, CanGoTo, ReachesNoMore}
use Rattle.ps_basis.proofs.ArenaKeys.{Vertex, key_at, edge_key, key_edge, next_vertex, stands_in, stands_there, in_map}
use Rattle.ps_basis.proofs.ArenaKeys.{from_map, entered_from}
use Rattle.ps_basis.proofs.ArenaEdges.{Behind, in_game, in_arena, first_leads, first_letter}
use Rattle.ps_basis.proofs.ArenaEdges.{behind_first, behind_second}
use Rattle.ps_basis.proofs.ArenaEdges.{kept_there, kept_by_key, arena_pruning}

-- the keys behind a letter are those of the steps that the second player can make
next_less : (board : Board) (q x c : ℕ) (one other : List Key) → ReachesNoMore board q x c →
    LeadsTo board (Second q x) one → LeadsTo board (Second q c) other → (key : Key) → Contains one key →
    Contains other key
next_less board q x c one other no_more (letters, list, is) (others, also, is_other) key inside =
    let goes : ℕ → Key = λ y. First (board.auto.next q (x + y)) (board.auto.priority q (x + y)) in
    let mapped : Contains (map goes letters) key = subst (λ (keys : List Key). Contains keys key) is inside in
    let (y, listed, same) = from_map goes letters 0 key mapped in
    let second : IsSecondLetter board y = at_place y listed in
    let reached : CanGoTo board q c (board.auto.next q (x + y)) (board.auto.priority q (x + y)) =
    no_more (board.auto.next q (x + y)) (board.auto.priority q (x + y))
    (record { letter = y; is_letter = second; state = refl; priority = refl }) in
    let (z, is_move, step) = move_there board {q = q} c reached.is_letter in
    let there : Contains (map other_goes others) (other_goes z) =
    in_map other_goes others z (also.complete z is_move) in
    let key_is : other_goes z ≡ key = ap₂ (λ (r s : ℕ). First r s) (step.state ∙ reached.state)
    (step.priority ∙ reached.priority) ∙ sym same in
    subst (λ (keys : List Key). Contains keys key) (sym is_other)
    (subst (λ (k : Key). Contains (map other_goes others) k) key_is there)
  where
    other_goes : ℕ → Key
    other_goes y = First (board.auto.next q (c + y)) (board.auto.priority q (c + y))

    at_place : (y : ℕ) → Contains letters y → IsSecondLetter board y
    at_place y (k, within, same) = subst (λ (z : ℕ). IsSecondLetter board z) same ((list.each k y within).here.0)

module _ (board : Board) (bases : ℕ → List ℕ) (mover : ℕ) (keys others : List Key) (game arena : ParityGame)
    (is : IsGameOf board mover keys game) (of : IsArenaOf board bases mover keys others arena) (small : mover < 2)
    (well : IsGame game) (kept : List ℕ) (are : AreSameKeys keys others kept) where
  abbrev start : Key
  start = First board.auto.start 0

  abbrev pub pruning : Pruning
  pruning = pruning_to mover game kept arena

  abbrev GameVertex : ℕ → Key → Type 0
  GameVertex v key = Vertex (LeadsTo board) mover keys game v key

  vertex_of : (v : ℕ) (key : Key) → StandsAt keys v key → GameVertex v key
  vertex_of v key at = in_game board bases mover keys others game arena is of v key at

  edge_to : (v w : ℕ) (key to : Key) (here : GameVertex v key) → StandsAt keys w to → Contains here.next to →
      HasEdge game v w
  edge_to v w key to here at inside =
      key_edge (LeadsTo board) mover start keys game is.by_keys v w key to here at inside

  key_to : (v w : ℕ) (key to : Key) (here : GameVertex v key) → StandsAt keys w to → HasEdge game v w →
      Contains here.next to
  key_to v w key to here at edge = edge_key (LeadsTo board) mover start keys game is.by_keys v w key to here at edge

  -- a vertex of the second player, and a vertex that has an edge to it
  record Entered (q c : ℕ) : Type 0 where
    priority : ℕ
    from : ℕ
    at : StandsAt keys from (First q priority)
    is_class : IsClassLetter board q c

  entered_at : (u v q c : ℕ) (from : Key) → StandsAt keys u from → StandsAt keys v (Second q c) → HasEdge game u v →
      Entered q c
  entered_at u v q c (First r p) at_u at_v edge =
      let here : GameVertex u (First r p) = vertex_of u (First r p) at_u in
      let (same, is_class) = first_letter board bases mover keys others game arena is of u r p here q c
      (key_to u v (First r p) (Second q c) here at_v edge) in
      record {
        priority = p;
        from = u;
        at = subst (λ (z : ℕ). StandsAt keys u (First z p)) same at_u;
        is_class = subst (λ (z : ℕ). IsClassLetter board z c) same is_class;
      }
  entered_at u v q c (Second r d) at_u at_v edge =
      let here : GameVertex u (Second r d) = vertex_of u (Second r d) at_u in
      let (t, s, is_key) = behind_second board bases mover keys others game arena is of u r d here (Second q c)
      (key_to u v (Second r d) (Second q c) here at_v edge) in
      absurd (no_second (sym is_key))

  entered : (v q c : ℕ) → StandsAt keys v (Second q c) → Entered q c
  entered zero q c at = absurd (no_second (same_some (sym is.by_keys.begins ∙ at)))
  entered (suc v) q c at =
      let below : suc v < vertex_count game = (vertex_of (suc v) (Second q c) at).below in
      let (u, edge) = entered_from game (suc v) is.numbered (omega arith) below in
      let (from, at_u) = key_at (LeadsTo board) mover start keys game is.by_keys u edge.0 in
      entered_at u (suc v) q c from at_u at edge

  -- the vertex w of the letter x may replace the vertex v of the letter c
  pub replaces : (v w q c x : ℕ) → StandsAt keys v (Second q c) → StandsAt keys w (Second q x) →
      IsClassLetter board q x →
      MayReplace pruning v w
  replaces v w q c x at_v at_w is_class = record {
    owner = (vertex_of w (Second q x) at_w).owner ∙ sym ((vertex_of v (Second q c) at_v).owner);
    priority = (vertex_of w (Second q x) at_w).priority ∙ sym ((vertex_of v (Second q c) at_v).priority);
    entered = enters;
  }
    where
      from_key : (u : ℕ) (from : Key) → StandsAt keys u from → HasEdge game u v → HasEdge game u w
      from_key u (First r p) at_u edge =
          let here : GameVertex u (First r p) = vertex_of u (First r p) at_u in
          let (same, is_letter) = first_letter board bases mover keys others game arena is of u r p here q c
          (key_to u v (First r p) (Second q c) here at_v edge) in
          let letter : IsClassLetter board r x = subst (λ (z : ℕ). IsClassLetter board z x) (sym same) is_class in
          let there : StandsAt keys w (Second r x) =
          subst (λ (z : ℕ). StandsAt keys w (Second z x)) (sym same) at_w in
          edge_to u w (First r p) (Second r x) here there
          (first_leads board bases mover keys others game arena is of u r p here x letter)
      from_key u (Second r d) at_u edge =
          let here : GameVertex u (Second r d) = vertex_of u (Second r d) at_u in
          let (t, s, is_key) = behind_second board bases mover keys others game arena is of u r d here (Second q c)
          (key_to u v (Second r d) (Second q c) here at_v edge) in
          absurd (no_second (sym is_key))

      enters : (u : ℕ) → HasEdge game u v → HasEdge game u w
      enters u edge =
          let (from, at_u) = key_at (LeadsTo board) mover start keys game is.by_keys u edge.0 in
          from_key u from at_u edge

  leads_less : (v w q c x : ℕ) → StandsAt keys v (Second q c) → StandsAt keys w (Second q x) →
      ReachesNoMore board q x c → (t : ℕ) → Contains (successors_of game w) t → Contains (successors_of game v) t
  leads_less v w q c x at_v at_w no_more t inside =
      let to_v : GameVertex v (Second q c) = vertex_of v (Second q c) at_v in
      let to_w : GameVertex w (Second q x) = vertex_of w (Second q x) at_w in
      let edge : HasEdge game w t = (to_w.below, inside) in
      let (key, at_t) = key_at (LeadsTo board) mover start keys game is.by_keys t (well.within w t edge) in
      (edge_to v t (Second q c) key to_v at_t (next_less board q x c to_w.next to_v.next no_more to_w.leads_to
      to_v.leads_to key (key_to w t (Second q x) key to_w at_t edge))).1

  -- a letter of the basis has a vertex in the arena, which covers v
  cover_of : (v q c x : ℕ) → StandsAt keys v (Second q c) → Entered q c → IsBelowLetter board q (bases q) x c →
      (u : ℕ) × CoversVertex pruning v u
  cover_of v q c x at_v from below =
      let (u, at_u) = stands_there others (First q from.priority)
      (of.firsts q from.priority (stands_in keys from.from (First q from.priority) from.at)) in
      let there : Vertex (LeadsWithin bases board) mover others arena u (First q from.priority) =
      in_arena board bases mover keys others game arena is of u (First q from.priority) at_u in
      let next : Contains there.next (Second q x) = subst (λ (ks : List Key). Contains ks (Second q x))
      (sym there.leads_to) (in_map (λ z. Second q z) (bases q) x below.listed) in
      let (b, edge, at_b) = next_vertex (LeadsWithin bases board) mover start others arena of.by_keys u
      (First q from.priority) (Second q x) there next in
      let (w, at_w) = stands_there keys (Second q x) (of.within (Second q x) (stands_in others b (Second q x) at_b)) in
      let is_class : IsClassLetter board q x = class_of x below.listed in (
        b,
        record {
          vertex = w;
          is_kept = kept_by_key board bases mover keys others game arena is of small well kept are b w (Second q x) at_b
              at_w;
          replaces = replaces v w q c x at_v at_w is_class;
          less = leads_less v w q c x at_v at_w below.no_more;
        },
      )
    where
      basis : IsBasis board q (bases q)
      basis = of.are_bases q from.priority (stands_in keys from.from (First q from.priority) from.at)

      class_of : (y : ℕ) → Contains (bases q) y → IsClassLetter board q y
      class_of y (k, within, same) = subst (λ (z : ℕ). IsClassLetter board q z) same (basis.each k y within)

  covered_at : (v : ℕ) (key : Key) → StandsAt keys v key → owner_of game v ≢ mover → (u : ℕ) × CoversVertex pruning v u
  covered_at v (First q p) at turn = absurd (turn ((vertex_of v (First q p) at).owner))
  covered_at v (Second q c) at turn =
      let from : Entered q c = entered v q c at in
      let basis : IsBasis board q (bases q) =
      of.are_bases q from.priority (stands_in keys from.from (First q from.priority) from.at) in
      let (x, below) = basis.below_each c from.is_class.here.0 in
      cover_of v q c x at from below

  pub arena_covered : IsCovered pruning
  arena_covered v below turn =
      let (key, at) = key_at (LeadsTo board) mover start keys game is.by_keys v below in covered_at v key at turn

  -- ## Candidates

  -- the vertex u of the arena, which serves the vertex v of the letter c, has the same state
  pub server_state : (certificate : CertificateData) (v u q c : ℕ) → StandsAt keys v (Second q c) →
      Serves pruning certificate v u → (x : ℕ) × StandsAt others u (Second q x)
  server_state certificate v u q c at (inl kept_as) =
      let same = are.same u v kept_as in
      (c, subst (λ (k : Key). StandsAt others u k) (same_some (sym same.in_game ∙ at)) same.in_arena)
  server_state certificate v u q c at (inr guides) =
      let from : Entered q c = entered v q c at in
      let here : GameVertex from.from (First q from.priority) = vertex_of from.from (First q from.priority) from.at in
      let edge : HasEdge game from.from v = edge_to from.from v (First q from.priority) (Second q c) here at
      (first_leads board bases mover keys others game arena is of from.from q from.priority here c from.is_class) in
      let same = are.same u guides.vertex guides.is_kept in
      by_key same.key from.priority same.in_arena
      (behind_first board bases mover keys others game arena is of from.from q from.priority
      here same.key (key_to from.from guides.vertex (First q from.priority) same.key here same.in_game
      (guides.replaces.entered from.from edge)))
    where
      by_key : (key : Key) (o : ℕ) → StandsAt others u key →
          Behind board bases mover keys others game arena is of key q o → (x : ℕ) × StandsAt others u (Second q x)
      by_key key o stands behind = (behind.letter, subst (λ (k : Key). StandsAt others u k) behind.is_key stands)

  pub candidates_there : (certificate : CertificateData) (order : ℕ → List ℕ) → AreOrders others order →
      AreCandidates pruning certificate (candidates_of keys others order)
  candidates_there certificate order orders v u below serves =
      let (key, at) = key_at (LeadsTo board) mover start keys game is.by_keys v below in
      subst (λ (k : Key). Contains (candidates_at order (length others) k) u)
      (sym (get_or_from_slice_get keys v key (First 0 0) at)) (by_key key at)
    where
      server_within : Serves pruning certificate v u → u < length others
      server_within (inl kept_as) = slice_get_within others u (are.same u v kept_as).key (are.same u v kept_as).in_arena
      server_within (inr guides) = slice_get_within others u (are.same u guides.vertex guides.is_kept).key
          (are.same u guides.vertex guides.is_kept).in_arena

      by_key : (key : Key) → StandsAt keys v key → Contains (candidates_at order (length others) key) u
      by_key (First q p) at =
          let inside : u < length (range_with_len 0 (length others)) =
          omega (arith, server_within serves, length-range_with_len 0 (length others)) in
          (u, inside, get_or-range_with_len 0 (length others) u u (server_within serves) ∙ omega arith)
      by_key (Second q c) at =
          let (x, there) = server_state certificate v u q c at serves in orders u q x there

module _ (board : Board) (bases : ℕ → List ℕ) (mover : ℕ) (keys others : List Key) (game arena : ParityGame)
    (small : mover < 2) (is : IsGameOf board mover keys game) (of : IsArenaOf board bases mover keys others arena) where
  well : IsGame game
  well = board_game_is_game board mover keys game small is

  pub arena_there : (kept : List ℕ) × IsArenaPruning mover keys others game arena kept
  arena_there = with_kept (kept_there board bases mover keys others game arena is of)
    where
      with_kept : (kept : List ℕ) × AreSameKeys keys others kept →
          (kept : List ℕ) × IsArenaPruning mover keys others game arena kept
      with_kept (kept, are) = (
        kept,
        record {
          same_keys = are;
          is_pruning = arena_pruning board bases mover keys others game arena is of small well kept are;
          is_covered = arena_covered board bases mover keys others game arena is of small well kept are;
        },
      )

  pub lift_of_arena : (certificate : CertificateData) → Fits arena certificate → IsValid arena certificate →
      (order : ℕ → List ℕ) → AreOrders others order →
      (lifted : CertificateData) × IsLiftOfArena mover keys others order game arena certificate lifted
  lift_of_arena certificate fits valid order orders = with_kept arena_there
    where
      with_kept : (kept : List ℕ) × IsArenaPruning mover keys others game arena kept →
          (lifted : CertificateData) × IsLiftOfArena mover keys others order game arena certificate lifted
      with_kept (kept, pruning_is) =
          let p : Pruning = pruning_to mover game kept arena in
          let (guide, by_order) = guide_there p certificate (candidates_of keys others order)
          (candidates_there board bases mover keys others game arena is of small well kept pruning_is.same_keys
          certificate order orders) in
          let guides : IsGuide p certificate guide = by_order.is_guide in
          let (lifted, lift) = lift_there p certificate guide pruning_is.is_pruning fits valid guides in
          let by_key : (u v : ℕ) (key : Key) → StandsAt others u key → StandsAt keys v key → IsKeptAs p u v =
          kept_by_key board bases mover keys others game arena is of small well kept pruning_is.same_keys in (
            lifted,
            record {
              kept = kept;
              pruning = pruning_is;
              guide = guide;
              is_guide = by_order;
              is_lift = lift;
              fits =
                  lift_fits p certificate lifted guide pruning_is.is_pruning pruning_is.is_covered fits valid guides
                  lift;
              valid =
                  lift_is_valid p certificate lifted guide pruning_is.is_pruning pruning_is.is_covered fits valid guides
                  lift;
              start = kept_winner p certificate lifted guide pruning_is.is_pruning fits valid guides lift 0 0
                  (by_key 0 0 (First board.auto.start 0) of.by_keys.begins is.by_keys.begins);
              firsts =
                  λ u v q r at_u at_v. first_entry p certificate lifted guide pruning_is.is_pruning fits valid guides
                  lift u v (by_key u v (First q r) at_u at_v)
                  ((in_game board bases mover keys others game arena is of v (First q r) at_v).owner);
            },
          )
