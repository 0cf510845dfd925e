-- The order in which the second player's moves are tried at each state: that of the arena's successors.
-- - `tried_at`: all vertices of a state have the same successors
-- - `are_orders`: each vertex of the second player is tried
-- - `playable`: the play with this order can go on for ever
use Rattle.std.specs.Prelude.{◌≡◌, ◌≢◌, ℕ, zero, suc, ◌+◌, ◌-◌, ◌<◌, ◌==◌, Bool, true, false, List, [], ◌∷◌}
use Rattle.std.specs.Prelude.{length}
use Rattle.std.specs.Prelude.{nat_eq, None, Some}
use Rattle.std.specs.List.{AllZip, Contains}
use Rattle.std.proofs.Common.{sym, ◌∙◌, subst, ap, ap₂, refl, inl, inr, arith}
use Rattle.std.proofs.lemmas.Bool.{cases_eq, eq-eqb, eqb-true, ne_eqb}
use Rattle.ps_diagram.proofs.NodeTables.Cells.{true_is_not_false}
use Rattle.ps_game.specs.Games.{ParityGame, vertex_count, successors_of, HasEdge}
use Rattle.ps_certificate.specs.Certificates.{CertificateData, Fits, IsValid, choice_of}
use Rattle.ps_machine.specs.Boards.{Board, IsGameOf, LeadsTo}
use Rattle.ps_machine.specs.Numbering.{StandsAt}
use Rattle.ps_solver.specs.Solving.{winner_at_start}
use Rattle.ps_machine.specs.declared.key.Key.{Key}
use Rattle.ps_machine.specs.declared.key.Key.TheVariants.{First, Second}
use Rattle.ps_machine.proofs.AutomatonGames.GameKeys.Standing.{same_some, stand-within, no_second}
use Rattle.ps_basis.specs.Arenas.{AreOrders, IsArenaOf, LeadsWithin}
use Rattle.ps_basis.specs.Memories.{Play}
use Rattle.ps_basis.specs.PairOrder.{AreNumberedAlike, IsInOrder}
use Rattle.ps_basis.proofs.ArenaEdges.{Behind, behind_first, behind_second, in_arena, in_game}
use Rattle.ps_basis.proofs.ArenaEdges.{second_state_same}
use Rattle.ps_basis.proofs.ArenaKeys.{Vertex, edge_key, entered_from, index_once, key_at, key_edge, stands_in, in_map}
use Rattle.ps_basis.proofs.ArenaKeys.{stands_there}
use Rattle.ps_basis.proofs.GameOrder.{game_in_order}
use Rattle.ps_basis.proofs.OneOrder.{numbered_alike}
use Rattle.ps_brief.specs.Drawing.{order_by, order_from}
use Rattle.ps_brief.specs.Inner.Playable.{IsPlayable, IsSecondMove}
use Rattle.ps_brief.proofs.DrawnMachines.Playing.{first_listed, first_move, second_can_move, second_listed, second_move}
use Rattle.ps_brief.proofs.DraftedMoves.Drafting.{first_states}

-- vertices of the list with the same state have the same successors
abbrev SameSuccessors : ParityGame → ℕ → List Key → Type 0
SameSuccessors arena v list = (i j q p o : ℕ) → StandsAt list i (First q p) → StandsAt list j (First q o) →
    successors_of arena (v + i) ≡ successors_of arena (v + j)

behind_one : (arena : ParityGame) (v : ℕ) (key : Key) (list : List Key) → SameSuccessors arena v (key ∷ list) →
    SameSuccessors arena (v + 1) list
behind_one arena v key list same i j q p o one other =
    let at_i : v + suc i ≡ v + 1 + i = omega arith in
    let at_j : v + suc j ≡ v + 1 + j = omega arith in
    subst (λ (a : ℕ). successors_of arena a ≡ successors_of arena (v + 1 + j)) at_i
    (subst (λ (b : ℕ). successors_of arena (v + suc i) ≡ successors_of arena b) at_j
    (same (suc i) (suc j) q p o one other))

tried_from : (arena : ParityGame) (v : ℕ) (list : List Key) → SameSuccessors arena v list → (i q p : ℕ) →
    StandsAt list i (First q p) → successors_of arena (v + i) ≡ order_from arena v list q
tried_from arena v [] same i q p at = let gone : None ≡ Some (First q p) = at in absurd (cc gone)
tried_from arena v (First r o ∷ list) same zero q p at =
    let is : First r o ≡ First q p = same_some at in
    let test : nat_eq q r ≡ true = eq-eqb q r (sym (first_states is)) in
    let zero_is : v + 0 ≡ v = omega arith in
    rw test (ap (λ (a : ℕ). successors_of arena a) zero_is)
tried_from arena v (First r o ∷ list) same (suc i) q p at = elim (cases_eq q r) [
  | inl is ↦
      let here : StandsAt (First r o ∷ list) 0 (First q o) = ap (λ (a : ℕ). Some (First a o)) (sym is) in
      let test : nat_eq q r ≡ true = eq-eqb q r is in
      let zero_is : v + 0 ≡ v = omega arith in
      rw test (same (suc i) 0 q p o at here ∙ ap (λ (a : ℕ). successors_of arena a) zero_is)
  | inr differ ↦
      let test : nat_eq q r ≡ false = ne_eqb q r differ in
      let next : v + suc i ≡ v + 1 + i = omega arith in
      rw test (ap (λ (a : ℕ). successors_of arena a) next
      ∙ tried_from arena (v + 1) list (behind_one arena v (First r o) list same) i q p at)
]
tried_from arena v (Second r x ∷ list) same zero q p at = absurd (no_second (sym (same_some at)))
tried_from arena v (Second r x ∷ list) same (suc i) q p at =
    let next : v + suc i ≡ v + 1 + i = omega arith in
    ap (λ (a : ℕ). successors_of arena a) next
    ∙ tried_from arena (v + 1) list (behind_one arena v (Second r x) list same)
    i q p at

-- lists of vertices with the same keys are the same
zip_once : (others : List Key) → ((u v : ℕ) (key : Key) → StandsAt others u key → StandsAt others v key → u ≡ v) →
    (us vs : List ℕ) (next : List Key) → AllZip (StandsAt others) us next → AllZip (StandsAt others) vs next → us ≡ vs
zip_once others once [] [] next one other = refl
zip_once others once [] (v ∷ vs) [] one other = absurd other
zip_once others once [] (v ∷ vs) (key ∷ next) one other = absurd one
zip_once others once (u ∷ us) vs [] one other = absurd one
zip_once others once (u ∷ us) [] (key ∷ next) one other = absurd other
zip_once others once (u ∷ us) (v ∷ vs) (key ∷ next) one other = ap₂ (λ (n : ℕ) (ns : List ℕ). n ∷ ns)
    (once u v key one.0 other.0) (zip_once others once us vs next one.1 other.1)

module _ (board : Board) (bases : ℕ → List ℕ) (mover : ℕ) (keys others list : List Key) (game arena : ParityGame)
    (is : IsGameOf board mover keys game) (of : IsArenaOf board bases mover keys others arena)
    (sorted : IsInOrder board list) (numbers : (v : ℕ) (key : Key) → StandsAt list v key → StandsAt others v key) where
  abbrev first : Key
  first = First board.auto.start 0

  abbrev order : ℕ → List ℕ
  order = order_by list arena

  abbrev ArenaVertex : ℕ → Key → Type 0
  ArenaVertex u key = Vertex (LeadsWithin bases board) mover others arena u key

  vertex_of : (u : ℕ) (key : Key) → StandsAt others u key → ArenaVertex u key
  vertex_of u key at = in_arena board bases mover keys others game arena is of u key at

  same_successors : SameSuccessors arena 0 list
  same_successors i j q p o one other =
      let a : ArenaVertex i (First q p) = vertex_of i (First q p) (numbers i (First q p) one) in
      let b : ArenaVertex j (First q o) = vertex_of j (First q o) (numbers j (First q o) other) in
      let next : a.next ≡ b.next = a.leads_to ∙ sym b.leads_to in
      let i_is : 0 + i ≡ i = omega arith in
      let j_is : 0 + j ≡ j = omega arith in
      ap (λ (v : ℕ). successors_of arena v) i_is
      ∙ zip_once others (λ u v key x y. index_once others key u v of.by_keys.different x y) (successors_of arena i)
      (successors_of arena j) b.next
      (subst (λ (ks : List Key). AllZip (StandsAt others) (successors_of arena i) ks) next
      a.successors) b.successors ∙ ap (λ (v : ℕ). successors_of arena v) (sym j_is)

  pub tried_at : (v q p : ℕ) → StandsAt list v (First q p) → successors_of arena v ≡ order q
  tried_at v q p at =
      let v_is : v ≡ 0 + v = omega arith in
      ap (λ (a : ℕ). successors_of arena a) v_is ∙ tried_from arena 0 list same_successors v q p at

  alike : AreNumberedAlike keys list
  alike = numbered_alike board keys list (game_in_order board mover keys game is) sorted

  -- the state of a vertex of the second player is that of a vertex of the first player
  state_there : (u q x : ℕ) → StandsAt keys u (Second q x) → (p : ℕ) × Contains keys (First q p)
  state_there u q x at =
      let below = (in_game board bases mover keys others game arena is of u (Second q x) at).below in
      let positive : 0 < u = not_first u at in
      let (e, edge) = entered_from game u is.numbered positive below in
      let (key, at_e) = key_at (LeadsTo board) mover first keys game is.by_keys e edge.0 in
      entering e key at_e edge
    where
      not_first : (u : ℕ) → StandsAt keys u (Second q x) → 0 < u
      not_first zero at = absurd (no_second (same_some (sym is.by_keys.begins ∙ at)))
      not_first (suc u) at = omega arith

      entering : (e : ℕ) (key : Key) → StandsAt keys e key → HasEdge game e u → (p : ℕ) × Contains keys (First q p)
      entering e (First r p) at_e edge =
          let here = in_game board bases mover keys others game arena is of e (First r p) at_e in
          let behind : Behind board bases mover keys others game arena is of (Second q x) r p =
          behind_first board bases mover keys others game arena is of e r p here (Second q x)
          (edge_key (LeadsTo board) mover first keys game is.by_keys e u (First r p) (Second q x) here at edge) in
          let state : q ≡ r = second_state_same behind.is_key in
          (p, subst (λ (a : ℕ). Contains keys (First a p)) (sym state) (stands_in keys e (First r p) at_e))
      entering e (Second r y) at_e edge =
          let here = in_game board bases mover keys others game arena is of e (Second r y) at_e in
          let (s, o, gone) = behind_second board bases mover keys others game arena is of e r y here (Second q x)
          (edge_key (LeadsTo board) mover first keys game is.by_keys e u (Second r y) (Second q x) here at edge) in
          absurd (no_second (sym gone))

  pub are_orders : AreOrders others order
  are_orders u q x at =
      let inside : Contains others (Second q x) = stands_in others u (Second q x) at in
      let (w, at_w) = stands_there keys (Second q x) (of.within (Second q x) inside) in
      let (p, first_there) = state_there w q x at_w in
      let (v, at_v) = stands_there list (First q p) ((alike.keys q p).0 first_there) in
      let here : ArenaVertex v (First q p) = vertex_of v (First q p) (numbers v (First q p) at_v) in
      let next : Contains here.next (Second q x) =
      subst (λ (ks : List Key). Contains ks (Second q x)) (sym here.leads_to)
      (in_map (λ z. Second q z) (bases q) x (of.seconds q x inside)) in
      let edge : HasEdge arena v u = key_edge (LeadsWithin bases board) mover first others arena of.by_keys v u
      (First q p) (Second q x) here at next in
      subst (λ (us : List ℕ). Contains us u) (tried_at v q p at_v) edge.1

  next_below : (v q p u : ℕ) → StandsAt list v (First q p) → Contains (successors_of arena v) u →
      u < vertex_count arena
  next_below v q p u at next =
      let here : ArenaVertex v (First q p) = vertex_of v (First q p) (numbers v (First q p) at) in
      let (k, within, same) = next in
      let inside : u < length others = subst (λ (w : ℕ). w < length others) same
      (stand-within others (successors_of arena v) here.next here.successors k u within) in
      subst (λ (n : ℕ). u < n) of.by_keys.count inside

  module _ (c : CertificateData) (small : mover < 2) (fits : Fits arena c) (valid : IsValid arena c) where
    abbrev pub play : Play
    play =
        record { board = board; mover = mover; others = others; certificate = c; order = order; keys = list }

    second_turn : winner_at_start c ≢ mover → winner_at_start c ≡ 1 - mover
    second_turn lost =
        other (winner_at_start c) mover (fits.winners 0 (vertex_of 0 first of.by_keys.begins).below) small
        lost
      where
        other : (a m : ℕ) → a < 2 → m < 2 → a ≢ m → a ≡ 1 - m
        other a m a_below m_below differ = omega arith

    second_is : (v q p u chosen : ℕ) → StandsAt list v (First q p) → Contains (successors_of arena v) u →
        choice_of c u ≡ Some chosen → IsSecondMove play u q chosen
    second_is v q p u chosen at next choice =
        second_move board bases mover keys others list game arena c small is of fits valid sorted numbers order v q p u
        chosen at next choice (next_below v q p u at next)

    pub playable : (b : Bool) → b ≡ (mover == winner_at_start c) → IsPlayable play b arena
    playable true turn =
        let won : winner_at_start c ≡ mover = sym (eqb-true mover (winner_at_start c) (sym turn)) in
        record {
          turn = turn;
          begins = sorted.begins;
          different = sorted.different;
          numbers = numbers;
          once = of.by_keys.different;
          count = of.by_keys.count;
          closed = sorted.closed;
          entries = fits.entry_each;
          listed = first_listed board bases mover keys others list game arena c small is of fits valid sorted numbers
              won;
          first = λ _ v q p. first_move board bases mover keys others list game arena c small is of fits valid sorted
              numbers won order v q p;
          next = next_below;
          tried = tried_at;
          second = λ not. absurd (true_is_not_false not);
          can_move = λ not. absurd (true_is_not_false not);
        }
    playable false turn =
        let lost : winner_at_start c ≡ 1 - mover = second_turn (λ same. let both : false ≡ true = turn
        ∙ eq-eqb mover (winner_at_start c) (sym same) in true_is_not_false (sym both)) in
        record {
          turn = turn;
          begins = sorted.begins;
          different = sorted.different;
          numbers = numbers;
          once = of.by_keys.different;
          count = of.by_keys.count;
          closed = sorted.closed;
          entries = fits.entry_each;
          listed = second_listed board bases mover keys others list game arena c small is of fits valid sorted numbers
              order lost;
          first = λ not. absurd (true_is_not_false (sym not));
          next = next_below;
          tried = tried_at;
          second = λ _. second_is;
          can_move = λ _. second_can_move board bases mover keys others list game arena c small is of fits valid sorted
              numbers order lost tried_at;
        }
