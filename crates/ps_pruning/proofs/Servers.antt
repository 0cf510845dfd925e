-- Which vertices of the pruned game serve a vertex of the game, for a valid certificate of the pruned game.
-- - `move_of`: the move of a vertex of the pruned game whose winner owns it
-- - `lost_has_no_guide`: a kept vertex that the second mover loses has no guide
-- - `server_winner`: whatever serves a kept vertex has its winner
-- - `edge_served`: an edge of the game that remains by the entry of a vertex that serves its source stands for an edge
--   that remains in the pruned game, to a vertex that serves its target
use Rattle.std.specs.Prelude.{◌≡◌, ◌≢◌, ℕ, ◌<◌, ◌⊎◌, Option, None, Some, IfSome, IsSomeAnd, slice_index}
use Rattle.std.specs.Option.{option_map}
use Rattle.std.proofs.Common.{sym, ◌∙◌, subst, ap, refl, inl, inr, arith}
use Rattle.std.proofs.lemmas.Bool.{cases_eq}
use Rattle.ps_game.specs.Games.{vertex_count, owner_of, priority_of, HasEdge}
use Rattle.ps_certificate.specs.Certificates.{CertificateData, Fits, IsValid, Remains, winner_of, choice_of}
use Rattle.ps_pruning.specs.Lifting.{Pruning, IsPruning, IsCovered, IsKeptAs, CoversVertex, Guides, Serves, IsGuide}
use Rattle.ps_certificate.proofs.FlawsAndValidity.SuccessorEdges.{IsSomeAnd-at}
use Rattle.ps_pruning.proofs.KeptVertices.{kept_below, kept_there, first_kept, kept_once, edge_in, edge_out}

-- the vertex u of the pruned game has the move x
pub record Moves (p : Pruning) (c : CertificateData) (u x : ℕ) : Type 0 where
  pub choice : choice_of c u ≡ Some x
  pub edge : HasEdge p.pruned u x
  pub below : x < vertex_count p.pruned

-- the edge from v to w remains by the entry of u
pub record RemainsBy (p : Pruning) (c : CertificateData) (u v w : ℕ) : Type 0 where
  pub edge : HasEdge p.game v w
  pub chosen : owner_of p.game v ≡ winner_of c u →
      option_map (λ x. slice_index p.kept x) (choice_of c u) ≡ Some w

-- the vertex y is given by the guide for w, and the edge from u to y remains in the pruned game
pub record Follows (p : Pruning) (c : CertificateData) (guide : ℕ → Option ℕ) (u w y : ℕ) : Type 0 where
  pub given : guide w ≡ Some y
  pub serves : Serves p c w y
  pub remains : Remains p.pruned c u y

module _ (p : Pruning) (c : CertificateData) (is : IsPruning p) (fits : Fits p.pruned c) (valid : IsValid p.pruned c)
  where
    pub move_of : (u : ℕ) → u < vertex_count p.pruned → owner_of p.pruned u ≡ winner_of c u →
        (x : ℕ) × Moves p c u x
    move_of u below own = at_choice (choice_of c u) refl ((valid.closed.moves u below).own own) (fits.choices u below)
      where
        at_choice : (o : Option ℕ) → choice_of c u ≡ o → IsSomeAnd (choice_of c u) (HasEdge p.pruned u) →
            IfSome (choice_of c u) (λ w. w < vertex_count p.pruned) → (x : ℕ) × Moves p c u x
        at_choice None is_none right inside = absurd (rw is_none at right)
        at_choice (Some x) is_some right inside =
            (x, record { choice = is_some; edge = rw is_some at right; below = rw is_some at inside })

    pub lost_edge : (u x : ℕ) → owner_of p.pruned u ≢ winner_of c u → HasEdge p.pruned u x → Remains p.pruned c u x
    lost_edge u x lost edge = record { edge = edge; chosen = λ own. absurd (lost own) }

    own_edge : (u x : ℕ) → Moves p c u x → Remains p.pruned c u x
    own_edge u x moves = record { edge = moves.edge; chosen = λ _. moves.choice }

    pub first_server : (v u : ℕ) → owner_of p.game v ≡ p.mover → Serves p c v u → IsKeptAs p u v
    first_server v u first (inl at) = at
    first_server v u first (inr guides) = absurd (guides.turn first)

    pub server_owner : (v u : ℕ) → Serves p c v u → owner_of p.pruned u ≡ owner_of p.game v
    server_owner v u (inl at) = is.owners u v at
    server_owner v u (inr guides) = is.owners u guides.vertex guides.is_kept ∙ guides.replaces.owner

    pub server_priority : (v u : ℕ) → Serves p c v u → priority_of p.pruned u ≡ priority_of p.game v
    server_priority v u (inl at) = is.priorities u v at
    server_priority v u (inr guides) = is.priorities u guides.vertex guides.is_kept ∙ guides.replaces.priority

    pub server_below : (v u : ℕ) → Serves p c v u → u < vertex_count p.pruned
    server_below v u (inl at) = kept_below p is u v at
    server_below v u (inr guides) = kept_below p is u guides.vertex guides.is_kept

    guide_owner : (v u : ℕ) → Guides p c v u → owner_of p.pruned u ≡ winner_of c u
    guide_owner v u guides = is.owners u guides.vertex guides.is_kept ∙ guides.replaces.owner ∙ sym guides.won

    guided_winner : (v u : ℕ) → (guides : Guides p c v u) → winner_of c guides.chosen ≡ owner_of p.game v
    guided_winner v u guides = at_move (move_of u (kept_below p is u guides.vertex guides.is_kept)
        (guide_owner v u guides))
      where
        at_move : (x : ℕ) × Moves p c u x → winner_of c guides.chosen ≡ owner_of p.game v
        at_move (x, moves) =
            let same : x ≡ guides.chosen = grind (arith, moves.choice, guides.choice) in
            ap (λ (y : ℕ). winner_of c y) (sym same) ∙ valid.closed.stays u x (own_edge u x moves) ∙ guides.won

    pub lost_has_no_guide : (w x y : ℕ) → IsKeptAs p x w → winner_of c x ≢ owner_of p.game w → ¬ Guides p c w y
    lost_has_no_guide w x y at lost guides =
        let edge : HasEdge p.pruned x guides.chosen = edge_in p is x w guides.chosen guides.target at guides.is_target
        guides.edge in
        let other : owner_of p.pruned x ≢ winner_of c x = λ own. lost (sym own ∙ is.owners x w at) in
        lost (sym (valid.closed.stays x guides.chosen (lost_edge x guides.chosen other edge)) ∙
        guided_winner w y guides)

    pub server_winner : (v u y : ℕ) → IsKeptAs p u v → Serves p c v y → winner_of c y ≡ winner_of c u
    server_winner v u y at (inl other) = ap (λ (x : ℕ). winner_of c x) (kept_once p is y u v other at)
    server_winner v u y at (inr guides) = elim (cases_eq (winner_of c u) (owner_of p.game v)) [
      | inl same ↦ guides.won ∙ sym same
      | inr differ ↦ absurd (lost_has_no_guide v u y at differ guides)
    ]

    -- a move whose place in the game is w is the vertex that is kept as w
    pub choice_back : (u w y : ℕ) → u < vertex_count p.pruned → IsKeptAs p y w →
        option_map (λ x. slice_index p.kept x) (choice_of c u) ≡ Some w → choice_of c u ≡ Some y
    choice_back u w y below at mapped = at_choice (choice_of c u) refl
      where
        at_choice : (o : Option ℕ) → choice_of c u ≡ o → choice_of c u ≡ Some y
        at_choice None is_none = let none : None ≡ Some w = rw is_none at mapped in absurd (cc none)
        at_choice (Some x) is_some =
            let some : Some (slice_index p.kept x) ≡ Some w = rw is_some at mapped in
            let place : slice_index p.kept x ≡ w = grind (arith, some) in
            let inside : x < vertex_count p.pruned = rw is_some at (fits.choices u below) in
            let there : IsKeptAs p x w = subst (λ (v : ℕ). IsKeptAs p x v) place (kept_there p is x inside) in
            is_some ∙ ap (λ (z : ℕ). Some z) (kept_once p is x y w there at)

module _ (p : Pruning) (c : CertificateData) (guide : ℕ → Option ℕ) (is : IsPruning p) (fits : Fits p.pruned c)
    (valid : IsValid p.pruned c) (guides : IsGuide p c guide) where
  pub given_or : (w : ℕ) → (guide w ≡ None) ⊎ ((y : ℕ) × (guide w ≡ Some y))
  given_or w = at_guide (guide w) refl
    where
      at_guide : (o : Option ℕ) → guide w ≡ o → (guide w ≡ None) ⊎ ((y : ℕ) × (guide w ≡ Some y))
      at_guide None is_none = inl is_none
      at_guide (Some y) is_some = inr (y, is_some)

  -- a vertex that something serves is given some vertex that serves it
  pub given_there : (w x : ℕ) → w < vertex_count p.game → Serves p c w x →
      (y : ℕ) × (guide w ≡ Some y) × Serves p c w y
  given_there w x below serves = elim (given_or w) [
    | inl none ↦ absurd (guides.complete w x below none serves)
    | inr (y, given) ↦ (y, given, guides.serves w y below given)
  ]

  -- ## An edge to a vertex of the first mover

  module _ (v u w : ℕ) (serves : Serves p c v u) (by : RemainsBy p c u v w) where
    -- the move of u, if its winner owns v, is the vertex that is kept as w
    chosen_back : (y : ℕ) → IsKeptAs p y w → owner_of p.pruned u ≡ winner_of c u → choice_of c u ≡ Some y
    chosen_back y at own =
        choice_back p c is fits valid u w y (server_below p c is fits valid v u serves) at
        (by.chosen (sym (server_owner p c is fits valid v u serves) ∙ own))

    edge_back : (y : ℕ) → IsKeptAs p y w → HasEdge p.pruned u y
    edge_back y at = elim serves [
      | inl here ↦ edge_in p is u v y w here at by.edge
      | inr guided ↦ by_move (guide_owner p c is fits valid v u guided)
    ]
      where
        by_move : owner_of p.pruned u ≡ winner_of c u → HasEdge p.pruned u y
        by_move own = IsSomeAnd-at (HasEdge p.pruned u) (chosen_back y at own)
            ((valid.closed.moves u (server_below p c is fits valid v u serves)).own own)

    to_first : owner_of p.game w ≡ p.mover → (y : ℕ) × Follows p c guide u w y
    to_first first =
        let below : w < vertex_count p.game = is.is_game.within v w by.edge in
        let (x, at) = first_kept p is w below first in
        let (y, given, serving) = given_there w x below (inl at) in
        let there : IsKeptAs p y w = first_server p c is fits valid w y first serving in (
          y,
          record {
            given = given;
            serves = serving;
            remains = record { edge = edge_back y there; chosen = chosen_back y there };
          },
        )

  -- ## An edge from a vertex of the first mover

  module _ (v u w : ℕ) (at : IsKeptAs p u v) (first : owner_of p.game v ≡ p.mover) (by : RemainsBy p c u v w) where
    target_below : w < vertex_count p.game
    target_below = is.is_game.within v w by.edge

    target_turn : owner_of p.game w ≢ p.mover
    target_turn same = is.turns v w by.edge (same ∙ sym first)

    -- the first mover wins: the edge is the move of u
    by_own_move : winner_of c u ≡ p.mover → (y : ℕ) × Follows p c guide u w y
    by_own_move won =
        let own : owner_of p.pruned u ≡ winner_of c u = is.owners u v at ∙ first ∙ sym won in
        let (x, moves) = move_of p c is fits valid u (kept_below p is u v at) own in
        let mapped : option_map (λ z. slice_index p.kept z) (choice_of c u) ≡ Some w =
        by.chosen (first ∙ sym won) in
        let some : Some (slice_index p.kept x) ≡ Some w = rw moves.choice at mapped in
        let place : slice_index p.kept x ≡ w = grind (arith, some) in
        let there : IsKeptAs p x w = subst (λ (z : ℕ). IsKeptAs p x z) place (kept_there p is x moves.below) in
        let remains : Remains p.pruned c u x = own_edge p c is fits valid u x moves in
        let (y, given, serving) = given_there w x target_below (inl there) in
        (y, record { given = given; serves = serving; remains = at_server x y there remains serving })
      where
        at_server : (x y : ℕ) → IsKeptAs p x w → Remains p.pruned c u x → Serves p c w y → Remains p.pruned c u y
        at_server x y there remains (inl other) =
            subst (λ (z : ℕ). Remains p.pruned c u z) (kept_once p is x y w there other) remains
        at_server x y there remains (inr guided) =
            let lost : winner_of c x ≢ owner_of p.game w =
            λ same. target_turn (sym same ∙ valid.closed.stays u x remains ∙ won) in
            absurd (lost_has_no_guide p c is fits valid w x y there lost guided)

    -- the first mover loses: a vertex that covers w serves it, as the second mover wins it
    covered_served : winner_of c u ≢ p.mover → (b : ℕ) → CoversVertex p w b → Serves p c w b
    covered_served lost b covers =
        let below : b < vertex_count p.pruned = kept_below p is b covers.vertex covers.is_kept in
        let edge : HasEdge p.pruned u b = edge_in p is u v b covers.vertex at covers.is_kept
        (covers.replaces.entered v by.edge) in
        let other : owner_of p.pruned u ≢ winner_of c u = λ own. lost (sym own ∙ is.owners u v at ∙ first) in
        let same : winner_of c b ≡ winner_of c u =
        valid.closed.stays u b (lost_edge p c is fits valid u b other edge) in
        let won : winner_of c b ≡ owner_of p.game w = two_players _ _ _
        (fits.winners b below) (is.is_game.owners w target_below)
        (subst (λ (n : ℕ). n < 2) first (is.is_game.owners v by.edge.0))
        (λ is_mover. lost (sym same ∙ is_mover)) target_turn in
        let own : owner_of p.pruned b ≡ winner_of c b =
        is.owners b covers.vertex covers.is_kept ∙ covers.replaces.owner ∙ sym won in
        let (t, moves) = move_of p c is fits valid b below own in
        let is_target : IsKeptAs p t (slice_index p.kept t) = kept_there p is t moves.below in
        let leads : HasEdge p.game covers.vertex (slice_index p.kept t) =
        edge_out p is b covers.vertex t (slice_index p.kept t) covers.is_kept is_target moves.edge in
        inr (record {
          turn = target_turn;
          won = won;
          vertex = covers.vertex;
          is_kept = covers.is_kept;
          replaces = covers.replaces;
          chosen = t;
          choice = moves.choice;
          target = slice_index p.kept t;
          is_target = is_target;
          edge = (target_below, covers.less (slice_index p.kept t) leads.1);
        })
      where
        two_players : (a b m : ℕ) → a < 2 → b < 2 → m < 2 → a ≢ m → b ≢ m → a ≡ b
        two_players a b m a_below b_below m_below a_other b_other = omega arith

    by_lost_edge : winner_of c u ≢ p.mover → IsCovered p → (y : ℕ) × Follows p c guide u w y
    by_lost_edge lost covered =
        let (b, covers) = covered w target_below target_turn in
        let (y, given, serving) = given_there w b target_below (covered_served lost b covers) in
        (y, record { given = given; serves = serving; remains = at_server y serving })
      where
        other : owner_of p.pruned u ≢ winner_of c u
        other own = lost (sym own ∙ is.owners u v at ∙ first)

        at_server : (y : ℕ) → Serves p c w y → Remains p.pruned c u y
        at_server y (inl there) =
            lost_edge p c is fits valid u y other (edge_in p is u v y w at there by.edge)
        at_server y (inr guided) =
            lost_edge p c is fits valid u y other (edge_in p is u v y guided.vertex at guided.is_kept
            (guided.replaces.entered v by.edge))

    from_first : IsCovered p → (y : ℕ) × Follows p c guide u w y
    from_first covered = elim (cases_eq (winner_of c u) p.mover) [
      | inl won ↦ by_own_move won
      | inr lost ↦ by_lost_edge lost covered
    ]

  pub edge_served : IsCovered p → (v u w : ℕ) → Serves p c v u → RemainsBy p c u v w →
      (y : ℕ) × Follows p c guide u w y
  edge_served covered v u w serves by = elim (cases_eq (owner_of p.game v) p.mover) [
    | inl first ↦ from_first v u w (first_server p c is fits valid v u first serves) first by covered
    | inr second ↦ to_first v u w serves by (other_turn second)
  ]
    where
      last_player : (a b m : ℕ) → a < 2 → b < 2 → m < 2 → a ≢ m → b ≢ a → b ≡ m
      last_player a b m a_below b_below m_below a_other differ = omega arith

      other_turn : owner_of p.game v ≢ p.mover → owner_of p.game w ≡ p.mover
      other_turn second = last_player _ _ _ (is.is_game.owners v by.edge.0)
          (is.is_game.owners w (is.is_game.within v w by.edge)) is.mover second (is.turns v w by.edge)
