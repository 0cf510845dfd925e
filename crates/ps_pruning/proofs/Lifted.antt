-- A lift of a valid certificate of the pruned game is a valid certificate of the whole game.
-- - `Served`: the vertex v has the entry of the vertex u, which serves it
-- - `lift_fits`, `lift_is_closed`, `lift_is_valid`: the parts of the law `lift_is_certificate`
-- - `kept_winner`, `first_entry`: the parts of the law `lift_keeps_winners`
use Rattle.std.specs.Prelude.{◌≡◌, ◌≢◌, ℕ, ◌<◌, ◌⊎◌, ◌%◌, List, length, Option, None, Some, IfSome, IsSomeAnd}
use Rattle.std.specs.Prelude.{slice_index}
use Rattle.std.specs.List.{Contains}
use Rattle.std.specs.Option.{option_map}
use Rattle.std.proofs.Common.{sym, ◌∙◌, subst, ap, refl, inl, inr, arith}
use Rattle.std.proofs.lemmas.Bool.{cases_eq}
use Rattle.ps_game.specs.Games.{vertex_count, owner_of, priority_of, HasEdge}
use Rattle.ps_game.specs.Ranking.{HasPriority, KeepsRule, ListsPriorities}
use Rattle.ps_certificate.specs.Certificates.{CertificateData, Fits, IsClosed, IsValid, HasRightMove, KeepsCount}
use Rattle.ps_certificate.specs.Certificates.{Remains, winner_of, choice_of, counts_of, opposing}
use Rattle.ps_pruning.specs.Lifting.{Pruning, IsPruning, IsCovered, IsKeptAs, Serves, IsGuide, HasEntryOf, HasOwnEntry}
use Rattle.ps_pruning.specs.Lifting.{IsLift}
use Rattle.ps_pruning.proofs.KeptVertices.{kept_below, kept_there, first_kept, kept_once, edge_out, kept_is}
use Rattle.ps_pruning.proofs.Servers.{Moves, Follows, move_of, first_server, server_owner, server_priority}
use Rattle.ps_pruning.proofs.Servers.{server_below, server_winner, edge_served, given_or, given_there}

rule_along : {p q : ℕ} {f g : ℕ} {t s : ℕ} {m k : ℕ} {n l : ℕ} → p ≡ q → f ≡ g → t ≡ s → m ≡ k → n ≡ l →
    KeepsRule p f t m n → KeepsRule q g s k l
rule_along along_p along_f along_t along_m along_n rule =
    rw (← along_p, ← along_f, ← along_t, ← along_m, ← along_n) rule

rule_where_falls : (p f t : ℕ) {m n : ℕ} → n < m → KeepsRule p f t m n
rule_where_falls p f t below = record { never_rises = λ _ _. omega (arith, below); falls = λ _ _. below }

pub record Served (p : Pruning) (c lifted : CertificateData) (guide : ℕ → Option ℕ) (v u : ℕ) : Type 0 where
  pub given : guide v ≡ Some u
  pub serves : Serves p c v u
  pub entry : HasEntryOf p c lifted v u

-- ## The lists of priorities

module _ (p : Pruning) (is : IsPruning p) (covered : IsCovered p) where
  kept_priority : (v : ℕ) → v < vertex_count p.game →
      (u : ℕ) × (u < vertex_count p.pruned) × (priority_of p.pruned u ≡ priority_of p.game v)
  kept_priority v below = elim (cases_eq (owner_of p.game v) p.mover) [
    | inl first ↦ let (u, at) = first_kept p is v below first in (u, kept_below p is u v at, is.priorities u v at)
    | inr second ↦ let (u, covers) = covered v below second in (
      u,
      kept_below p is u covers.vertex covers.is_kept,
      is.priorities u covers.vertex covers.is_kept ∙ covers.replaces.priority,
    )
  ]

  present_there : (q : ℕ) → HasPriority p.pruned q → HasPriority p.game q
  present_there q (u, below, same) =
      let at : IsKeptAs p u (slice_index p.kept u) = kept_there p is u below in
      (slice_index p.kept u, is.within u _ at, sym (is.priorities u _ at) ∙ same)

  priorities_listed : (parity : ℕ) (list : List ℕ) → ListsPriorities p.pruned parity list →
      ListsPriorities p.game parity list
  priorities_listed parity list lists = record {
    rising = lists.rising;
    complete = complete;
    right_parity = lists.right_parity;
    present = λ k d inside. present_there _ (lists.present k d inside);
  }
    where
      complete : (v : ℕ) → v < vertex_count p.game → priority_of p.game v % 2 ≡ parity →
          Contains list (priority_of p.game v)
      complete v below is_parity =
          let (u, inside, same) = kept_priority v below in
          let here : priority_of p.pruned u % 2 ≡ parity = ap (λ (q : ℕ). q % 2) same ∙ is_parity in
          subst (λ (q : ℕ). Contains list q) same (lists.complete u inside here)

-- ## The entries

module _ (p : Pruning) (c lifted : CertificateData) (guide : ℕ → Option ℕ) (is : IsPruning p) (covered : IsCovered p)
    (fits : Fits p.pruned c) (valid : IsValid p.pruned c) (guides : IsGuide p c guide)
    (lift : IsLift p c guide lifted) where
  served_or : (v : ℕ) → v < vertex_count p.game →
      ((u : ℕ) × Served p c lifted guide v u) ⊎ HasOwnEntry p.game lifted v
  served_or v below = elim (given_or p c guide is fits valid guides v) [
    | inl none ↦ inr (lift.settled v below none)
    | inr (u, given) ↦ inl (
      u,
      record {
        given = given;
        serves = guides.serves v u below given;
        entry = lift.served v u below given;
      },
    )
  ]

  opposing_same : (player : ℕ) → opposing lifted player ≡ opposing c player
  unfolding opposing
  opposing_same player = rw (lift.odd, lift.even) refl

  opposing_served : (v u : ℕ) → HasEntryOf p c lifted v u →
      opposing lifted (winner_of lifted v) ≡ opposing c (winner_of c u)
  opposing_served v u entry = ap (λ (w : ℕ). opposing lifted w) entry.winner ∙ opposing_same (winner_of c u)

  -- ## The certificate fits

  winner_below : (v : ℕ) → v < vertex_count p.game → winner_of lifted v < 2
  winner_below v below = elim (served_or v below) [
    | inl (u, served) ↦ subst (λ (w : ℕ). w < 2) (sym served.entry.winner)
        (fits.winners u (server_below p c is fits valid v u served.serves))
    | inr settled ↦ settled.winner
  ]

  mapped_below : (o : Option ℕ) → IfSome o (λ w. w < vertex_count p.pruned) →
      IfSome (option_map (λ x. slice_index p.kept x) o) (λ w. w < vertex_count p.game)
  mapped_below None inside = tt
  mapped_below (Some x) inside = is.within x (slice_index p.kept x) (kept_there p is x inside)

  edge_below : (v : ℕ) (o : Option ℕ) → IsSomeAnd o (HasEdge p.game v) → IfSome o (λ w. w < vertex_count p.game)
  edge_below v None edge = tt
  edge_below v (Some w) edge = is.is_game.within v w edge

  choice_below : (v : ℕ) → v < vertex_count p.game → IfSome (choice_of lifted v) (λ w. w < vertex_count p.game)
  choice_below v below = elim (served_or v below) [
    | inl (u, served) ↦ rw served.entry.choice (mapped_below (choice_of c u)
        (fits.choices u (server_below p c is fits valid v u served.serves)))
    | inr settled ↦ elim (cases_eq (owner_of p.game v) (winner_of lifted v)) [
      | inl own ↦ edge_below v (choice_of lifted v) (settled.move.own own)
      | inr other ↦ rw (settled.move.other other) tt
    ]
  ]

  count_each : (v : ℕ) → v < vertex_count p.game →
      length (counts_of lifted v) ≡ length (opposing lifted (winner_of lifted v))
  count_each v below = elim (served_or v below) [
    | inl (u, served) ↦ ap (λ (xs : List ℕ). length xs) served.entry.counts ∙
        fits.count_each u (server_below p c is fits valid v u served.serves) ∙
        ap (λ (xs : List ℕ). length xs) (sym (opposing_served v u served.entry))
    | inr settled ↦ settled.count_each
  ]

  pub lift_fits : Fits p.game lifted
  lift_fits = record {
    entry_each = lift.entry_each;
    winners = winner_below;
    choices = choice_below;
    odd_listed = rw lift.odd (priorities_listed p is covered 1 c.odd fits.odd_listed);
    even_listed = rw lift.even (priorities_listed p is covered 0 c.even fits.even_listed);
    count_each = count_each;
  }

  -- ## The certificate is closed

  pub move_kept : (v u x : ℕ) → v < vertex_count p.game → Serves p c v u → Moves p c u x →
      HasEdge p.game v (slice_index p.kept x)
  move_kept v u x below (inl at) moves =
      edge_out p is u v x (slice_index p.kept x) at (kept_there p is x moves.below) moves.edge
  move_kept v u x below (inr guided) moves =
      let some : Some guided.chosen ≡ Some x = sym guided.choice ∙ moves.choice in
      let same : guided.chosen ≡ x = grind (arith, some) in
      let place : slice_index p.kept x ≡ guided.target =
      kept_is p is x guided.target (subst (λ (z : ℕ). IsKeptAs p z guided.target) same guided.is_target) in
      subst (λ (w : ℕ). HasEdge p.game v w) (sym place) guided.edge

  served_move : (v u : ℕ) → v < vertex_count p.game → Served p c lifted guide v u → HasRightMove p.game lifted v
  served_move v u below served = record { own = own; other = other }
    where
      inside : u < vertex_count p.pruned
      inside = server_below p c is fits valid v u served.serves

      owner_same : owner_of p.pruned u ≡ owner_of p.game v
      owner_same = server_owner p c is fits valid v u served.serves

      own : owner_of p.game v ≡ winner_of lifted v → IsSomeAnd (choice_of lifted v) (HasEdge p.game v)
      own mine =
          let (x, moves) = move_of p c is fits valid u inside (owner_same ∙ mine ∙ served.entry.winner) in
          let chosen : choice_of lifted v ≡ Some (slice_index p.kept x) =
          served.entry.choice ∙ ap (λ (o : Option ℕ). option_map (λ z. slice_index p.kept z) o) moves.choice in
          rw chosen (move_kept v u x below served.serves moves)

      other : owner_of p.game v ≢ winner_of lifted v → choice_of lifted v ≡ None
      other lost =
          let none : choice_of c u ≡ None = (valid.closed.moves u inside).other
          (λ mine. lost (sym owner_same ∙ mine ∙ sym served.entry.winner)) in
          served.entry.choice ∙ ap (λ (o : Option ℕ). option_map (λ z. slice_index p.kept z) o) none

  right_move : (v : ℕ) → v < vertex_count p.game → HasRightMove p.game lifted v
  right_move v below = elim (served_or v below) [
    | inl (u, served) ↦ served_move v u below served
    | inr settled ↦ settled.move
  ]

  -- an edge that remains at a served vertex stands for an edge of the pruned game
  pub served_edge : (v u w : ℕ) → Served p c lifted guide v u → Remains p.game lifted v w →
      (y : ℕ) × Follows p c guide u w y
  served_edge v u w served remains = edge_served p c guide is fits valid guides covered v u w served.serves (record {
    edge = remains.edge;
    chosen = λ own. sym served.entry.choice ∙ remains.chosen (own ∙ sym served.entry.winner);
  })

  follower_entry : (v u w y : ℕ) → Remains p.game lifted v w → Follows p c guide u w y → HasEntryOf p c lifted w y
  follower_entry v u w y remains follows = lift.served w y (is.is_game.within v w remains.edge) follows.given

  stays : (v w : ℕ) → Remains p.game lifted v w → winner_of lifted w ≡ winner_of lifted v
  stays v w remains = elim (served_or v remains.edge.0) [
    | inl (u, served) ↦ at_edge u served (served_edge v u w served remains)
    | inr settled ↦ settled.stays w remains
  ]
    where
      at_edge : (u : ℕ) → Served p c lifted guide v u → (y : ℕ) × Follows p c guide u w y →
          winner_of lifted w ≡ winner_of lifted v
      at_edge u served (y, follows) = (follower_entry v u w y remains follows).winner ∙
          valid.closed.stays u y follows.remains ∙ sym served.entry.winner

  pub lift_is_closed : IsClosed p.game lifted
  lift_is_closed = record { moves = right_move; stays = stays }

  -- ## The certificate is valid

  served_count : (v u w k : ℕ) → Served p c lifted guide v u → Remains p.game lifted v w →
      k < length (opposing lifted (winner_of lifted v)) → (y : ℕ) × Follows p c guide u w y →
      KeepsCount p.game lifted v w k
  served_count v u w k served remains inside (y, follows) =
      let target : HasEntryOf p c lifted w y = follower_entry v u w y remains follows in
      let same : opposing lifted (winner_of lifted v) ≡ opposing c (winner_of c u) =
      opposing_served v u served.entry in
      let inside_list : k < length (opposing c (winner_of c u)) =
      subst (λ (xs : List ℕ). k < length xs) same inside in
      rule_along (ap (λ (xs : List ℕ). slice_index xs k) (sym same))
      (server_priority p c is fits valid v u served.serves)
      (server_priority p c is fits valid w y follows.serves)
      (ap (λ (xs : List ℕ). slice_index xs k) (sym served.entry.counts))
      (ap (λ (xs : List ℕ). slice_index xs k) (sym target.counts))
      (valid.counts u y k follows.remains (valid.closed.stays u y follows.remains) inside_list)

  keeps_count : (v w k : ℕ) → Remains p.game lifted v w → winner_of lifted w ≡ winner_of lifted v →
      k < length (opposing lifted (winner_of lifted v)) → KeepsCount p.game lifted v w k
  keeps_count v w k remains same inside = elim (served_or v remains.edge.0) [
    | inl (u, served) ↦ served_count v u w k served remains inside (served_edge v u w served remains)
    | inr settled ↦ rule_where_falls _ _ _ (settled.falls w k remains
        (subst (λ (n : ℕ). k < n) (sym settled.count_each) inside))
  ]

  pub lift_is_valid : IsValid p.game lifted
  lift_is_valid = record { closed = lift_is_closed; counts = keeps_count }

-- ## Kept vertices

module _ (p : Pruning) (c lifted : CertificateData) (guide : ℕ → Option ℕ) (is : IsPruning p) (fits : Fits p.pruned c)
    (valid : IsValid p.pruned c) (guides : IsGuide p c guide) (lift : IsLift p c guide lifted) where
  pub kept_winner : (u v : ℕ) → IsKeptAs p u v → winner_of lifted v ≡ winner_of c u
  kept_winner u v at =
      let below : v < vertex_count p.game = is.within u v at in
      let (y, given, serves) = given_there p c guide is fits valid guides v u below (inl at) in
      (lift.served v y below given).winner ∙ server_winner p c is fits valid v u y at serves

  pub first_entry : (u v : ℕ) → IsKeptAs p u v → owner_of p.game v ≡ p.mover → HasEntryOf p c lifted v u
  first_entry u v at first =
      let below : v < vertex_count p.game = is.within u v at in
      let (y, given, serves) = given_there p c guide is fits valid guides v u below (inl at) in
      subst (λ (z : ℕ). HasEntryOf p c lifted v z)
      (kept_once p is y u v (first_server p c is fits valid v y first serves) at) (lift.served v y below given)
