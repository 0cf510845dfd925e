-- Each valid certificate of a pruned game has a lift for each guide. A vertex that nothing serves belongs to the second
-- mover. The second mover wins it if one of its successors is won by the second mover, and moves to the first of these.
-- - `copied`: the entry of a vertex that is served
-- - `free_entry`: the entry of a vertex that nothing serves
-- - `lift_there`: the law `lift_is_there`
use Rattle.std.specs.Prelude.{◌≡◌, ◌≢◌, ℕ, suc, ◌-◌, ◌<◌, ◌≤◌, ◌⊎◌, List, length, map, Option, None, Some, slice_index}
use Rattle.std.specs.Prelude.{slice_index_or}
use Rattle.std.specs.List.{Contains, range_with_len, sum_by}
use Rattle.std.specs.Option.{option_map}
use Rattle.std.proofs.Common.{sym, ◌∙◌, subst, ap, refl, inl, inr, arith}
use Rattle.std.proofs.lemmas.Bool.{cases_eq}
use Rattle.std.proofs.lemmas.List.FromFn.{get_or-map-range_with_len, length-map-range_with_len}
use Rattle.std.proofs.lemmas.List.Sums.{get_or-le-sum_by}
use Rattle.ps_game.specs.Games.{vertex_count, owner_of, successors_of, HasEdge}
use Rattle.ps_certificate.specs.Certificates.{CertificateData, EntryData, no_entry, Fits, IsValid, Remains}
use Rattle.ps_certificate.specs.Certificates.{winner_of, choice_of, counts_of, opposing}
use Rattle.ps_certificate.proofs.FlawsAndValidity.SomeFlaw.{IsFirstPlace, first_place}
use Rattle.ps_certificate.proofs.FlawsAndValidity.SuccessorEdges.{HasEdge-at, place_of}
use Rattle.ps_pruning.specs.Lifting.{Pruning, IsPruning, IsGuide, HasEntryOf, HasOwnEntry, IsLift}
use Rattle.ps_pruning.proofs.KeptVertices.{first_kept}
use Rattle.ps_pruning.proofs.Servers.{given_there, server_below}

-- ## The entries

abbrev copied : Pruning → CertificateData → ℕ → EntryData
copied p c u = record {
  winner = winner_of c u;
  choice = option_map (λ x. slice_index p.kept x) (choice_of c u);
  counts = counts_of c u;
}

-- the entry that a guide's vertex gives
abbrev base_of : Pruning → CertificateData → Option ℕ → EntryData
base_of p c None = no_entry
base_of p c (Some u) = copied p c u

-- counts for all priorities that oppose the player, greater than those of all vertices in the list
abbrev counts_above : (base : ℕ → EntryData) → List ℕ → ℕ → List ℕ
counts_above base next n = map (λ k. suc (sum_by (λ w. slice_index (base w).counts k) next)) (range_with_len 0 n)

-- the entry of a vertex of `owner`, none of whose successors `owner` wins, or the one at index k is the first that
-- `owner` wins
abbrev free_entry : (base : ℕ → EntryData) (opposing_count : ℕ → ℕ) (owner : ℕ) (next : List ℕ) (P : Type 0)
    (Q : ℕ → Type 0) → P ⊎ ((k : ℕ) × Q k) → EntryData
free_entry base opposing_count owner next P Q (inl none) = record {
  winner = 1 - owner;
  choice = None;
  counts = counts_above base next (opposing_count (1 - owner));
}
free_entry base opposing_count owner next P Q (inr (k, first)) = record {
  winner = owner;
  choice = Some (slice_index next k);
  counts = counts_above base next (opposing_count owner);
}

module _ (p : Pruning) (c : CertificateData) (guide : ℕ → Option ℕ) where
  abbrev base : ℕ → EntryData
  base w = base_of p c (guide w)

  abbrev Lost : ℕ → ℕ → Type 0
  Lost v k = (base (slice_index (successors_of p.game v) k)).winner ≢ owner_of p.game v

  abbrev Won : ℕ → ℕ → Type 0
  Won v k = (base (slice_index (successors_of p.game v) k)).winner ≡ owner_of p.game v

  abbrev Outcome : ℕ → Type 0
  Outcome v = ((k : ℕ) → k < length (successors_of p.game v) → Lost v k) ⊎
      ((k : ℕ) × IsFirstPlace (Lost v) (Won v) (length (successors_of p.game v)) k)

  outcome : (v : ℕ) → Outcome v
  outcome v = first_place (Lost v) (Won v) (length (successors_of p.game v)) (λ k below. at_place k)
    where
      at_place : (k : ℕ) → Lost v k ⊎ Won v k
      at_place k = elim (cases_eq (base (slice_index (successors_of p.game v) k)).winner (owner_of p.game v)) [
        | inl same ↦ inr same
        | inr differ ↦ inl differ
      ]

  abbrev entry_for : (v : ℕ) → Outcome v → EntryData
  entry_for v o = free_entry base (λ player. length (opposing c player)) (owner_of p.game v) (successors_of p.game v)
      ((k : ℕ) → k < length (successors_of p.game v) → Lost v k)
      (λ k. IsFirstPlace (Lost v) (Won v) (length (successors_of p.game v)) k) o

  abbrev free : ℕ → EntryData
  free v = entry_for v (outcome v)

  abbrev entry_by : ℕ → Option ℕ → EntryData
  entry_by v None = free v
  entry_by v (Some u) = copied p c u

  lifted : CertificateData
  lifted = record {
    odd = c.odd;
    even = c.even;
    entries = map (λ v. entry_by v (guide v)) (range_with_len 0 (vertex_count p.game));
  }

  entry_read : (v : ℕ) → v < vertex_count p.game → (e : EntryData) → entry_by v (guide v) ≡ e →
      slice_index_or lifted.entries v no_entry ≡ e
  unfolding lifted
  entry_read v below e same =
      get_or-map-range_with_len (λ x. entry_by x (guide x)) 0 (vertex_count p.game) v v no_entry below (omega arith) ∙
      same

  -- a vertex of the lift has the entry e
  abbrev HasEntry : ℕ → EntryData → Type 0
  HasEntry v e = (winner_of lifted v ≡ e.winner) × (choice_of lifted v ≡ e.choice) × (counts_of lifted v ≡ e.counts)

  entry_is : (v : ℕ) → v < vertex_count p.game → (e : EntryData) → entry_by v (guide v) ≡ e → HasEntry v e
  unfolding winner_of choice_of counts_of
  entry_is v below e same = (
    ap (λ (x : EntryData). x.winner) (entry_read v below e same),
    ap (λ (x : EntryData). x.choice) (entry_read v below e same),
    ap (λ (x : EntryData). x.counts) (entry_read v below e same),
  )

  served_entry : (v u : ℕ) → v < vertex_count p.game → guide v ≡ Some u → HasEntryOf p c lifted v u
  served_entry v u below given =
      let read : HasEntry v (copied p c u) = entry_is v below (copied p c u) (ap (λ (o : Option ℕ). entry_by v o) given)
      in record { winner = read.0; choice = read.1; counts = read.2 }

  free_is : (v : ℕ) → v < vertex_count p.game → guide v ≡ None → HasEntry v (free v)
  free_is v below none = entry_is v below (free v) (ap (λ (o : Option ℕ). entry_by v o) none)

  opposing_lifted : (player : ℕ) → opposing lifted player ≡ opposing c player
  unfolding lifted opposing
  opposing_lifted player = refl

  lifted_entries : length lifted.entries ≡ vertex_count p.game
  unfolding lifted
  lifted_entries = length-map-range_with_len (λ v. entry_by v (guide v)) 0 (vertex_count p.game)

  lifted_odd : lifted.odd ≡ c.odd
  unfolding lifted
  lifted_odd = refl

  lifted_even : lifted.even ≡ c.even
  unfolding lifted
  lifted_even = refl

-- ## Vertices that nothing serves

counts_above_all : (base : ℕ → EntryData) (next : List ℕ) (n w k : ℕ) → Contains next w → k < n →
    slice_index (base w).counts k < slice_index (counts_above base next n) k
counts_above_all base next n w k within below =
    let (i, inside, same) = place_of next within in
    let least : slice_index (base (slice_index next i)).counts k ≤ sum_by (λ x. slice_index (base x).counts k) next =
    get_or-le-sum_by (λ x. slice_index (base x).counts k) next i 0 inside in
    let here : slice_index (base w).counts k ≤ sum_by (λ x. slice_index (base x).counts k) next =
    subst (λ (x : ℕ). slice_index (base x).counts k ≤ sum_by (λ y. slice_index (base y).counts k) next) same least
    in
    let read : slice_index (counts_above base next n) k ≡ suc (sum_by (λ x. slice_index (base x).counts k) next) =
    get_or-map-range_with_len (λ j. suc (sum_by (λ x. slice_index (base x).counts j) next)) 0 n k k 0 below
    (omega arith) in
    omega (arith, here, read)

module _ (p : Pruning) (c : CertificateData) (guide : ℕ → Option ℕ) (is : IsPruning p) (fits : Fits p.pruned c)
    (valid : IsValid p.pruned c) (guides : IsGuide p c guide) (v : ℕ) (below : v < vertex_count p.game)
    (none : guide v ≡ None) where
  abbrev made : CertificateData
  made = lifted p c guide

  not_first : owner_of p.game v ≢ p.mover
  not_first first = let (u, at) = first_kept p is v below first in guides.complete v u below none (inl at)

  -- each successor is a vertex of the first mover, so it is served
  next_served : (w : ℕ) → HasEdge p.game v w → (u : ℕ) × (guide w ≡ Some u) × (u < vertex_count p.pruned)
  next_served w edge =
      let inside : w < vertex_count p.game = is.is_game.within v w edge in
      let first : owner_of p.game w ≡ p.mover = other_player_moves _ _ _ (is.is_game.owners v below)
      (is.is_game.owners w inside) is.mover not_first (is.turns v w edge) in
      let (u, at) = first_kept p is w inside first in
      let (y, given, serves) = given_there p c guide is fits valid guides w u inside (inl at) in
      (y, given, server_below p c is fits valid w y serves)
    where
      other_player_moves : (a b m : ℕ) → a < 2 → b < 2 → m < 2 → a ≢ m → b ≢ a → b ≡ m
      other_player_moves a b m a_below b_below m_below a_other differ = omega arith

  next_winner : (w : ℕ) → HasEdge p.game v w → winner_of made w ≡ (base p c guide w).winner
  next_winner w edge =
      let (u, given, inside) = next_served w edge in
      (served_entry p c guide w u (is.is_game.within v w edge) given).winner ∙
      ap (λ (o : Option ℕ). (base_of p c o).winner) (sym given)

  next_winner_below : (w : ℕ) → HasEdge p.game v w → winner_of made w < 2
  next_winner_below w edge =
      let (u, given, inside) = next_served w edge in
      subst (λ (x : ℕ). x < 2) (sym ((served_entry p c guide w u (is.is_game.within v w edge) given).winner))
      (fits.winners u inside)

  next_counts : (w : ℕ) → HasEdge p.game v w → counts_of made w ≡ (base p c guide w).counts
  next_counts w edge =
      let (u, given, inside) = next_served w edge in
      (served_entry p c guide w u (is.is_game.within v w edge) given).counts ∙
      ap (λ (o : Option ℕ). (base_of p c o).counts) (sym given)

  -- the counts of v, if they are above those of all successors
  module _ (player : ℕ) (winner : winner_of made v ≡ player) (counts : counts_of made v ≡
      counts_above (base p c guide) (successors_of p.game v) (length (opposing c player))) where
    free_count_each : length (counts_of made v) ≡ length (opposing made (winner_of made v))
    free_count_each =
        ap (λ (xs : List ℕ). length xs) counts ∙
        length-map-range_with_len _ 0 (length (opposing c player)) ∙
        ap (λ (xs : List ℕ). length xs) (sym (opposing_lifted p c guide player)) ∙
        ap (λ (x : ℕ). length (opposing made x)) (sym winner)

    free_falls : (w k : ℕ) → Remains p.game made v w → k < length (counts_of made v) →
        slice_index (counts_of made w) k < slice_index (counts_of made v) k
    free_falls w k remains inside =
        let n : ℕ = length (opposing c player) in
        let short : k < n = subst (λ (x : ℕ). k < x)
        (ap (λ (xs : List ℕ). length xs) counts ∙ length-map-range_with_len _ 0 n) inside in
        let above : slice_index (base p c guide w).counts k <
        slice_index (counts_above (base p c guide) (successors_of p.game v) n) k =
        counts_above_all (base p c guide) (successors_of p.game v) n w k remains.edge.1 short in
        rw (next_counts w remains.edge, counts) above

  none_won : ((k : ℕ) → k < length (successors_of p.game v) → Lost p c guide v k) →
      winner_of made v ≡ 1 - owner_of p.game v → choice_of made v ≡ None →
      counts_of made v ≡ counts_above (base p c guide) (successors_of p.game v)
      (length (opposing c (1 - owner_of p.game v))) → HasOwnEntry p.game made v
  none_won lost winner choice counts = record {
    winner = rw winner (omega arith);
    move = record { own = λ own. absurd (differs own); other = λ other. choice };
    count_each = free_count_each (1 - owner_of p.game v) winner counts;
    stays = stays;
    falls = free_falls (1 - owner_of p.game v) winner counts;
  }
    where
      owner_below : owner_of p.game v < 2
      owner_below = is.is_game.owners v below

      differs : owner_of p.game v ≢ winner_of made v
      differs own = omega (arith, own, winner, owner_below)

      other_wins : (a o : ℕ) → a < 2 → o < 2 → a ≢ o → a ≡ 1 - o
      other_wins a o a_below o_below differ = omega arith

      stays : (w : ℕ) → Remains p.game made v w → winner_of made w ≡ winner_of made v
      stays w remains =
          let (k, inside, same) = place_of (successors_of p.game v) remains.edge.1 in
          let not_won : (base p c guide w).winner ≢ owner_of p.game v =
          subst (λ (x : ℕ). (base p c guide x).winner ≢ owner_of p.game v) same (lost k inside) in
          other_wins _ _ (next_winner_below w remains.edge) owner_below
          (λ won. not_won (sym (next_winner w remains.edge) ∙ won)) ∙ sym winner

  one_won : (k : ℕ) → k < length (successors_of p.game v) → Won p c guide v k →
      winner_of made v ≡ owner_of p.game v → choice_of made v ≡ Some (slice_index (successors_of p.game v) k) →
      counts_of made v ≡ counts_above (base p c guide) (successors_of p.game v)
      (length (opposing c (owner_of p.game v))) → HasOwnEntry p.game made v
  one_won k inside won winner choice counts = record {
    winner = subst (λ (x : ℕ). x < 2) (sym winner) (is.is_game.owners v below);
    move = record {
      own = λ own. rw choice (HasEdge-at p.game v k below inside refl);
      other = λ other. absurd (other (sym winner));
    };
    count_each = free_count_each (owner_of p.game v) winner counts;
    stays = stays;
    falls = free_falls (owner_of p.game v) winner counts;
  }
    where
      stays : (w : ℕ) → Remains p.game made v w → winner_of made w ≡ winner_of made v
      stays w remains =
          let some : Some (slice_index (successors_of p.game v) k) ≡ Some w =
          sym choice ∙ remains.chosen (sym winner) in
          let same : slice_index (successors_of p.game v) k ≡ w = grind (arith, some) in
          next_winner w remains.edge ∙ subst (λ (x : ℕ). (base p c guide x).winner ≡ owner_of p.game v) same won ∙
          sym winner

  settled : HasOwnEntry p.game made v
  settled = at_outcome (outcome p c guide v) (free_is p c guide v below none)
    where
      at_outcome : (o : Outcome p c guide v) → HasEntry p c guide v (entry_for p c guide v o) →
          HasOwnEntry p.game made v
      at_outcome (inl lost) read = none_won lost read.0 read.1 read.2
      at_outcome (inr (k, first)) read = one_won k first.within first.there read.0 read.1 read.2

pub lift_there : (p : Pruning) (c : CertificateData) (guide : ℕ → Option ℕ) → IsPruning p → Fits p.pruned c →
    IsValid p.pruned c → IsGuide p c guide → (made : CertificateData) × IsLift p c guide made
lift_there p c guide is fits valid guides = (
  lifted p c guide,
  record {
    entry_each = lifted_entries p c guide;
    odd = lifted_odd p c guide;
    even = lifted_even p c guide;
    served = served_entry p c guide;
    settled = settled p c guide is fits valid guides;
  },
)
