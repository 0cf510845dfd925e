-- The search for the roots of a priority, which are the vertices of this priority to which a link of `low_graph` leads.
use Rattle.std.proofs.Common.{◌≡◌, ℕ, ◌+◌, ◌<◌, ◌≤◌, ◌∙◌, List, [], ◌∷◌, ◌++◌, length, inl, inr, sym, ap, arith, rules}
use Rattle.std.proofs.Common.{Option, None, Some, IfSome}
use Rattle.std.specs.Prelude.{slice_get, slice_index}
use Rattle.std.proofs.lemmas.Bool.{cases_eq}
use Rattle.ps_attractor.specs.Sources.{sources_of}
use Rattle.ps_components.specs.Graphs.{Link}
use Rattle.ps_components.proofs.Places.{slice_get-append_left, slice_get-push, slice_get-push_cases}
use Rattle.ps_measure.specs.Inner.Columns.{AreRoots}
use Rattle.ps_measure.specs.Inner.Groups.{IsGroup, candidates_in, candidate_in}
use Rattle.ps_measure.specs.Inner.Remaining.{LowData, low_graph, low_weight}
use Rattle.ps_measure.proofs.LinksOfEdges.RemainingEdges.{heavy_inside, heavy_level}

-- the list has exactly the roots that are among the first n candidates
pub record RootsAmong (low : LowData) (members : ℕ → ℕ) (roots : List ℕ) (n : ℕ) : Type 0 where
  pub sound : (i v : ℕ) → slice_get roots i ≡ Some v → (w : ℕ) × Link (low_graph low) w v × (low_weight low v ≡ 1)
  pub complete : (w k : ℕ) → k < n → Link (low_graph low) w (members k) → low_weight low (members k) ≡ 1 →
      (i : ℕ) × (slice_get roots i ≡ Some (members k))

pub roots_more : {low : LowData} {members : ℕ → ℕ} {roots : List ℕ} {n v w : ℕ} → v ≡ members n →
    Link (low_graph low) w v → low_weight low v ≡ 1 → RootsAmong low members roots n →
    RootsAmong low members (roots ++ v ∷ []) (n + 1)
roots_more {low} {members} {roots} {n} {v} {w} is link heavy so_far = record {
  sound = search (rules, slice_get-push_cases);
  complete = λ u k below to is_heavy. elim (cases_eq k n) [
    | inl same ↦ (length roots, slice_get-push roots v ∙ ap Some (is ∙ ap members (sym same)))
    | inr apart ↦ (let found = so_far.complete u k (omega (arith, below, apart)) to is_heavy in
        (found.0, slice_get-append_left roots (v ∷ []) found.0 (members k) found.1))
  ];
}

pub roots_skip : {low : LowData} {members : ℕ → ℕ} {roots : List ℕ} {n v : ℕ} → v ≡ members n →
    ((w : ℕ) → Link (low_graph low) w v → low_weight low v ≡ 1 → ⊥) → RootsAmong low members roots n →
    RootsAmong low members roots (n + 1)
roots_skip {low} {members} {n = n} {v} is none so_far = record {
  sound = so_far.sound;
  complete = λ u k below to heavy. elim (cases_eq k n) [
    | inl same ↦ (let e : members k ≡ v = ap members same ∙ sym is in absurd (none u (rw e at to) (rw e at heavy)))
    | inr apart ↦ so_far.complete u k (omega (arith, below, apart)) to heavy
  ];
}

-- all roots of a priority are found if each vertex of the priority's group is tried. If vertices are not grouped by
-- priority, each vertex of the graph must be tried
pub roots_all : {low : LowData} (members : Option (List (List ℕ))) (place : ℕ) {roots : List ℕ} {n : ℕ} →
    candidates_in members (length low.sources) place ≤ n →
    ((w v : ℕ) → Link (low_graph low) w v → v < length low.sources) →
    IfSome members (λ group. IsGroup group place low) → RootsAmong low (candidate_in members place) roots n →
    AreRoots (low_graph low) (low_weight low) roots
roots_all None place all within group so_far = record {
  sound = so_far.sound;
  complete = λ w v link. so_far.complete w v (omega (arith, within w v link, all)) link;
}
roots_all {low} (Some members) place all within group so_far = record {
  sound = so_far.sound;
  complete = λ w v link heavy.
      (let found = group.complete v (within w v link) (heavy_inside low v heavy) (heavy_level low v heavy) in
      let is : v ≡ candidate_in (Some members) place found.place = cc (found.target) in
      rw is (so_far.complete w found.place (omega (arith, found.at, all)) (rw is at link) (rw is at heavy)));
}

-- the members of a priority's group are vertices of the graph
pub member_within : {low : LowData} {members : List (List ℕ)} {place : ℕ} (k : ℕ) {v : ℕ} → IsGroup members place low →
    k < length (sources_of members place) → slice_index (sources_of members place) k ≡ v → v < length low.sources
member_within k {v} group below is =
    group.within v (record { from = group.at; place = k; at = below; target = ap Some is })
