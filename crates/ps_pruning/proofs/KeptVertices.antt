-- The numbers of kept vertices in the game and in the pruned game.
use Rattle.std.specs.Prelude.{◌≡◌, ℕ, ◌<◌, ◌⊎◌, length, slice_index}
use Rattle.std.specs.List.{Contains}
use Rattle.std.proofs.Common.{sym, ◌∙◌, subst, refl, inl, inr, arith}
use Rattle.std.proofs.lemmas.Option.{get_or_from_slice_get, slice_get-get_or, slice_get_read, slice_get_within}
use Rattle.ps_game.specs.Games.{vertex_count, owner_of, HasEdge}
use Rattle.ps_pruning.specs.Lifting.{Pruning, IsPruning, IsKeptAs}

module _ (p : Pruning) (is : IsPruning p) where
  pub kept_is : (u v : ℕ) → IsKeptAs p u v → slice_index p.kept u ≡ v
  kept_is u v at = get_or_from_slice_get p.kept u v 0 at

  pub kept_below : (u v : ℕ) → IsKeptAs p u v → u < vertex_count p.pruned
  kept_below u v at = subst (λ (n : ℕ). u < n) is.count (slice_get_within p.kept u v at)

  pub kept_there : (u : ℕ) → u < vertex_count p.pruned → IsKeptAs p u (slice_index p.kept u)
  kept_there u below = slice_get-get_or p.kept u 0 (subst (λ (n : ℕ). u < n) (sym is.count) below)

  pub first_kept : (v : ℕ) → v < vertex_count p.game → owner_of p.game v ≡ p.mover → (u : ℕ) × IsKeptAs p u v
  first_kept v below own = at_place (is.firsts v below own)
    where
      at_place : Contains p.kept v → (u : ℕ) × IsKeptAs p u v
      at_place (k, inside, same) = (k, slice_get_read p.kept (length p.kept) k v refl inside (sym same))

  kept_order : (u x v : ℕ) → u < x → IsKeptAs p u v → ¬ IsKeptAs p x v
  kept_order u x v before one other =
      is.different u x 0 before (slice_get_within p.kept x v other) (kept_is u v one ∙ sym (kept_is x v other))

  pub kept_once : (u x v : ℕ) → IsKeptAs p u v → IsKeptAs p x v → u ≡ x
  kept_once u x v one other = elim (let t : (u < x) ⊎ (x < u) ⊎ (u ≡ x) = grind arith in t) [
    | inl before ↦ absurd (kept_order u x v before one other)
    | inr (inl before) ↦ absurd (kept_order x u v before other one)
    | inr (inr same) ↦ same
  ]

  pub edge_out : (u v x w : ℕ) → IsKeptAs p u v → IsKeptAs p x w → HasEdge p.pruned u x → HasEdge p.game v w
  edge_out u v x w from to = (is.edges u v x w from to).0

  pub edge_in : (u v x w : ℕ) → IsKeptAs p u v → IsKeptAs p x w → HasEdge p.game v w → HasEdge p.pruned u x
  edge_in u v x w from to = (is.edges u v x w from to).1
