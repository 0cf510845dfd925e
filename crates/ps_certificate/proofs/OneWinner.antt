-- Valid certificates of one game have the same winners. Suppose that one valid certificate gives a vertex to player p,
-- and another one gives it to the other player, q. If player p follows the first certificate from this vertex, and
-- player q the second one, the play has a loop that both players win, which is impossible.
use Rattle.std.proofs.Common.{◌≡◌, ◌≢◌, ◌∙◌, ℕ, zero, suc, ◌+◌, ◌%◌, ◌<◌, inl, inr, Bool, true, false, List, [], ◌∷◌}
use Rattle.std.proofs.Common.{length, Option, Some, refl, sym, ap, subst, arith, eqb, rules}
use Rattle.std.specs.Prelude.{IsSomeAnd, IfSome, slice_index, unwrap_or}
use Rattle.std.proofs.lemmas.Bool.{cases_eq, eq-eqb, ne_eqb}
use Rattle.ps_game.specs.Games.{ParityGame, vertex_count, owner_of, HasEdge}
use Rattle.ps_game.specs.Plays.{IsPath, Follows, loop_priority}
use Rattle.ps_game.proofs.PathsAndLoops.Repeats.{HasLoop-IsPath}
use Rattle.ps_certificate.specs.Certificates.{CertificateData, Fits, IsValid, winner_of, choice_of}
use Rattle.ps_certificate.proofs.FlawsAndValidity.Holding.{BothHold-from_valid}

some_and : (P Q : ℕ → Type 0) (o : Option ℕ) → IsSomeAnd o P → IfSome o Q → (w : ℕ) × (o ≡ Some w) × P w × Q w
some_and P Q o h k = search rules

-- at a vertex that its winner owns, a valid certificate has a move `w`, which is a successor of the vertex
given : (game : ParityGame) (certificate : CertificateData) → Fits game certificate → IsValid game certificate →
    (v : ℕ) → v < vertex_count game → owner_of game v ≡ winner_of certificate v
    → (w : ℕ) × (choice_of certificate v ≡ Some w) × HasEdge game v w × (w < vertex_count game)
given game certificate fits valid v within own = some_and (HasEdge game v) (λ w. w < vertex_count game)
    (choice_of certificate v) ((valid.closed.moves v within).own own) (fits.choices v within)

-- the first `n` vertices of the play from vertex `v`, if `next` gives the successor that is chosen at each vertex
steps : (ℕ → ℕ) → ℕ → ℕ → List ℕ
steps next v zero = []
steps next v (suc n) = v ∷ steps next (next v) n

length-steps : (next : ℕ → ℕ) (v n : ℕ) → length (steps next v n) ≡ n
unfolding steps
length-steps next v zero = refl
length-steps next v (suc n) = ap suc (length-steps next (next v) n)

steps-first : (next : ℕ → ℕ) {v : ℕ} (n : ℕ) → slice_index (steps next v (suc n)) 0 ≡ v
unfolding steps
steps-first next n = refl

steps-next : (next : ℕ → ℕ) (v n k : ℕ) → suc k < n → slice_index (steps next v n) (suc k) ≡ next
    (slice_index (steps next v n) k)
unfolding steps
steps-next next v zero k lt = absurd (omega arith)
steps-next next v (suc zero) k lt = absurd (omega arith)
steps-next next v (suc (suc n)) zero lt = refl
steps-next next v (suc (suc n)) (suc k) lt = steps-next next (next v) (suc n) k (omega arith)

steps-all : (next : ℕ → ℕ) (P : ℕ → Type 0) → ((w : ℕ) → P w → P (next w)) → (v n k : ℕ) → P v → k < n →
    P (slice_index (steps next v n) k)
unfolding steps
steps-all next P keep v zero k h lt = absurd (omega arith)
steps-all next P keep v (suc n) zero h lt = h
steps-all next P keep v (suc n) (suc k) h lt = steps-all next P keep (next v) n k (keep v h) (omega arith)

module _ (game : ParityGame) (one other : CertificateData) (owners : (v : ℕ) → v < vertex_count game →
    owner_of game v < 2)
    (fits : Fits game one) (valid : IsValid game one) (fits' : Fits game other) (valid' : IsValid game other)
    (p q : ℕ) (first : p < 2) (second : q < 2) (differ : p ≢ q) where
  next_if : Bool → ℕ → ℕ
  next_if true v = unwrap_or (choice_of one v) 0
  next_if false v = unwrap_or (choice_of other v) 0

  -- the next vertex of the play in which player p follows the first certificate, and player q the second one
  next : ℕ → ℕ
  next v = next_if (eqb (owner_of game v) p) v

  pub record IsBoth (v : ℕ) : Type 0 where
    pub within : v < vertex_count game
    pub by_one : winner_of one v ≡ p
    pub by_other : winner_of other v ≡ q

  record IsStep (v : ℕ) : Type 0 where
    edge : HasEdge game v (next v)
    within : next v < vertex_count game
    of_one : owner_of game v ≡ p → choice_of one v ≡ Some (next v)
    of_other : owner_of game v ≡ q → choice_of other v ≡ Some (next v)

  next-one : (v : ℕ) {w : ℕ} → owner_of game v ≡ p → choice_of one v ≡ Some w → next v ≡ w
  unfolding next next_if
  next-one v own is = ap (λ b. next_if b v) (eq-eqb (owner_of game v) p own) ∙ ap (λ o. unwrap_or o 0) is

  next-other : (v : ℕ) {w : ℕ} → (owner_of game v ≡ p → ⊥) → choice_of other v ≡ Some w → next v ≡ w
  unfolding next next_if
  next-other v never is = ap (λ b. next_if b v) (ne_eqb (owner_of game v) p never) ∙ ap (λ o. unwrap_or o 0) is

  step : (v : ℕ) → IsBoth v → IsStep v
  step v b = elim (cases_eq (owner_of game v) p) [
    | inl own ↦ search (rules, given, next, next-one)
    | inr never ↦ search (rules, given, next, next-other)
  ]

  keep : (v : ℕ) → IsBoth v → IsBoth (next v)
  keep v b = search (rules, step, next)

  module _ (v : ℕ) (b : IsBoth v) where
    abbrev n : ℕ
    n = suc (vertex_count game)

    path : List ℕ
    path = steps next v n

    path-length : length path ≡ n
    unfolding path
    path-length = length-steps next v n

    path-first : slice_index path 0 ≡ v
    unfolding path
    path-first = steps-first next (vertex_count game)

    both : (k : ℕ) → k < length path → IsBoth (slice_index path k)
    unfolding path
    both k within = steps-all next IsBoth keep v n k b (omega (arith, path-length))

    goes : (k : ℕ) → k + 1 < length path → slice_index path (k + 1) ≡ next (slice_index path k)
    unfolding path
    goes k within = let e : k + 1 ≡ suc k = omega arith in rw e (steps-next next v n k (omega (arith, path-length)))

    step_at : (k : ℕ) → k + 1 < length path → IsStep (slice_index path k)
    step_at k within = step (slice_index path k) (both k (omega arith))

    is_path : IsPath game path
    is_path = record {
      begins = omega (arith, path-length);
      vertices = λ k within. (both k within).within;
      edges = λ k within. subst (HasEdge game (slice_index path k)) (sym (goes k within)) (step_at k within).edge;
    }

    follows_one : Follows game p (choice_of one) path
    follows_one = λ k within own. (step_at k within).of_one own ∙ ap (λ w. Some w) (sym (goes k within))

    follows_other : Follows game q (choice_of other) path
    follows_other = λ k within own. (step_at k within).of_other own ∙ ap (λ w. Some w) (sym (goes k within))

    pub never_both : ⊥
    never_both =
        let loop = HasLoop-IsPath game path is_path (omega (arith, path-length)) in
        let by_one : winner_of one (slice_index path 0) ≡ p = ap (winner_of one) path-first ∙ b.by_one in
        let by_other : winner_of other (slice_index path 0) ≡ q = ap (winner_of other) path-first ∙ b.by_other in
        let wins : loop_priority game path loop.0 loop.1 % 2 ≡ p =
        (BothHold-from_valid game one fits valid p first).wins path loop.0 loop.1 is_path
        (eq-eqb (winner_of one (slice_index path 0)) p by_one) follows_one loop.2 in
        let wins' : loop_priority game path loop.0 loop.1 % 2 ≡ q =
        (BothHold-from_valid game other fits' valid' q second).wins path loop.0 loop.1 is_path
        (eq-eqb (winner_of other (slice_index path 0)) q by_other) follows_other loop.2 in
        differ (sym wins ∙ wins')

pub one_winner : (game : ParityGame) (one other : CertificateData) →
    ((v : ℕ) → v < vertex_count game → owner_of game v < 2) → Fits game one → IsValid game one → Fits game other →
    IsValid game other → (v : ℕ) → v < vertex_count game → winner_of one v ≡ winner_of other v
one_winner game one other owners fits valid fits' valid' v within =
    elim (cases_eq (winner_of one v) (winner_of other v)) [
      | inl same ↦ same
      | inr differ ↦ absurd (never_both game one other owners fits valid fits' valid' (winner_of one v)
          (winner_of other v) (fits.winners v within) (fits'.winners v within) differ v
          (record { within = within; by_one = refl; by_other = refl }))
    ]
