-- Each subgame has a vertex of its greatest priority, or has no vertex.
use Rattle.std.proofs.Common.{◌≡◌, ℕ, zero, suc, ◌<◌, ◌≤◌, ◌⊎◌, inl, inr, Bool, true, false, sym, subst, ap, ◌∙◌, arith}
use Rattle.std.specs.Prelude.{IsTrue}
use Rattle.std.proofs.lemmas.Bool.{cases_Bool, cases_eq, cases_lt, false≢true}
use Rattle.ps_game.specs.Games.{ParityGame, priority_of}

module _ (game : ParityGame) (subgame : ℕ → Bool) where
  pub record IsGreatest (n v : ℕ) : Type 0 where
    pub within : v < n
    pub inside : IsTrue (subgame v)
    pub greatest : (u : ℕ) → u < n → IsTrue (subgame u) → priority_of game u ≤ priority_of game v

  pub top_there : (n : ℕ) → ((u : ℕ) → u < n → subgame u ≡ false) ⊎ ((v : ℕ) × IsGreatest n v)
  top_there zero = inl (λ u less. absurd (omega (arith, less)))
  top_there (suc n) = go (top_there n) (cases_Bool (subgame n))
    where
      none_more : ((u : ℕ) → u < n → subgame u ≡ false) → subgame n ≡ false → (u : ℕ) → u < suc n → subgame u ≡ false
      none_more none out u less = elim (cases_eq u n) [
        | inl same ↦ subst (λ (x : ℕ). subgame x ≡ false) (sym same) out
        | inr other ↦ none u (omega arith)
      ]

      -- the case in which the last vertex is in the subgame, and no earlier one has a greater priority
      last : IsTrue (subgame n) → ((u : ℕ) → u < n → IsTrue (subgame u) → priority_of game u ≤ priority_of game n) →
          IsGreatest (suc n) n
      last inside at_most = record {
        within = omega arith;
        inside = inside;
        greatest = λ u less there. elim (cases_eq u n) [
          | inl same ↦ let e : priority_of game u ≡ priority_of game n = ap (priority_of game) same in omega arith
          | inr other ↦ at_most u (omega arith) there
        ];
      }

      -- if the last vertex is outside the subgame, or its priority is at most that of v, then v, which has the greatest
      -- priority among the earlier vertices, also has it among all
      earlier : (v : ℕ) → IsGreatest n v → (IsTrue (subgame n) → priority_of game n ≤ priority_of game v) →
          IsGreatest (suc n) v
      earlier v g at_most = record {
        within = omega (arith, g.within);
        inside = g.inside;
        greatest = λ u less there. elim (cases_eq u n) [
          | inl same ↦
              let e : priority_of game u ≡ priority_of game n = ap (priority_of game) same in
              omega (arith, at_most (subst (λ (x : ℕ). subgame x ≡ true) same there))
          | inr other ↦ g.greatest u (omega arith) there
        ];
      }

      go : ((u : ℕ) → u < n → subgame u ≡ false) ⊎ ((v : ℕ) × IsGreatest n v) →
          (subgame n ≡ true) ⊎ (subgame n ≡ false) →
          ((u : ℕ) → u < suc n → subgame u ≡ false) ⊎ ((v : ℕ) × IsGreatest (suc n) v)
      go (inl none) (inr out) = inl (none_more none out)
      go (inl none) (inl inside) =
          inr (n, last inside (λ u less there. absurd (false≢true (sym (none u less) ∙ there))))
      go (inr (v, g)) (inr out) = inr (v, earlier v g (λ inside. absurd (false≢true (sym out ∙ inside))))
      go (inr (v, g)) (inl inside) = elim (cases_lt (priority_of game v) (priority_of game n)) [
        | inl less ↦ inr (n, last inside (λ u below there. omega (arith, less, g.greatest u below there)))
        | inr at_most ↦ inr (v, earlier v g (λ _. at_most))
      ]
