-- Negations of formulas along a word along which each formula is true or false.
use Rattle.std.proofs.Common.{ℕ, ◌+◌, ◌-◌, ◌<◌, ◌≤◌, ◌⊎◌, suc, zero, inl, inr, arith, subst, sym}
use Rattle.std.proofs.Math.Nat.{eq-or-lt_of_le}
use Rattle.ps_formula.specs.Satisfaction.{Reaches, Keeps}

-- ## Until and release of equivalent predicates

pub reaches_like : {A B C D : ℕ → Type 0} → ((k : ℕ) → A k → C k) → ((k : ℕ) → B k → D k) → (i : ℕ) → Reaches A B i →
    Reaches C D i
reaches_like left right i r = record {
  end = r.end;
  later = r.later;
  there = right r.end r.there;
  before = λ k low high. left k (r.before k low high);
}

pub keeps_like : {A B C D : ℕ → Type 0} → ((k : ℕ) → A k → C k) → ((k : ℕ) → B k → D k) → (i : ℕ) → Keeps A B i →
    Keeps C D i
keeps_like left right i r = record {
  each = λ j low. elim (r.each j low) [
    | inl there ↦ inl (right j there)
    | inr ended ↦ inr (ended.0, ended.1, ended.2, left ended.0 ended.3)
  ];
}

-- ## The negation of until

-- before an index, a decided predicate is true everywhere, or false somewhere
all_or_not : (A : ℕ → Type 0) → ((k : ℕ) → A k ⊎ (¬ A k)) → (i count : ℕ) →
    ((k : ℕ) → i ≤ k → k < i + count → A k) ⊎ ((k : ℕ) × (i ≤ k) × (k < i + count) × (¬ A k))
all_or_not A decide i zero = inl (λ k low high. absurd (omega arith))
all_or_not A decide i (suc count) = elim (all_or_not A decide i count) [
  | inr some ↦ inr (some.0, some.1, (let h = some.2 in omega arith), some.3)
  | inl all ↦ elim (decide (i + count)) [
    | inr here ↦ inr (i + count, omega arith, omega arith, here)
    | inl here ↦ inl (λ k low high. let most : k ≤ i + count = omega arith in elim (eq-or-lt_of_le most) [
      | inl is ↦ subst A (sym is) here
      | inr less ↦ all k low less
    ])
  ]
]

pub keeps_is_no_reach : {A B : ℕ → Type 0} (i : ℕ) → Keeps (λ k. ¬ A k) (λ k. ¬ B k) i → ¬ Reaches A B i
keeps_is_no_reach i keeps r = elim (keeps.each r.end r.later) [
  | inl never ↦ never r.there
  | inr ended ↦ ended.3 (r.before ended.0 ended.1 ended.2)
]

pub no_reach_keeps : {A B : ℕ → Type 0} → ((k : ℕ) → A k ⊎ (¬ A k)) → (i : ℕ) → ¬ Reaches A B i →
    Keeps (λ k. ¬ A k) (λ k. ¬ B k) i
no_reach_keeps {A} {B} decide i never = record {
  each = λ j low.
      elim (all_or_not A decide i (j - i)) [
        | inl all ↦ inl (λ b. never (record {
          end = j;
          later = low;
          there = b;
          before = λ k start high. all k start (omega arith);
        }))
        | inr some ↦ inr (some.0, some.1, (let h = some.2 in omega arith), some.3)
      ];
}

-- ## Connectives

pub not_both : {P Q : Type 0} → P ⊎ (¬ P) → ¬ (P × Q) → (¬ P) ⊎ (¬ Q)
not_both (inl p) h = inr (λ q. h (p, q))
not_both (inr not_p) h = inl not_p

pub not_not : {P : Type 0} → P ⊎ (¬ P) → ¬ (¬ P) → P
not_not (inl p) h = p
not_not (inr not_p) h = absurd (h not_p)
