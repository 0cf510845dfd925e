-- Each input can be divided into texts at its lines `%%`, or has too few of these lines.
use Rattle.std.proofs.Common.{◌≡◌, ℕ, zero, suc, ◌+◌, ◌<◌, ◌⊎◌, Bool, true, false, List, length, take, drop, Ok}
use Rattle.std.proofs.Common.{Err, refl, inl, inr, arith, subst, sym}
use Rattle.std.proofs.lemmas.Bool.{cases_Bool, cases_eq}
use Rattle.ps_program.specs.Cut.{Cuts, HasNoSeparator, is_separator}
use Rattle.ps_program.specs.Texts.{CutsInTwo, CutsInThree, missing_text}
use Rattle.ps_program.proofs.AtLeastOne.SomeStep.{HasSome}

-- `place` is the least number less than n that passes the test
pub record IsFirst (test : ℕ → Bool) (n place : ℕ) : Type 0 where
  pub within : place < n
  pub passes : test place ≡ true
  pub before : (k : ℕ) → k < place → test k ≡ false

pub none_or_first : (test : ℕ → Bool) (n : ℕ) →
    ((k : ℕ) → k < n → test k ≡ false) ⊎ ((place : ℕ) × IsFirst test n place)
none_or_first test zero = inl (λ k below. absurd (omega (arith, below)))
none_or_first test (suc n) = go (none_or_first test n)
  where
    next : ((k : ℕ) → k < n → test k ≡ false) → test n ≡ false → (k : ℕ) → k < suc n → test k ≡ false
    next none last k below = elim (cases_eq k n) [
      | inl same ↦ subst (λ (j : ℕ). test j ≡ false) (sym same) last
      | inr differ ↦ none k (omega arith)
    ]

    go : ((k : ℕ) → k < n → test k ≡ false) ⊎ ((place : ℕ) × IsFirst test n place) →
        ((k : ℕ) → k < suc n → test k ≡ false) ⊎ ((place : ℕ) × IsFirst test (suc n) place)
    go (inr (place, found)) = inr (
      place,
      record {
        within = omega (arith, found.within);
        passes = found.passes;
        before = found.before;
      },
    )
    go (inl none) = elim (cases_Bool (test n)) [
      | inl passes ↦ inr (n, record { within = omega arith; passes = passes; before = none })
      | inr fails ↦ inl (next none fails)
    ]

-- an input has no line `%%`, or is divided at the first one
cuts_or_none : (text : List ℕ) →
    HasNoSeparator text ⊎ ((first : List ℕ) × (second : List ℕ) × Cuts text first second)
cuts_or_none text = elim (none_or_first (is_separator text) (length text)) [
  | inl none ↦ inl none
  | inr (separator, found) ↦ inr (
    take separator text,
    drop (separator + 3) text,
    record {
      separator = separator;
      within = found.within;
      stands = found.passes;
      none_before = found.before;
      before = refl;
      behind = refl;
    },
  )
]

pub two_some : (texts : List ℕ) → HasSome (CutsInTwo texts)
two_some texts = elim (cuts_or_none texts) [
  | inl none ↦ (Err missing_text, (inl none, refl))
  | inr (first, second, cuts) ↦ (Ok (first, second), (second, cuts, refl))
]

pub three_some : (texts : List ℕ) → HasSome (CutsInThree texts)
three_some texts = elim (cuts_or_none texts) [
  | inl none ↦ (Err missing_text, (inl none, refl))
  | inr (first, rest, cuts) ↦ elim (cuts_or_none rest) [
    | inl none ↦ (Err missing_text, (inr (first, rest, cuts, inl none), refl))
    | inr (second, third, again) ↦ (Ok (first, second, third), (rest, cuts, (third, again, refl)))
  ]
]
