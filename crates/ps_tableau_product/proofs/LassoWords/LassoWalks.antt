-- Infinite walks: a stem, and then a lap again and again.
-- - `along d stem lap i`: the entry at index i of a stem and a lap that repeats
-- - `along_both`: what holds of the entries of two stems and of two laps holds along them
-- - `Walks source Step v xs w`: each entry of the list leads to the source of the next one
-- - `starts`, `goes`: along a walk to a closed walk, each entry leads to the source of the next one
use Rattle.std.proofs.Common.{◌≡◌, ℕ, zero, suc, ◌-◌, ◌%◌, ◌<◌, ◌≤◌, inl, inr, List, [], ◌∷◌, length, get_or}
use Rattle.std.proofs.Common.{sym, ap, subst, ◌∙◌, arith}
use Rattle.std.specs.Prelude.{nat_lt, if◌then◌else◌}
use Rattle.std.proofs.lemmas.Bool.{cases_lt, le-ltb, lt-ltb}
use Rattle.std.proofs.Math.Nat.{mod-eq_of_lt, mod-lt, mod_self, suc-mod}

abbrev pub along : {X : Type 0} → X → List X → List X → ℕ → X
along d stem lap i =
    if nat_lt i (length stem) then get_or stem i d else get_or lap ((i - length stem) % length lap) d

pub in_stem : {X : Type 0} (d : X) (stem lap : List X) (i : ℕ) → i < length stem → along d stem lap i ≡ get_or stem i d
in_stem d stem lap i low = rw (lt-ltb i (length stem) low)

pub in_lap : {X : Type 0} (d : X) (stem lap : List X) (i : ℕ) → length stem ≤ i →
    along d stem lap i ≡ get_or lap ((i - length stem) % length lap) d
in_lap d stem lap i high = rw (le-ltb i (length stem) high)

pub along_both : {X Y : Type 0} (R : X → Y → Type 0) (d : X) (e : Y) (stem lap : List X) (stem' lap' : List Y) →
    length stem ≡ length stem' → length lap ≡ length lap' → 0 < length lap →
    ((k : ℕ) → k < length stem → R (get_or stem k d) (get_or stem' k e)) →
    ((k : ℕ) → k < length lap → R (get_or lap k d) (get_or lap' k e)) → (i : ℕ) →
    R (along d stem lap i) (along e stem' lap' i)
along_both {X} {Y} R d e stem lap stem' lap' same same' some in_stems in_laps i = elim (cases_lt i (length stem)) [
  | inl low ↦
      let here = in_stem d stem lap i low in
      let there = in_stem e stem' lap' i (omega arith) in
      subst (λ (x : X). R x (along e stem' lap' i)) (sym here)
      (subst (R (get_or stem i d)) (sym there) (in_stems i low))
  | inr high ↦
      let k = (i - length stem) % length lap in
      let here = in_lap d stem lap i high in
      let there : along e stem' lap' i ≡ get_or lap' k e =
      in_lap e stem' lap' i (omega arith) ∙ ap (λ (n : ℕ). get_or lap' ((i - n) % length lap') e) (sym same)
      ∙ ap (λ (n : ℕ). get_or lap' ((i - length stem) % n) e) (sym same') in
      subst (λ (x : X). R x (along e stem' lap' i)) (sym here)
      (subst (R (get_or lap k d)) (sym there) (in_laps k (mod-lt (i - length stem) some)))
]

module _ {X S : Type 0} (source : X → S) (Step : X → S → Type 0) where
  abbrev pub Walks : S → List X → S → Type 0
  Walks v [] w = v ≡ w
  Walks v (x ∷ xs) w = (u : S) × (source x ≡ v) × Step x u × Walks u xs w

  begins : (v w : S) (xs : List X) (d : X) → Walks v xs w → 0 < length xs → source (get_or xs 0 d) ≡ v
  begins v w [] d walk some = absurd (omega arith)
  begins v w (x ∷ xs) d (u, at, step, rest) some = at

  steps_on : (v w : S) (xs : List X) (k : ℕ) (d : X) → Walks v xs w → suc k < length xs →
      Step (get_or xs k d) (source (get_or xs (suc k) d))
  steps_on v w [] k d walk low = absurd (omega arith)
  steps_on v w (x ∷ xs) zero d (u, at, step, rest) low =
      subst (Step x) (sym (begins u w xs d rest (omega arith))) step
  steps_on v w (x ∷ xs) (suc k) d (u, at, step, rest) low = steps_on u w xs k d rest (omega arith)

  steps_out : (v w : S) (xs : List X) (k : ℕ) (d : X) → Walks v xs w → suc k ≡ length xs → Step (get_or xs k d) w
  steps_out v w [] k d walk e = absurd (omega arith)
  steps_out v w (x ∷ []) zero d (u, at, step, rest) e = subst (Step x) rest step
  steps_out v w (x ∷ []) (suc k) d (u, at, step, rest) e = absurd (omega arith)
  steps_out v w (x ∷ y ∷ ys) zero d (u, at, step, rest) e = absurd (omega arith)
  steps_out v w (x ∷ y ∷ ys) (suc k) d (u, at, step, rest) e = steps_out u w (y ∷ ys) k d rest (omega arith)

  moved : {x y : X} {s r : S} → x ≡ y → s ≡ r → Step y r → Step x s
  moved {x} {y} {s} {r} e g step = subst (λ (z : X). Step z s) (sym e) (subst (Step y) (sym g) step)

  pub starts : (d : X) (v w : S) (stem lap : List X) → Walks v stem w → Walks w lap w → 0 < length lap →
      source (along d stem lap 0) ≡ v
  starts d v w [] lap there back some =
      ap source (in_lap d [] lap 0 (omega arith)) ∙ ap (λ (k : ℕ). source (get_or lap k d)) (mod-eq_of_lt some)
      ∙ begins w w lap d back some ∙ sym there
  starts d v w (x ∷ xs) lap there back some = ap source (in_stem d (x ∷ xs) lap 0 (omega arith)) ∙ there.1

  module _ (d : X) (v w : S) (stem lap : List X) (there : Walks v stem w) (back : Walks w lap w) (some : 0 < length lap)
    where
      -- behind the stem, the next index is the next one of the lap, or its first one
      behind : (i : ℕ) → length stem ≤ i → Step (along d stem lap i) (source (along d stem lap (suc i)))
      behind i high =
          let n = i - length stem in
          let k = n % length lap in
          let low = mod-lt n some in
          let here = in_lap d stem lap i high in
          let later : suc i - length stem ≡ suc n = omega arith in
          let next : along d stem lap (suc i) ≡ get_or lap (suc k % length lap) d =
          in_lap d stem lap (suc i) (omega arith) ∙ ap (λ (m : ℕ). get_or lap (m % length lap) d) later
          ∙ ap (λ (m : ℕ). get_or lap m d) (suc-mod n (length lap)) in
          elim (cases_lt (suc k) (length lap)) [
            | inl inside ↦ moved here
                (ap source (next ∙ ap (λ (m : ℕ). get_or lap m d) (mod-eq_of_lt inside)))
                (steps_on w w lap k d back inside)
            | inr outside ↦
                let last : suc k ≡ length lap = omega arith in
                let wraps : suc k % length lap ≡ 0 =
                ap (λ (m : ℕ). m % length lap) last ∙ mod_self (length lap) in
                moved here
                (ap source (next ∙ ap (λ (m : ℕ). get_or lap m d) wraps) ∙ begins w w lap d back some)
                (steps_out w w lap k d back last)
          ]

      pub goes : (i : ℕ) → Step (along d stem lap i) (source (along d stem lap (suc i)))
      goes i = elim (cases_lt i (length stem)) [
        | inr high ↦ behind i high
        | inl low ↦
            let here = in_stem d stem lap i low in
            elim (cases_lt (suc i) (length stem)) [
              | inl inside ↦ moved here (ap source (in_stem d stem lap (suc i) inside))
                  (steps_on v w stem i d there inside)
              | inr outside ↦
                  let last : suc i ≡ length stem = omega arith in
                  let first : suc i - length stem ≡ 0 = omega arith in
                  let next : along d stem lap (suc i) ≡ get_or lap 0 d =
                  in_lap d stem lap (suc i) outside ∙ ap (λ (m : ℕ). get_or lap (m % length lap) d) first
                  ∙ ap (λ (m : ℕ). get_or lap m d) (mod-eq_of_lt some) in
                  moved here (ap source next ∙ begins w w lap d back some) (steps_out v w stem i d there last)
            ]
      ]
