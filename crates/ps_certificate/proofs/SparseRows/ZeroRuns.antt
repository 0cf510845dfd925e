-- To write a run of zero counts, the writer of a certificate takes a prefix of a fixed text of zeros.
use Rattle.std.proofs.Common.{◌≡◌, ℕ, zero, suc, ◌+◌, ◌*◌, ◌≤◌, ◌∙◌, List, [], ◌∷◌, ◌++◌, take, drop, replicate, refl}
use Rattle.std.proofs.Common.{sym, ap, arith}
use Rattle.std.specs.Prelude.{decimal}
use Rattle.std.proofs.lemmas.Fmt.{decimal_digit}
use Rattle.std.proofs.lemmas.List.{append_assoc, take-append-drop, drop-drop}
use Rattle.ps_certificate.specs.Written.{fields}

fields-append : (xs ys : List ℕ) → fields (xs ++ ys) ≡ fields xs ++ fields ys
fields-append [] ys = refl
fields-append (x ∷ xs) ys = grind (arith, append_assoc (decimal x) (fields xs) (fields ys), fields-append xs ys)

-- the text of `n` zeros, each after a space
abbrev pub zeros_text : ℕ → List ℕ
zeros_text zero = []
zeros_text (suc n) = 32 ∷ 48 ∷ zeros_text n

pub fields-zeros : (n : ℕ) → zeros_text n ≡ fields (replicate n 0)
fields-zeros zero = refl
fields-zeros (suc n) = ap (λ text. 32 ∷ 48 ∷ text)
    (fields-zeros n) ∙ ap (λ digits. 32 ∷ digits ++ fields (replicate n 0)) (sym (decimal_digit 0 (omega arith)))

-- the text of fewer zeros, each after a space, is a prefix of the text of more zeros
pub take-zeros : (n m : ℕ) → n ≤ m → take (2 * n) (zeros_text m) ≡ zeros_text n
take-zeros zero m few = refl
take-zeros (suc n) zero few = absurd (omega (arith, few))
take-zeros (suc n) (suc m) few = let twice : 2 * suc n ≡ suc (suc (2 * n)) = omega arith in
    ap (λ k. take k (32 ∷ 48 ∷ zeros_text m)) twice ∙ ap (λ text. 32 ∷ 48 ∷ text) (take-zeros n m (omega (arith, few)))

-- after the leading zeros of the remaining counts are written, the text so far is still a prefix of the whole text
pub zeros_written : (out numbers : List ℕ) {total : List ℕ} (place n : ℕ) →
    take n (drop place numbers) ≡ replicate n 0 → out ++ fields (drop place numbers) ≡ total →
    (out ++ fields (replicate n 0)) ++ fields (drop (place + n) numbers) ≡ total
zeros_written out numbers place n zeros so_far = grind (
  arith,
  append_assoc out (fields (replicate n 0)) (fields (drop (place + n) numbers)),
  fields-append
      (replicate n 0) (drop (place + n) numbers),
  drop-drop n place numbers,
  take-append-drop n (drop place numbers),
)
