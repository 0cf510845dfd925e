-- Lemmas about the invariants of the certificate writer's loops: what a loop has written so far.
-- - `all_taken`, `all_taken_all`: a property holds for all elements that a loop has taken so far
-- - `head_joined`: the lines of a certificate that come before the lines of the vertices are written one after the
--   other
use Rattle.std.proofs.Common.{◌≡◌, ℕ, ◌+◌, ◌<◌, List, [], ◌∷◌, ◌++◌, length, get_or}
use Rattle.std.proofs.Common.{take, append_assoc, arith}
use Rattle.std.specs.List.{All}
use Rattle.std.proofs.Math.Seq.{take-suc}
use Rattle.std.proofs.lemmas.List.Elements.{All-nil, All-cons, All-append}

pub all_taken : {X : Type 0} (P : X → Type 0) (xs : List X) (v : ℕ) (d : X) → v < length xs → All P (take v xs)
    → P (get_or xs v d) → All P (take (v + 1) xs)
all_taken P xs v d lt h p =
    let x = get_or xs v d in
    grind (arith, take-suc xs v d lt, All-append P (take v xs) (x ∷ []) h (All-cons P x [] p (All-nil P)))

eight_joined : (o w a b c d e f g : List ℕ) → (((((((o ++ w) ++ a) ++ b) ++ c) ++ d) ++ e) ++ f) ++ g ≡ o ++
    (((((((w ++ a) ++ b) ++ c) ++ d) ++ e) ++ f) ++ g)
eight_joined o w a b c d e f g = simp (append_assoc)

pub head_joined : (o w : List ℕ) (v : ℕ) (a b c d e f : List ℕ) → ((((((((o ++ w) ++ v ∷ []) ++ a) ++ b) ++ c) ++ d)
    ++ 10 ∷ e) ++ f) ++ 10 ∷ [] ≡ o ++ (((((((w ++ v ∷ a) ++ b) ++ c) ++ d) ++ 10 ∷ e) ++ f) ++ 10 ∷ [])
head_joined o w v a b c d e f = grind (arith, append_assoc, eight_joined)
