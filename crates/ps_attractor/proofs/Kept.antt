-- Storing a level and reading it back gives the same level.
use Rattle.std.proofs.Common.{◌≡◌, ℕ, zero, suc, ◌^◌, ◌<◌, ◌∷◌, map, replicate, ap, refl, rules}
use Rattle.std.specs.Prelude.{min}
use Rattle.std.proofs.lemmas.Bool.Decides.{nat_tests}
use Rattle.ps_attractor.specs.Levels.{level_in, IsLevel}

pub level_kept : (limit most level number : ℕ) → most ≡ limit → most < 2 ^ 64 → IsLevel limit level →
    number ≡ min level most → level_in limit number ≡ level
level_kept limit most level number h k m n = search (rules, nat_tests)

pub map-replicate : (f : ℕ → ℕ) (n x : ℕ) → map f (replicate n x) ≡ replicate n (f x)
map-replicate f zero x = refl
map-replicate f (suc n) x = ap (λ xs. f x ∷ xs) (map-replicate f n x)
