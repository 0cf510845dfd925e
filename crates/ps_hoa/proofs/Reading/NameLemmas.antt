-- Comparing two texts gives the same result in either order.
use Rattle.std.proofs.Common.{◌≡◌, ℕ, Bool, true, List, rules}
use Rattle.std.specs.Str.{bytes_eq}
use Rattle.std.proofs.lemmas.Slice.Eq.{bytes_eq-Decides}

pub same_by : (a b : Bool) → (a ≡ true → b ≡ true) → (b ≡ true → a ≡ true) → a ≡ b
same_by a b h k = search rules

pub bytes_eq-sym : (xs ys : List ℕ) → bytes_eq xs ys ≡ bytes_eq ys xs
bytes_eq-sym xs ys = search (rules, same_by, bytes_eq-Decides)
