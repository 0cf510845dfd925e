-- If a list has at least `count` names, `with_none count`, which extends a list to `count` names by None, does not
-- change it.
use Rattle.std.proofs.Common.{◌≡◌, ℕ, ◌-◌, ◌≤◌, List, Option, length, arith}
use Rattle.std.proofs.lemmas.List.{append-nil}
use Rattle.ps_game.specs.Names.{with_none}

pub with_none-all : (count : ℕ) (names : List (Option (List ℕ))) → count ≤ length names → with_none count names ≡ names
with_none-all count names all = let none : count - length names ≡ 0 = omega arith in rw none (append-nil names)
