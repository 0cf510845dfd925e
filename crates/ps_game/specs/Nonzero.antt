-- The nonzero counts of a list of counts.
use Rattle.std.specs.Prelude.{ℕ, ◌+◌, ◌==◌, if◌then◌else◌, List, [], ◌∷◌}
use Rattle.ps_game.specs.declared.nonzero.NonzeroCount.{NonzeroCount}

-- the nonzero counts of a list, each with its index, by ascending index; the first count of the list has the index
-- `place`
abbrev pub nonzero_from : ℕ → List ℕ → List NonzeroCount
nonzero_from place [] = []
nonzero_from place (c ∷ cs) =
    if c == 0 then nonzero_from (place + 1) cs else record { place = place; count = c } ∷ nonzero_from (place + 1) cs
