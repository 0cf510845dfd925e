-- The code of a vertex's level, which is the number that represents the level in the tables. Codes increase with the
-- depth of the recursive call. In one call, the code of decided vertices is less than the code of attracted vertices.
-- Vertices that are neither decided nor attracted have the largest code, `UNPLACED`.
use Rattle.std.specs.Prelude.{ℕ, ◌+◌, ◌*◌}
use Rattle.ps_zielonka.specs.declared.level.Level.{Level}
use Rattle.ps_zielonka.specs.declared.level.Level.TheVariants.{Decided, Attracted, Unplaced}
use Rattle.ps_zielonka.specs.declared.level.TheConstants.{UNPLACED}

abbrev pub code_of : Level → ℕ
code_of (Decided depth) = 2 * depth + 1
code_of (Attracted depth) = 2 * depth + 2
code_of Unplaced = UNPLACED
