-- The names that are given to the first vertices of a game.
use Rattle.std.specs.Prelude.{ℕ, List, Option, Some, map}
use Rattle.ps_game.specs.Names.{name_bytes}
use Rattle.ps_game.specs.declared.named.GivenNames.{GivenNames}
use Rattle.ps_game.specs.declared.named.GivenNames.TheVariants.{Optional, All}

-- for each of the first vertices, its name or none
abbrev pub given : GivenNames → List (Option (List ℕ))
given (Optional names) = map name_bytes names.items
given (All names) = map Some names
