-- The ids of a game's vertices, and the table that gives the index of each id.
use Rattle.std.specs.Prelude.{◌≡◌, ℕ, List, Option}
use Rattle.std.specs.Option.{ForNone, ForSome}
use Rattle.ps_game.specs.Drafts.{AreOwn}

-- the table has the ids, or there is no table and each id is its own index
pub record AreFound (ids : List ℕ) (table : Option (List ℕ)) : Type 0 where
  pub own : ForNone table (AreOwn ids)
  pub whole : ForSome table (λ listed. listed ≡ ids)
