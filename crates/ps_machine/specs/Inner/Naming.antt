-- The bytes of the vertices' names. (For private functions.)
use Rattle.std.specs.Prelude.{◌≢◌, ℕ, List, [], ◌∷◌, Bool, if◌then◌else◌}
use Rattle.std.specs.List.{All}
use Rattle.ps_game.specs.Games.{quote}

-- the bytes contain no quote, so they can be written between two quotes
abbrev pub IsPlain : List ℕ → Type 0
IsPlain bytes = All (λ b. b ≢ quote) bytes

-- the digit for a truth value, or no byte if `is_played` is false; the bytes 48 and 49 are the digits 0 and 1
abbrev pub digit_if : Bool → Bool → List ℕ
digit_if is_played is_true = if is_played then (if is_true then 49 else 48) ∷ [] else []
