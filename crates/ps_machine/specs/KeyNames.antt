-- The names of the vertices of an automaton's game.
-- - `state_name states q`: the state's number, or `sink`
-- - `letter_digits board x`: a digit for each proposition of the player who moves first: its truth value in x
-- - `key_name board key`: the name of a key, which is `q/p` or `q:digits`
-- - `AreNamed board keys game`: the id of each vertex is its number, and the name of each vertex is that of its key
use Rattle.std.specs.Prelude.{◌≡◌, ℕ, zero, suc, List, [], ◌∷◌, ◌++◌, length, map, Option, Some, decimal, codes}
use Rattle.std.specs.Prelude.{if◌then◌else◌, nat_eq}
use Rattle.std.specs.List.{range_with_len}
use Rattle.ps_label.specs.Truth.{is_in}
use Rattle.ps_game.specs.Games.{NamedGameData}
use Rattle.ps_machine.specs.Boards.{Board}
use Rattle.ps_machine.specs.declared.key.Key.{Key}
use Rattle.ps_machine.specs.declared.key.Key.TheVariants.{First, Second}

abbrev pub state_name : ℕ → ℕ → List ℕ
state_name states q = if nat_eq q states then codes "sink" else decimal q

-- the digit of the proposition p in a letter of the first player, or no byte if p is not the first player's; the bytes
-- 48 and 49 are the digits 0 and 1
abbrev pub letter_digit : Board → ℕ → ℕ → List ℕ
letter_digit board x p = if board.is_first p then (if is_in p x then 49 else 48) ∷ [] else []

-- for each of the first player's propositions less than n, the digit of its truth value in x
abbrev pub first_digits : Board → ℕ → ℕ → List ℕ
first_digits board x zero = []
first_digits board x (suc n) = first_digits board x n ++ letter_digit board x n

abbrev pub letter_digits : Board → ℕ → List ℕ
letter_digits board x = first_digits board x board.propositions

abbrev pub key_name : Board → Key → List ℕ
key_name board (First q p) = state_name board.states q ++ codes "/" ++ decimal p
key_name board (Second q x) = state_name board.states q ++ codes ":" ++ letter_digits board x

abbrev pub key_names : Board → List Key → List (Option (List ℕ))
key_names board keys = map (λ key. Some (key_name board key)) keys

pub record AreNamed (board : Board) (keys : List Key) (game : NamedGameData) : Type 0 where
  pub ids : game.ids ≡ range_with_len 0 (length keys)
  pub names : game.names ≡ key_names board keys
