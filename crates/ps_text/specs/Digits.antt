-- Digits, decimal numbers, letters and blanks, from which the tokens of formats are built.
-- - `IsDigit b, IsLetter b, IsBlank b`: the byte is a digit 0 to 9; a letter a to z or A to Z; a byte 9 to 13 or 32
-- - `decimal_value digits`: the number that the digits denote, of any size, including leading zeros
-- - `AreDigits run`: one digit or more, and no other byte
-- - `IsPlainNumber run`: a single 0, or digits that do not begin with 0
use Rattle.std.specs.Prelude.{◌≡◌, ℕ, ◌-◌, ◌<◌, ◌≤◌, ◌⊎◌, List, [], ◌∷◌, length, map}
use Rattle.std.specs.List.{All}
use Rattle.std.specs.Int.Digits.{number_from_digits}

abbrev pub IsDigit : ℕ → Type 0
IsDigit b = (48 ≤ b) × (b ≤ 57)

abbrev pub IsLetter : ℕ → Type 0
IsLetter b = ((65 ≤ b) × (b ≤ 90)) ⊎ ((97 ≤ b) × (b ≤ 122))

abbrev pub IsBlank : ℕ → Type 0
IsBlank b = ((9 ≤ b) × (b ≤ 13)) ⊎ (b ≡ 32)

abbrev pub decimal_value : List ℕ → ℕ
decimal_value digits = number_from_digits 10 (map (λ b. b - 48) digits)

abbrev pub AreDigits : List ℕ → Type 0
AreDigits run = (0 < length run) × All IsDigit run

abbrev pub BeginsWithZero : List ℕ → Type 0
BeginsWithZero [] = ⊥
BeginsWithZero (b ∷ bytes) = b ≡ 48

abbrev pub IsPlainNumber : List ℕ → Type 0
IsPlainNumber run = AreDigits run × (1 < length run → ¬ BeginsWithZero run)
