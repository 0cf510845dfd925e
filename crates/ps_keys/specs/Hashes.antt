-- Hashes of numbers.
use Rattle.std.specs.Prelude.{ℕ, ◌-◌, ◌*◌, ◌/◌, ◌^◌, bit_and, bit_xor}

-- the halves of the 128 bits of a * b, joined by exclusive or
unfoldable pub folded : ℕ → ℕ → ℕ
folded a b = bit_xor (bit_and (a * b) (2 ^ 64 - 1)) (a * b / 2 ^ 64)

-- the hash of two numbers for a seed
abbrev pub mixed : ℕ → ℕ → ℕ → ℕ
mixed seed first second = folded (bit_xor seed first) (bit_xor 0x9e37_79b9_7f4a_7c15 second)
