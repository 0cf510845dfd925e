-- A literal is a number: twice its variable, plus one if the literal is negated. Variable 0 is always false.
use Rattle.std.specs.Prelude.{ℕ, ◌+◌, ◌-◌, ◌/◌, ◌%◌, ◌==◌, Bool, if◌then◌else◌}

abbrev pub variable : ℕ → ℕ
variable literal = literal / 2

abbrev pub is_negated : ℕ → Bool
is_negated literal = literal % 2 == 1

-- the negation of a literal
abbrev pub negated : ℕ → ℕ
negated literal = if is_negated literal then literal - 1 else literal + 1
