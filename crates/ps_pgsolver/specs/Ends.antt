-- Tests of the first and the last byte of a text: whether it is, for instance, a digit or a letter.
use Rattle.std.specs.Prelude.{ℕ, Bool, false, List, [], ◌∷◌}

-- whether the last byte of a text passes the test `p`
abbrev pub ends_in : (ℕ → Bool) → List ℕ → Bool
ends_in p [] = false
ends_in p (b ∷ []) = p b
ends_in p (b ∷ c ∷ cs) = ends_in p (c ∷ cs)

-- whether the first byte of a text passes the test `p`
abbrev pub begins_in : (ℕ → Bool) → List ℕ → Bool
begins_in p [] = false
begins_in p (b ∷ bs) = p b
