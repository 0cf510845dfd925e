-- The abstract value of a stimulus.
use Rattle.std.specs.Prelude.{ℕ, zero, suc, Bool, List, [], ◌∷◌, map, take, drop, Vec}
use Rattle.std.specs.Global.{Global}

-- the letters of the stem, which are read once, and the letters of the lap, which are read repeatedly; each letter has
-- a bit for each input
pub record StimulusData : Type 0 where
  pub stem : List (List Bool)
  pub lap : List (List Bool)

abbrev pub letters_of : List (Vec Bool Global) → List (List Bool)
letters_of letters = map (λ letter. letter.items) letters

-- a given number of letters of a given width, cut from a single list of bits
abbrev pub letters_in : ℕ → ℕ → List Bool → List (List Bool)
letters_in width zero bits = []
letters_in width (suc count) bits = take width bits ∷ letters_in width count (drop width bits)

-- a stimulus that has only a stem
abbrev pub stem_of : List (List Bool) → StimulusData
stem_of letters = record { stem = letters; lap = [] }
