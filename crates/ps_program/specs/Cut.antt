-- The input is divided into its first line and its texts.
use Rattle.std.specs.Prelude.{◌≡◌, ◌⊎◌, ◌+◌, ◌-◌, ◌<◌, ◌==◌, ◌&&◌, ◌||◌, ℕ, zero, suc, Bool, true, false, List, [], ◌∷◌}
use Rattle.std.specs.Prelude.{length, take, drop, slice_index, nat_le}
use Rattle.std.specs.List.{before_first, after_first}

-- the first line of the input, without its newline
abbrev pub first_line : List ℕ → List ℕ
first_line input = before_first (λ byte. byte == 10) input

-- the part of the input after the first line and its newline
abbrev pub behind_line : List ℕ → List ℕ
behind_line input = after_first (λ byte. byte == 10) input

-- whether a line of the text begins at the offset `place`
abbrev pub begins_line : List ℕ → ℕ → Bool
begins_line text place = place == 0 || slice_index text (place - 1) == 10

-- whether the text or one of its lines ends at the offset `place`
abbrev pub ends_line_at : List ℕ → ℕ → Bool
ends_line_at text place = nat_le (length text) place || slice_index text place == 10

-- whether a line `%%` begins at the offset `place` of the text
abbrev pub is_separator : List ℕ → ℕ → Bool
is_separator text place = begins_line text place
    && (slice_index text place == 37 && (slice_index text (place + 1) == 37 && ends_line_at text (place + 2)))

-- no line of the text is `%%`
abbrev pub HasNoSeparator : List ℕ → Type 0
HasNoSeparator text = (place : ℕ) → place < length text → is_separator text place ≡ false

-- the first line `%%` of the text separates its first part from its second
pub record Cuts (text first second : List ℕ) : Type 0 where
  pub separator : ℕ
  pub within : separator < length text
  pub stands : is_separator text separator ≡ true
  pub none_before : (place : ℕ) → place < separator → is_separator text place ≡ false
  pub before : first ≡ take separator text
  pub behind : second ≡ drop (separator + 3) text

-- the texts of an input, separated by the first lines `%%` of the input; further lines `%%` belong to the last text
abbrev pub AreTexts : List ℕ → List (List ℕ) → Type 0
AreTexts input [] = ⊥
AreTexts input (last ∷ []) = last ≡ input
AreTexts input (first ∷ second ∷ more) = (rest : List ℕ) × Cuts input first rest × AreTexts rest (second ∷ more)

-- the input has fewer lines `%%` than the given number
abbrev pub HasFewerSeparators : ℕ → List ℕ → Type 0
HasFewerSeparators zero input = ⊥
HasFewerSeparators (suc count) input =
    HasNoSeparator input ⊎ ((first : List ℕ) × (rest : List ℕ) × Cuts input first rest × HasFewerSeparators count rest)
