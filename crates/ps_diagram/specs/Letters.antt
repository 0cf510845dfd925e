-- Letters (truth values of propositions) as numbers and as functions, and the order of letters.
use Rattle.std.specs.Prelude.{◌≡◌, ℕ, zero, suc, ◌+◌, ◌^◌, ◌<◌, Bool, true, false, cond}
use Rattle.ps_label.specs.Truth.{is_in}

-- the letter of a number: the truth value of the proposition p is bit p; the lowest bit is bit 0
abbrev pub assignment : ℕ → ℕ → Bool
assignment letter p = is_in p letter

-- the number, less than 2 ^ n, of a letter over n propositions
abbrev pub letter_of : ℕ → (ℕ → Bool) → ℕ
letter_of zero f = 0
letter_of (suc n) f = letter_of n f + cond (f n) (2 ^ n) 0

-- x comes before y: at the first proposition at which they differ, x is false and y is true
pub record IsBefore (x y : ℕ) : Type 0 where
  pub first : ℕ
  pub is_false : is_in first x ≡ false
  pub is_true : is_in first y ≡ true
  pub same : (p : ℕ) → p < first → is_in p x ≡ is_in p y

-- x and y agree at each proposition of the mask
abbrev pub AgreeOn : ℕ → ℕ → ℕ → Type 0
AgreeOn mask x y = (p : ℕ) → is_in p mask ≡ true → is_in p x ≡ is_in p y

-- x and y agree at each proposition outside the mask
abbrev pub AgreeOff : ℕ → ℕ → ℕ → Type 0
AgreeOff mask x y = (p : ℕ) → is_in p mask ≡ false → is_in p x ≡ is_in p y

-- the letter is the first in the order of letters that has the property P
pub record IsLeastLetter (P : ℕ → Type 0) (letter : ℕ) : Type 0 where
  pub here : P letter
  pub none_before : (x : ℕ) → P x → IsBefore x letter → ⊥
