-- A letter of the automaton is the sum of a letter of the first player and a letter of the second player. Letters are
-- ordered by the first proposition at which they differ.
use Rattle.std.proofs.Common.{◌≡◌, ℕ, zero, suc, ◌+◌, ◌^◌, ◌<◌, Bool, true, false, cond, not, ap, sym, ◌∙◌}
use Rattle.std.proofs.Common.{arith, inl, inr, ◌⊎◌, rules}
use Rattle.std.specs.Prelude.{◌||◌, ◌&&◌}
use Rattle.std.proofs.lemmas.Bool.{cases_lt}
use Rattle.ps_label.specs.Truth.{is_in}
use Rattle.ps_diagram.specs.Letters.{assignment, letter_of, IsBefore, IsLeastLetter, AgreeOn, AgreeOff}
use Rattle.ps_diagram.proofs.TreesFromData.Alone.{same_letter}
use Rattle.ps_diagram.proofs.NodeTables.Cells.{bool_cases, true_is_not_false}
use Rattle.ps_diagram.proofs.Letters.{letter_lt, letter_is, no_bit}
use Rattle.ps_machine.specs.Boards.{Board, IsFirstLetter, IsSecondLetter}
use Rattle.ps_machine.specs.Dividing.{IsMaskOf}

-- ## Sums of letters with no proposition in common

sum_step : (a b : Bool) (k l : ℕ) {m : ℕ} (s : ℕ) → (a && b) ≡ false → k + l ≡ m →
    (k + cond a s 0) + (l + cond b s 0) ≡ m + cond (a || b) s 0
sum_step a b k l s apart e = grind (arith, true_is_not_false, apart)

pub sum_of : (n : ℕ) (f g : ℕ → Bool) → ((p : ℕ) → (f p && g p) ≡ false) →
    letter_of n f + letter_of n g ≡ letter_of n (λ p. f p || g p)
sum_of zero f g apart = omega arith
sum_of (suc n) f g apart = sum_step (f n) (g n) (letter_of n f) (letter_of n g) (2 ^ n) (apart n) (sum_of n f g apart)

number_is : (n x : ℕ) → x < 2 ^ n → x ≡ letter_of n (assignment x)
number_is n x lt = search (rules, same_letter, letter_lt, letter_is)

sum_is : (n x y : ℕ) → x < 2 ^ n → y < 2 ^ n → ((p : ℕ) → (is_in p x && is_in p y) ≡ false) →
    x + y ≡ letter_of n (λ p. is_in p x || is_in p y)
sum_is n x y a b apart = cc (number_is n x a, number_is n y b, sum_of n (assignment x) (assignment y) apart)

and_false-right : (a : Bool) {b : Bool} → b ≡ false → (a && b) ≡ false
and_false-right a h = search rules

and_false-left : (a b : Bool) → a ≡ false → (a && b) ≡ false
and_false-left a b e = ap (λ x. x && b) e

or_false-right : (a b : Bool) → b ≡ false → (a || b) ≡ a
or_false-right a b h = search rules

or_false-left : {a b : Bool} → a ≡ false → (a || b) ≡ b
or_false-left {b} e = ap (λ x. x || b) e

and_true-right : (a : Bool) {b : Bool} → b ≡ true → (a && b) ≡ a
and_true-right a h = search rules

module _ (board : Board) where
  apart : (x y : ℕ) → IsFirstLetter board x → IsSecondLetter board y → (p : ℕ) → (is_in p x && is_in p y) ≡ false
  apart x y hx hy p = search (rules, bool_cases, and_false-right, and_false-left)

  both : (x y : ℕ) → IsFirstLetter board x → IsSecondLetter board y →
      x + y ≡ letter_of board.propositions (λ p. is_in p x || is_in p y)
  both x y hx hy = sum_is board.propositions x y hx.within hy.within (apart x y hx hy)

  pub sum_within : {x y : ℕ} → IsFirstLetter board x → IsSecondLetter board y → x + y < 2 ^ board.propositions
  sum_within {x} {y} hx hy = rw (both x y hx hy) (letter_lt board.propositions (λ p. is_in p x || is_in p y))

  sum_bit : (x y p : ℕ) → IsFirstLetter board x → IsSecondLetter board y → p < board.propositions →
      is_in p (x + y) ≡ (is_in p x || is_in p y)
  sum_bit x y p hx hy lt = search (rules, both, letter_is)

  pub sum_first : {x y : ℕ} (p : ℕ) → IsFirstLetter board x → IsSecondLetter board y → p < board.propositions →
      board.is_first p ≡ true → is_in p (x + y) ≡ is_in p x
  sum_first {x} {y} p hx hy lt is = sum_bit x y p hx hy lt ∙ or_false-right (is_in p x) (is_in p y) (hy.own p is)

  pub sum_second : {x y : ℕ} (p : ℕ) → IsFirstLetter board x → IsSecondLetter board y → p < board.propositions →
      board.is_first p ≡ false → is_in p (x + y) ≡ is_in p y
  sum_second {x} {y} p hx hy lt isnt = sum_bit x y p hx hy lt ∙ or_false-left (hx.own p isnt)

  -- ## The mask of the first player

  pub mask_below : (mask p : ℕ) → IsMaskOf board mask → is_in p mask ≡ true → p < board.propositions
  mask_below mask p m is = search (rules, cases_lt, true_is_not_false, no_bit)

  pub agree_on : {mask x y : ℕ} → IsMaskOf board mask → IsFirstLetter board x → IsSecondLetter board y →
      AgreeOn mask x (x + y)
  agree_on {mask} m hx hy p is = (let lt = mask_below mask p m is in sym (sum_first p hx hy lt (sym (m.is p lt) ∙ is)))

  pub agree_off : {mask x y : ℕ} → IsMaskOf board mask → IsFirstLetter board x → IsSecondLetter board y →
      AgreeOff mask y (x + y)
  agree_off {x} {y} m hx hy p isnt = elim (cases_lt p board.propositions) [
    | inl lt ↦ sym (sum_second p hx hy lt (sym (m.is p lt) ∙ isnt))
    | inr ge ↦ no_bit board.propositions y p hy.within ge ∙ sym (search (rules, no_bit, sum_within))
  ]

  pub agree_second : {mask x w y : ℕ} → IsMaskOf board mask → IsFirstLetter board x → IsFirstLetter board w →
      IsSecondLetter board y → AgreeOff mask (x + y) (w + y)
  agree_second m hx hw hy p isnt = sym (agree_off m hx hy p isnt) ∙ agree_off m hw hy p isnt

  -- a letter in which only propositions of the first player's mask are true is a letter of the first player
  pub masked_first : {mask x : ℕ} → IsMaskOf board mask → x < 2 ^ board.propositions →
      ((p : ℕ) → is_in p mask ≡ false → is_in p x ≡ false) → IsFirstLetter board x
  masked_first {x} m lt masked = search (rules, cases_lt, no_bit)

  -- ## The second player's part of a letter

  abbrev pub second_of : ℕ → ℕ
  second_of u = letter_of board.propositions (λ p. is_in p u && not (board.is_first p))

  pub second_is : (u : ℕ) → IsSecondLetter board (second_of u)
  second_is u = search (rules, letter_lt, cases_lt, letter_is, and_false-right, no_bit)

  pub second_bit : (u p : ℕ) → p < board.propositions → board.is_first p ≡ false → is_in p (second_of u) ≡ is_in p u
  second_bit u p lt isnt = search (rules, letter_is, and_true-right)

  second_off : (mask y : ℕ) → IsMaskOf board mask → y < 2 ^ board.propositions → AgreeOff mask y (second_of y)
  second_off mask y m lt p isnt = search (rules, cases_lt, second_bit, no_bit, second_is)

  -- if the letter u has the same bits as the first player's letter x at the first player's propositions (the mask), u
  -- is the sum of x and of the second player's bits of u
  pub as_sum : {mask x : ℕ} (u p : ℕ) → IsMaskOf board mask → IsFirstLetter board x → AgreeOn mask x u →
      p < board.propositions → is_in p u ≡ is_in p (x + second_of u)
  as_sum u p m hx on lt = elim (bool_cases (board.is_first p)) [
    | inl is ↦ sym (on p (m.is p lt ∙ is)) ∙ sym (sum_first p hx (second_is u) lt is)
    | inr isnt ↦ cc (second_bit u p lt isnt, sum_second p hx (second_is u) lt isnt)
  ]

  -- the letter v has the bits of x at the first player's propositions (the mask), and the bits of u elsewhere: v is the
  -- sum of x and of the second player's bits of u
  pub as_other_sum : {mask x : ℕ} (u v p : ℕ) → IsMaskOf board mask → IsFirstLetter board x → AgreeOn mask x v →
      AgreeOff mask u v → p < board.propositions → is_in p v ≡ is_in p (x + second_of u)
  as_other_sum u v p m hx on off lt = elim (bool_cases (board.is_first p)) [
    | inl is ↦ sym (on p (m.is p lt ∙ is)) ∙ sym (sum_first p hx (second_is u) lt is)
    | inr isnt ↦ sym (off p (m.is p lt ∙ isnt)) ∙ sym (second_bit u p lt isnt)
        ∙ sym (sum_second p hx (second_is u) lt isnt)
  ]

  pub zero_second : IsSecondLetter board 0
  zero_second = search (rules, letter_lt, no_bit)

-- ## The order of letters

bool_same : (a b : Bool) → (a ≡ b) ⊎ (a ≡ b → ⊥)
bool_same a b = search (rules, true_is_not_false)

-- the first proposition at which two letters differ
record Differ (n : ℕ) (f g : ℕ → Bool) : Type 0 where
  at : ℕ
  below : at < n
  differ : f at ≡ g at → ⊥
  same : (p : ℕ) → p < at → f p ≡ g p

alike_more : (n : ℕ) (f g : ℕ → Bool) → ((q : ℕ) → q < n → f q ≡ g q) → f n ≡ g n → (q : ℕ) → q < suc n → f q ≡ g q
alike_more n f g h e q lt = search (rules, cases_lt)

first_difference : (n : ℕ) {f g : ℕ → Bool} → ((q : ℕ) → q < n → f q ≡ g q) ⊎ Differ n f g
first_difference zero = inl (λ q lt. absurd (omega arith))
first_difference (suc n) {f} {g} = elim (first_difference n) [
  | inl h ↦ elim (bool_same (f n) (g n)) [
    | inl e ↦ inl (alike_more n f g h e)
    | inr ne ↦ inr (record { at = n; below = omega arith; differ = ne; same = h })
  ]
  | inr d ↦ search rules
]

not_true : {a : Bool} (b : Bool) → (a ≡ b → ⊥) → a ≡ true → b ≡ false
not_true b h k = search rules

not_false : {a : Bool} (b : Bool) → (a ≡ b → ⊥) → a ≡ false → b ≡ true
not_false b h k = search rules

pub compared : (n x y : ℕ) → x < 2 ^ n → y < 2 ^ n → (x ≡ y) ⊎ (IsBefore x y ⊎ IsBefore y x)
compared n x y lx ly = elim (first_difference n) [
  | inl h ↦ inl (same_letter n x y lx ly h)
  | inr d ↦ elim (bool_cases (is_in d.at x)) [
    | inl is ↦ inr (inr (record {
      first = d.at;
      is_false = not_true (is_in d.at y) d.differ is;
      is_true = is;
      same = λ p lt. sym (d.same p lt);
    }))
    | inr isnt ↦ inr (inl (record {
      first = d.at;
      is_false = isnt;
      is_true = not_false (is_in d.at y) d.differ isnt;
      same = d.same;
    }))
  ]
]

-- two letters are equal if neither comes before the other
pub neither_before : (n : ℕ) {x y : ℕ} → x < 2 ^ n → y < 2 ^ n → (IsBefore x y → ⊥) → (IsBefore y x → ⊥) → x ≡ y
neither_before n {x} {y} lx ly a b = search (rules, compared)

pub not_before_itself : {x : ℕ} → IsBefore x x → ⊥
not_before_itself b = true_is_not_false (sym b.is_true ∙ b.is_false)

-- a letter is a letter of the second player if dropping the first player's bits does not give an earlier letter
pub second_itself : (board : Board) (y : ℕ) → y < 2 ^ board.propositions → (IsBefore (second_of board y) y → ⊥) →
    IsSecondLetter board y
second_itself board y lt never =
    search (rules, second_is, cases_lt, true_is_not_false, letter_is, no_bit, neither_before)

pub second_agrees : (board : Board) (mask y : ℕ) → IsMaskOf board mask → y < 2 ^ board.propositions →
    AgreeOff mask y (second_of board y)
second_agrees board mask y m lt = second_off board mask y m lt

-- the least letter with a property is unique
pub one_least : (n : ℕ) {P : ℕ → Type 0} {x y : ℕ} → x < 2 ^ n → y < 2 ^ n → IsLeastLetter P x → IsLeastLetter P y →
    x ≡ y
one_least n {x} {y} lx ly a b = neither_before n lx ly (λ h. b.none_before x a.here h) (λ h. a.none_before y b.here h)
