-- Equality of steps is decidable. So each letter of the first player has a class, and each letter of the second player
-- makes the same step as a move, which is the least letter that makes this step.
use Rattle.std.proofs.Common.{arith, rules, ◌≡◌, ◌⊎◌, inl, inr, ℕ, ◌+◌, ◌^◌, ◌<◌, Bool, true, false, not, refl, ap, sym}
use Rattle.std.proofs.Common.{◌∙◌}
use Rattle.std.specs.Prelude.{◌&&◌}
use Rattle.std.proofs.lemmas.Bool.{cases_eq, cases_lt}
use Rattle.ps_label.specs.Truth.{is_in}
use Rattle.ps_diagram.specs.Letters.{letter_of}
use Rattle.ps_diagram.proofs.TreesFromData.Alone.{same_letter}
use Rattle.ps_diagram.proofs.Letters.{letter_lt, letter_is, no_bit}
use Rattle.ps_automaton.proofs.AdmittedFiles.Deciding.{some_or_none}
use Rattle.ps_machine.specs.Extracting.{IsOtherLetter, is_others}
use Rattle.ps_machine.specs.Inner.ByLetters.{IsOver}
use Rattle.ps_machine.specs.Boards.{Board, IsFirstLetter, IsSecondLetter, SameStep, SameSteps, IsClassLetter, IsMove}
use Rattle.ps_machine.specs.declared.key.Key.TheVariants.{First}
use Rattle.ps_machine.proofs.AutomatonGames.LeastLetters.{least_there}

-- ## Letters of one player

module _ (n : ℕ) (mine : ℕ → Bool) where
  -- the letter that has only those bits of x which belong to one player's propositions
  pub part : ℕ → ℕ
  part x = letter_of n (λ p. mine p && is_in p x)

  -- in the part of a letter that belongs to a player, only propositions of this player are true
  pub part_over : (letter : ℕ) → IsOver n mine (part letter)
  unfolding part
  part_over x = search (rules, letter_lt, cases_lt, letter_is, no_bit, part)

  pub part_same : (x y : ℕ) → ((p : ℕ) → p < n → mine p ≡ true → is_in p x ≡ is_in p y) → part x ≡ part y
  unfolding part
  part_same x y same = same_letter n (part x) (part y) (part_over x).within (part_over y).within
      (λ p less. search (rules, letter_is, bit))
    where
      bit : (m a b : Bool) → (m ≡ true → a ≡ b) → (m && a) ≡ (m && b)
      bit m a b e = search rules

  pub part_itself : (y : ℕ) → IsOver n mine y → part y ≡ y
  unfolding part
  part_itself y over = same_letter n (part y) y (part_over y).within over.within
      (λ p less. letter_is n (λ q. mine q && is_in q y) p less ∙ bit (mine p) (is_in p y) (over.own p))
    where
      bit : (m a : Bool) → (m ≡ false → a ≡ false) → (m && a) ≡ a
      bit m a e = search rules

  pub part_bit : (x p : ℕ) → p < n → mine p ≡ true → is_in p (part x) ≡ is_in p x
  unfolding part
  part_bit x p less is = cc (letter_is n (λ q. mine q && is_in q x) p less, is)

  pub over_or_not : (y : ℕ) → IsOver n mine y ⊎ (IsOver n mine y → ⊥)
  over_or_not y = elim (cases_eq (part y) y) [
    | inl same ↦ inl (rw same at (part_over y))
    | inr other ↦ inr (λ over. other (part_itself y over))
  ]

pub not_false : (b : Bool) → not b ≡ false → b ≡ true
not_false b h = search rules

-- if each of two facts can be decided, their conjunction can be decided
pub both_or_not : (P Q : Type 0) → P ⊎ (P → ⊥) → Q ⊎ (Q → ⊥) → (P × Q) ⊎ (P × Q → ⊥)
both_or_not P Q h k = search rules

module _ (board : Board) where
  pub first_over : (x : ℕ) → IsFirstLetter board x → IsOver board.propositions board.is_first x
  first_over x first = record { within = first.within; own = first.own }

  pub over_first : {x : ℕ} → IsOver board.propositions board.is_first x → IsFirstLetter board x
  over_first over = record { within = over.within; own = over.own }

  pub second_over : (y : ℕ) → IsSecondLetter board y → IsOver board.propositions (λ p. not (board.is_first p)) y
  second_over y second = record { within = second.within; own = λ p e. second.own p (not_false (board.is_first p) e) }

  pub over_second : {y : ℕ} → IsOver board.propositions (λ p. not (board.is_first p)) y → IsSecondLetter board y
  over_second over = record { within = over.within; own = λ p e. over.own p (ap not e) }

  pub first_or_not : (x : ℕ) → IsFirstLetter board x ⊎ (IsFirstLetter board x → ⊥)
  first_or_not x = grind (arith, over_or_not board.propositions board.is_first x)

  pub second_or_not : (y : ℕ) → IsSecondLetter board y ⊎ (IsSecondLetter board y → ⊥)
  second_or_not y = elim (over_or_not board.propositions (λ p. not (board.is_first p)) y) [
    | inl over ↦ inl (over_second over)
    | inr none ↦ inr (λ second. none (second_over y second))
  ]

  -- ## Equal steps

  pub step_or_not : {q one other : ℕ} → SameStep board q one other ⊎ (SameStep board q one other → ⊥)
  step_or_not {q} {one} {other} = search (rules, cases_eq)

  pub steps_or_not : (q one other : ℕ) → SameSteps board q one other ⊎ (SameSteps board q one other → ⊥)
  steps_or_not q one other = elim (some_or_none Differ differ_or_not (2 ^ board.propositions) (λ y d. d.0.within)) [
    | inl differ ↦ inr (λ same. differ.1.1 (same differ.0 differ.1.0))
    | inr none ↦ search (rules, step_or_not)
  ]
    where
      Differ : ℕ → Type 0
      Differ y = IsSecondLetter board y × (SameStep board q (one + y) (other + y) → ⊥)

      differ_or_not : (y : ℕ) → Differ y ⊎ (Differ y → ⊥)
      differ_or_not y = grind (arith, second_or_not y, step_or_not)

  pub steps_trans : (q a b c : ℕ) → SameSteps board q a b → SameSteps board q b c → SameSteps board q a c
  steps_trans q a b c one other y second = search rules

  pub steps_sym : (q a b : ℕ) → SameSteps board q a b → SameSteps board q b a
  steps_sym q a b same y second = record { state = sym (same y second).state; priority = sym (same y second).priority }

  -- each letter of the first player belongs to a class, whose least letter leads to the same steps
  pub class_there : (q : ℕ) {x : ℕ} → IsFirstLetter board x →
      (class : ℕ) × IsClassLetter board q class × SameSteps board q x class
  class_there q {x} first =
      let P : ℕ → Type 0 = λ other. IsFirstLetter board other × SameSteps board q other x in
      let l = least_there board.propositions P (λ y. search (rules, both_or_not, first_or_not, steps_or_not))
      (λ y is. is.0.within) x (first, search rules) in
      let class = l.0 in
      let here = l.1.here in (
        class,
        record {
          here = (here.0, λ y second. record { state = refl; priority = refl });
          none_before = λ other is before. l.1.none_before other (is.0, steps_trans q other class x is.1 here.1) before;
        },
        steps_sym q class x here.1,
      )

  -- after the first player's letter `class`, each letter of the second player makes the same step as a move, which is
  -- the least letter that makes this step
  pub move_there : {q : ℕ} (class : ℕ) {y : ℕ} → IsSecondLetter board y →
      (move : ℕ) × IsMove board q class move × SameStep board q (class + move) (class + y)
  move_there {q} class {y} second =
      let P : ℕ → Type 0 = λ other. IsSecondLetter board other × SameStep board q (class + other) (class + y) in
      let l = least_there board.propositions P (λ z. search (rules, both_or_not, second_or_not, step_or_not))
      (λ z is. is.0.within) y (second, record { state = refl; priority = refl }) in
      grind arith

-- ## Letters of the other player

pub other_over : (b : Bool) (board : Board) (x : ℕ) → IsOtherLetter b board x →
    IsOver board.propositions (is_others b board) x
other_over b board x h = search (rules, second_over, first_over)

pub over_other : (b : Bool) (board : Board) {x : ℕ} → IsOver board.propositions (is_others b board) x →
    IsOtherLetter b board x
over_other b board h = search (rules, over_second, over_first)

-- ## Keys

pub same_states : {q p r o : ℕ} → First q p ≡ First r o → q ≡ r
same_states e = cc

pub same_priorities : {q p r o : ℕ} → First q p ≡ First r o → p ≡ o
same_priorities e = cc
