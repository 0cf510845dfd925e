-- The players' letters on a mixed board: they are the moved letters of the board, in the same order.
-- - `first_moved`, `second_moved`, `sum_moved`, `before_first`, `before_second`: one letter, and two letters
-- - `unmixed`: mixing back gives the board itself
-- - `class_moved`, `move_moved`: least letters of classes and moves
use Rattle.std.specs.Prelude.{◌≡◌, ℕ, ◌+◌, ◌<◌, ◌||◌, ◌⊎◌, Bool, true, false}
use Rattle.std.proofs.Common.{refl, sym, ap, ◌∙◌, inl, inr, arith}
use Rattle.std.proofs.Math.Path.{fun_ext}
use Rattle.std.proofs.lemmas.Bool.{cases_eq, cases_lt}
use Rattle.ps_label.specs.Truth.{is_in}
use Rattle.ps_diagram.specs.Letters.{IsBefore}
use Rattle.ps_diagram.proofs.NodeTables.Cells.{bool_cases, true_is_not_false}
use Rattle.ps_automaton.specs.Autos.{Auto}
use Rattle.ps_machine.specs.Boards.{Board, IsFirstLetter, IsSecondLetter, SameStep}
use Rattle.ps_mixing.specs.MixedAutos.{mixed_auto}
use Rattle.ps_mixing.specs.MixedBoards.{mixed_board}
use Rattle.ps_mixing.specs.Mixings.{Mixing, IsMixing, inverse, moved}
use Rattle.ps_mixing.proofs.MovedPropositions.MovedLetters.{from_beyond, moved_back, moved_bit, moved_within}
use Rattle.ps_mixing.proofs.MovedPropositions.MovedLetters.{renamed_bit, same_bits}
use Rattle.ps_mixing.proofs.MovedPropositions.MovedSums.{sum_bit}

pub auto_unmixed : {n : ℕ} {is_first : ℕ → Bool} {mixing : Mixing} → IsMixing n is_first mixing → (auto : Auto) →
    mixed_auto n (inverse mixing) (mixed_auto n mixing auto) ≡ auto
auto_unmixed {n} {mixing = mixing} is auto = λ i. record { start = auto.start; next = nexts i; priority = priorities i }
  where
    nexts : (λ (q letter : ℕ). auto.next q (moved n mixing.to (moved n mixing.from letter))) ≡ auto.next
    nexts = fun_ext (λ q. fun_ext (λ x. ap (auto.next q) (moved_back is x)))

    priorities : (λ (q letter : ℕ). auto.priority q (moved n mixing.to (moved n mixing.from letter))) ≡ auto.priority
    priorities = fun_ext (λ q. fun_ext (λ x. ap (auto.priority q) (moved_back is x)))

-- the mixing moves the board's propositions
abbrev pub IsBoardMixing : Board → Mixing → Type 0
IsBoardMixing board mixing = IsMixing board.propositions board.is_first mixing

module _ (board : Board) (mixing : Mixing) (is : IsBoardMixing board mixing) where
  abbrev mv : ℕ → ℕ
  mv = moved board.propositions mixing.from

  abbrev mixed : Board
  mixed = mixed_board mixing board

  bit_there : (x p : ℕ) → is_in p (mv x) ≡ is_in (mixing.from p) x
  bit_there x p = moved_bit board.propositions mixing.from x p (λ le. from_beyond is p le)

  pub first_moved : (x : ℕ) → IsFirstLetter board x → IsFirstLetter mixed (mv x)
  first_moved x first = record {
    within = moved_within is x first.within;
    own = λ p isnt. bit_there x p ∙ first.own (mixing.from p) isnt;
  }

  pub second_moved : (y : ℕ) → IsSecondLetter board y → IsSecondLetter mixed (mv y)
  second_moved y second = record {
    within = moved_within is y second.within;
    own = λ p isnt. bit_there y p ∙ second.own (mixing.from p) isnt;
  }

  pub sum_moved : (x y : ℕ) → IsFirstLetter board x → IsSecondLetter board y → mv (x + y) ≡ mv x + mv y
  sum_moved x y first second = same_bits (λ p. bit_there (x + y) p ∙ sum_bit board x y (mixing.from p) first second ∙
      sym (sum_bit mixed (mv x) (mv y) p (first_moved x first) (second_moved y second) ∙
      ap (λ (b : Bool). b || is_in p (mv y)) (bit_there x p) ∙
      ap (λ (b : Bool). is_in (mixing.from p) x || b) (bit_there y p)))

  -- ## The order

  -- in the letter, only propositions of the player are true
  abbrev IsBy : Bool → ℕ → Type 0
  IsBy player x = (p : ℕ) → (board.is_first p ≡ player → ⊥) → is_in p x ≡ false

  owned : (player : Bool) (x p : ℕ) → IsBy player x → is_in p x ≡ true → board.is_first p ≡ player
  owned player x p by here = elim (bool_same (board.is_first p) player) [
    | inl same ↦ same
    | inr other ↦ absurd (true_is_not_false (sym here ∙ by p other))
  ]
    where
      bool_same : (a b : Bool) → (a ≡ b) ⊎ (a ≡ b → ⊥)
      bool_same true true = inl refl
      bool_same true false = inr (λ e. cc e)
      bool_same false true = inr (λ e. cc e)
      bool_same false false = inl refl

  before_moved : (player : Bool) (x y : ℕ) → IsBy player x → IsBy player y → IsBefore x y → IsBefore (mv x) (mv y)
  before_moved player x y by_x by_y before = record {
    first = mixing.to before.first;
    is_false = renamed_bit is x before.first ∙ before.is_false;
    is_true = renamed_bit is y before.first ∙ before.is_true;
    same = λ p less. bit_there x p ∙ same_at p less (bool_cases (is_in (mixing.from p) x))
        (bool_cases (is_in (mixing.from p) y)) ∙ sym (bit_there y p);
  }
    where
      mine : board.is_first before.first ≡ player
      mine = owned player y before.first by_y before.is_true

      earlier : (p : ℕ) → p < mixing.to before.first → board.is_first (mixing.from p) ≡ player →
          mixing.from p < before.first
      earlier p less own = elim (cases_lt (mixing.from p) before.first) [
        | inl low ↦ low
        | inr high ↦ elim (cases_eq (mixing.from p) before.first) [
          | inl equal ↦
              let index : p ≡ mixing.to before.first = sym (is.forth p) ∙ ap mixing.to equal in
              absurd (omega (arith, index, less))
          | inr differ ↦
              let turned = is.order before.first (mixing.from p) (omega (arith, high, differ)) (mine ∙ sym own) in
              let index : mixing.to (mixing.from p) ≡ p = is.forth p in
              absurd (omega (arith, turned, index, less))
        ]
      ]

      same_at : (p : ℕ) → p < mixing.to before.first → (is_in (mixing.from p) x ≡ true) ⊎ (is_in (mixing.from p) x ≡ false) →
          (is_in (mixing.from p) y ≡ true) ⊎ (is_in (mixing.from p) y ≡ false) →
          is_in (mixing.from p) x ≡ is_in (mixing.from p) y
      same_at p less (inl one) other =
          before.same (mixing.from p) (earlier p less (owned player x (mixing.from p) by_x one))
      same_at p less (inr one) (inl other) =
          before.same (mixing.from p) (earlier p less (owned player y (mixing.from p) by_y other))
      same_at p less (inr one) (inr other) = one ∙ sym other

  by_first : (x : ℕ) → IsFirstLetter board x → IsBy true x
  by_first x first p other = elim (bool_cases (board.is_first p)) [
    | inl is_first ↦ absurd (other is_first)
    | inr isnt ↦ first.own p isnt
  ]

  by_second : (y : ℕ) → IsSecondLetter board y → IsBy false y
  by_second y second p other = elim (bool_cases (board.is_first p)) [
    | inl is_first ↦ second.own p is_first
    | inr isnt ↦ absurd (other isnt)
  ]

  pub before_first : (x y : ℕ) → IsFirstLetter board x → IsFirstLetter board y → IsBefore x y → IsBefore (mv x) (mv y)
  before_first x y one other before = before_moved true x y (by_first x one) (by_first y other) before

  pub before_second : (x y : ℕ) → IsSecondLetter board x → IsSecondLetter board y → IsBefore x y →
      IsBefore (mv x) (mv y)
  before_second x y one other before = before_moved false x y (by_second x one) (by_second y other) before

  -- ## Steps

  pub next_moved : (q x : ℕ) → mixed.auto.next q (mv x) ≡ board.auto.next q x
  next_moved q x = ap (board.auto.next q) (moved_back is x)

  pub priority_moved : (q x : ℕ) → mixed.auto.priority q (mv x) ≡ board.auto.priority q x
  priority_moved q x = ap (board.auto.priority q) (moved_back is x)

  pub step_moved : (q one other : ℕ) → SameStep board q one other → SameStep mixed q (mv one) (mv other)
  step_moved q one other same = record {
    state = next_moved q one ∙ same.state ∙ sym (next_moved q other);
    priority = priority_moved q one ∙ same.priority ∙ sym (priority_moved q other);
  }

  -- ## Mixing back

  pub unmixed : mixed_board (inverse mixing) mixed ≡ board
  unmixed = λ i. record {
    auto = auto_unmixed is board.auto i;
    states = board.states;
    propositions = board.propositions;
    is_first = firsts i;
  }
    where
      firsts : (λ (p : ℕ). board.is_first (mixing.from (mixing.to p))) ≡ board.is_first
      firsts = fun_ext (λ p. ap board.is_first (is.back p))
