-- The letters of both players in the diagrams that hide one player's propositions.
-- - `clear`, `over`, `over_second`: letters of the first player have no hidden proposition, letters of the second
--   player only hidden ones
-- - `first_itself`: a letter is one of the first player if no earlier letter has the same propositions of that player
-- - `first_part`: the first player's part of a letter, which with the second player's part is the letter
use Rattle.std.specs.Prelude.{◌≡◌, ℕ, ◌+◌, ◌^◌, ◌<◌, Bool, true, false, not}
use Rattle.std.proofs.Common.{ap, sym, ◌∙◌, inl, inr}
use Rattle.std.proofs.lemmas.Bool.{cases_lt}
use Rattle.ps_label.specs.Truth.{is_in}
use Rattle.ps_diagram.specs.Hidden.{IsClear, IsOver}
use Rattle.ps_diagram.specs.Letters.{AgreeOff, AgreeOn, IsBefore}
use Rattle.ps_diagram.proofs.Letters.{no_bit}
use Rattle.ps_machine.specs.Boards.{Board, IsFirstLetter, IsSecondLetter}
use Rattle.ps_machine.specs.Dividing.{IsMaskOf}
use Rattle.ps_machine.proofs.AutomatonGames.BoardLetters.{as_sum, second_agrees, second_bit, second_is, second_itself}
use Rattle.ps_machine.proofs.AutomatonGames.BoardLetters.{second_of}
use Rattle.ps_brief.specs.Settings.{IsMaskOfSecond}

not_false : (b : Bool) → not b ≡ false → b ≡ true
not_false true e = cc
not_false false e = cc

not_true : (b : Bool) → not b ≡ true → b ≡ false
not_true true e = cc
not_true false e = cc

module _ (board : Board) where
  -- the board with the players exchanged
  abbrev turned : Board
  turned = record board { is_first = λ p. not (board.is_first p) }

  from_turned : (x : ℕ) → IsSecondLetter turned x → IsFirstLetter board x
  from_turned x is = record {
    within = is.within;
    own = λ p isnt. is.own p (ap not isnt);
  }

  module _ (mask : ℕ) (is_mask : IsMaskOfSecond board mask) where
    turned_mask : IsMaskOf turned mask
    turned_mask = record { within = is_mask.within; is = is_mask.is }

    pub clear : (x : ℕ) → IsFirstLetter board x → IsClear mask x
    clear x first p hidden = elim (cases_lt p board.propositions) [
      | inl less ↦ first.own p (not_true (board.is_first p) (sym (is_mask.is p less) ∙ hidden))
      | inr more ↦ no_bit board.propositions x p first.within more
    ]

    pub over : (y : ℕ) → IsSecondLetter board y → IsOver mask y
    over y second p shown = elim (cases_lt p board.propositions) [
      | inl less ↦ second.own p (not_false (board.is_first p) (sym (is_mask.is p less) ∙ shown))
      | inr more ↦ no_bit board.propositions y p second.within more
    ]

    pub over_second : (y : ℕ) → y < 2 ^ board.propositions → IsOver mask y → IsSecondLetter board y
    over_second y within own = record {
      within = within;
      own = λ p is. elim (cases_lt p board.propositions) [
        | inl less ↦ own p (is_mask.is p less ∙ ap not is)
        | inr more ↦ no_bit board.propositions y p within more
      ];
    }

    abbrev pub first_of : ℕ → ℕ
    first_of z = second_of turned z

    pub first_part : (z : ℕ) → IsFirstLetter board (first_of z)
    first_part z = from_turned (first_of z) (second_is turned z)

    pub first_agrees : (z : ℕ) → z < 2 ^ board.propositions → AgreeOff mask z (first_of z)
    first_agrees z within = second_agrees turned mask z turned_mask within

    pub first_itself : (x : ℕ) → x < 2 ^ board.propositions → (IsBefore (first_of x) x → ⊥) → IsFirstLetter board x
    first_itself x within never = from_turned x (second_itself turned x within never)

    -- the parts of a letter for both players
    pub parts_are : (mask_first : ℕ) → IsMaskOf board mask_first → (z p : ℕ) → p < board.propositions →
        is_in p z ≡ is_in p (first_of z + second_of board z)
    parts_are mask_first is_first z p less = as_sum board z p is_first (first_part z) agree less
      where
        agree : AgreeOn mask_first (first_of z) z
        agree k shown = elim (cases_lt k board.propositions) [
          | inl below ↦ second_bit turned z k below (ap not (sym (is_first.is k below) ∙ shown))
          | inr above ↦ absurd (cc (no_bit board.propositions mask_first k is_first.within above, shown))
        ]
