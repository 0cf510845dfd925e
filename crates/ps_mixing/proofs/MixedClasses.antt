-- The least letters of classes, and the moves behind a letter, on a mixed board.
-- - `steps_moved`: letters with the same steps keep them
-- - `class_moved`, `move_moved`: least letters of classes and moves stay so
use Rattle.std.specs.Prelude.{◌≡◌, ℕ, ◌+◌}
use Rattle.std.proofs.Common.{sym, ap, subst, ◌∙◌}
use Rattle.ps_diagram.specs.Letters.{IsBefore}
use Rattle.ps_machine.specs.Boards.{Board, IsClassLetter, IsFirstLetter, IsMove, IsSecondLetter}
use Rattle.ps_machine.specs.Boards.{SameStep, SameSteps}
use Rattle.ps_mixing.specs.MixedBoards.{mixed_board}
use Rattle.ps_mixing.specs.Mixings.{Mixing, inverse, moved}
use Rattle.ps_mixing.proofs.MixedLetters.{IsBoardMixing, before_first, before_second, first_moved}
use Rattle.ps_mixing.proofs.MixedLetters.{second_moved, step_moved, sum_moved, unmixed}
use Rattle.ps_mixing.proofs.MovedPropositions.MovedLetters.{inverse_is, moved_back, moved_forth}

module _ (board : Board) (mixing : Mixing) (is : IsBoardMixing board mixing) where
  abbrev mv : ℕ → ℕ
  mv = moved board.propositions mixing.from

  abbrev bk : ℕ → ℕ
  bk = moved board.propositions mixing.to

  abbrev mixed : Board
  mixed = mixed_board mixing board

  abbrev there_again : (y : ℕ) → mv (bk y) ≡ y
  there_again y = moved_forth is y

  pub first_back : (y : ℕ) → IsFirstLetter mixed y → IsFirstLetter board (bk y)
  first_back y first = subst (λ (b : Board). IsFirstLetter b (bk y)) (unmixed board mixing is)
      (first_moved mixed (inverse mixing) (inverse_is is) y first)

  pub second_back : (y : ℕ) → IsSecondLetter mixed y → IsSecondLetter board (bk y)
  second_back y second = subst (λ (b : Board). IsSecondLetter b (bk y)) (unmixed board mixing is)
      (second_moved mixed (inverse mixing) (inverse_is is) y second)

  step_back : (q one other : ℕ) → SameStep mixed q one other → SameStep board q (bk one) (bk other)
  step_back q one other same = subst (λ (b : Board). SameStep b q (bk one) (bk other)) (unmixed board mixing is)
      (step_moved mixed (inverse mixing) (inverse_is is) q one other same)

  sum_back : (x y : ℕ) → IsFirstLetter mixed x → IsSecondLetter mixed y → bk (x + y) ≡ bk x + bk y
  sum_back x y first second = sum_moved mixed (inverse mixing) (inverse_is is) x y first second

  before_first_back : (x y : ℕ) → IsFirstLetter mixed x → IsFirstLetter mixed y → IsBefore x y → IsBefore (bk x) (bk y)
  before_first_back x y one other before = before_first mixed (inverse mixing) (inverse_is is) x y one other before

  pub before_second_back : (x y : ℕ) → IsSecondLetter mixed x → IsSecondLetter mixed y → IsBefore x y →
      IsBefore (bk x) (bk y)
  before_second_back x y one other before = before_second mixed (inverse mixing) (inverse_is is) x y one other before

  -- a sum of moved letters, with the second letter given on the mixed board
  pub sum_there : (x y : ℕ) → IsFirstLetter board x → IsSecondLetter mixed y → mv (x + bk y) ≡ mv x + y
  sum_there x y first second = sum_moved board mixing is x (bk y) first (second_back y second) ∙
      ap (λ (z : ℕ). mv x + z) (there_again y)

  -- ## Classes and moves

  pub steps_moved : (q one other : ℕ) → IsFirstLetter board one → IsFirstLetter board other →
      SameSteps board q one other → SameSteps mixed q (mv one) (mv other)
  steps_moved q one other is_one is_other same y second =
      subst (λ (z : ℕ). SameStep mixed q z (mv other + y)) (sum_there one y is_one second)
      (subst (λ (z : ℕ). SameStep mixed q (mv (one + bk y)) z) (sum_there other y is_other second)
      (step_moved board mixing is q (one + bk y) (other + bk y) (same (bk y) (second_back y second))))

  steps_back : (q one other : ℕ) → IsFirstLetter mixed one → IsFirstLetter board other →
      SameSteps mixed q one (mv other) → SameSteps board q (bk one) other
  steps_back q one other is_one is_other same y second =
      let back : bk (one + mv y) ≡ bk one + y =
      sum_back one (mv y) is_one (second_moved board mixing is y second) ∙ ap (λ (z : ℕ). bk one + z) (moved_back is y) in
      let also : bk (mv other + mv y) ≡ other + y =
      ap bk (sym (sum_moved board mixing is other y is_other second)) ∙ moved_back is (other + y) in
      subst (λ (z : ℕ). SameStep board q z (other + y)) back
      (subst (λ (z : ℕ). SameStep board q (bk (one + mv y)) z) also
      (step_back q (one + mv y) (mv other + mv y) (same (mv y) (second_moved board mixing is y second))))

  pub class_moved : (q x : ℕ) → IsClassLetter board q x → IsClassLetter mixed q (mv x)
  class_moved q x class = record {
    here = (first_moved board mixing is x class.here.0, steps_moved q x x class.here.0 class.here.0 class.here.1);
    none_before = λ other of before. class.none_before (bk other) (
      first_back other of.0,
      steps_back q other x of.0 class.here.0 of.1,
    ) (subst (λ (z : ℕ). IsBefore (bk other) z) (moved_back is x)
        (before_first_back other (mv x) of.0 (first_moved board mixing is x class.here.0) before));
  }

  module _ (q x : ℕ) (first : IsFirstLetter board x) where
    behind_moved : (y : ℕ) → IsSecondLetter board y → (z : ℕ) → IsSecondLetter board z →
        SameStep board q (x + y) (x + z) → SameStep mixed q (mv x + mv y) (mv x + mv z)
    behind_moved y is_y z is_z same =
        subst (λ (s : ℕ). SameStep mixed q s (mv x + mv z)) (sum_moved board mixing is x y first is_y)
        (subst (λ (s : ℕ). SameStep mixed q (mv (x + y)) s) (sum_moved board mixing is x z first is_z)
        (step_moved board mixing is q (x + y) (x + z) same))

    behind_back : (y : ℕ) → IsSecondLetter mixed y → (z : ℕ) → IsSecondLetter mixed z →
        SameStep mixed q (mv x + y) (mv x + z) → SameStep board q (x + bk y) (x + bk z)
    behind_back y is_y z is_z same =
        subst (λ (s : ℕ). SameStep board q s (x + bk z)) (back y is_y)
        (subst (λ (s : ℕ). SameStep board q (bk (mv x + y)) s) (back z is_z) (step_back q (mv x + y) (mv x + z) same))
      where
        back : (w : ℕ) → IsSecondLetter mixed w → bk (mv x + w) ≡ x + bk w
        back w is_w = sum_back (mv x) w (first_moved board mixing is x first) is_w ∙
            ap (λ (s : ℕ). s + bk w) (moved_back is x)

    pub move_moved : (y : ℕ) → IsMove board q x y → IsMove mixed q (mv x) (mv y)
    move_moved y move = record {
      here = (second_moved board mixing is y move.here.0, behind_moved y move.here.0 y move.here.0 move.here.1);
      none_before = λ other of before. move.none_before (bk other) (
        second_back other of.0,
        subst (λ (s : ℕ). SameStep board q (x + bk other) (x + s)) (moved_back is y)
            (behind_back other of.0 (mv y) (second_moved board mixing is y move.here.0) of.1),
      ) (subst (λ (z : ℕ). IsBefore (bk other) z) (moved_back is y)
          (before_second_back other (mv y) of.0 (second_moved board mixing is y move.here.0) before));
    }
