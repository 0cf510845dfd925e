-- The second player's least answer to a letter, in the diagram behind this letter.
use Rattle.std.specs.Prelude.{◌≡◌, ℕ, ◌+◌, ◌^◌, ◌<◌}
use Rattle.std.proofs.Common.{sym, ◌∙◌, subst, inl, inr}
use Rattle.std.proofs.lemmas.Bool.{cases_lt}
use Rattle.ps_diagram.specs.Hidden.{IsBehind, IsClear, IsOver}
use Rattle.ps_diagram.specs.Letters.{IsLeastLetter}
use Rattle.ps_diagram.specs.Reached.{LeadsToLeaf}
use Rattle.ps_diagram.specs.Table.{Table, Keeps, leaf_of}
use Rattle.ps_diagram.proofs.Letters.{no_bit}
use Rattle.ps_machine.specs.Boards.{Board, IsFirstLetter, IsSecondLetter}
use Rattle.ps_machine.specs.Dividing.{IsMaskOf}
use Rattle.ps_machine.proofs.AutomatonGames.BoardLetters.{second_agrees, second_is, second_itself, second_of}
use Rattle.ps_brief.specs.Inner.Placing.{IsAnswer, IsLeastPair, letter_pair_place}
use Rattle.ps_brief.specs.Settings.{Fits, board_in}
use Rattle.ps_brief.specs.declared.setting.Setting.{Setting}

pub first_clear : (board : Board) (mask : ℕ) → IsMaskOf board mask → (y : ℕ) → IsSecondLetter board y → IsClear mask y
first_clear board mask is_mask y second p masked = elim (cases_lt p board.propositions) [
  | inl less ↦ second.own p (sym (is_mask.is p less) ∙ masked)
  | inr more ↦ no_bit board.propositions y p second.within more
]

pub first_over : (board : Board) (mask : ℕ) → IsMaskOf board mask → (x : ℕ) → IsFirstLetter board x → IsOver mask x
first_over board mask is_mask x first p shown = elim (cases_lt p board.propositions) [
  | inl less ↦ first.own p (sym (is_mask.is p less) ∙ shown)
  | inr more ↦ no_bit board.propositions x p first.within more
]

module _ (setting : Setting) {s u : Table} (fits : Fits setting s) (keeps : Keeps s u) (making x answers : ℕ)
    (behind : IsBehind s u making setting.first x answers) where
  abbrev board : Board
  board = board_in setting

  size : u.propositions ≡ board.propositions
  size = keeps.propositions ∙ fits.fit.keeps.propositions ∙ fits.fit.whole.letters

  leaf_at_answer : (y : ℕ) → IsSecondLetter board y → leaf_of u answers y ≡ leaf_of s making (x + y)
  leaf_at_answer y second = behind.leaf y (first_clear board setting.first fits.fit.is_mask y second)

  pub leads_there : (y : ℕ) → IsAnswer board s making x y → LeadsToLeaf u answers 1 y
  leads_there y answer = (
    subst (λ (n : ℕ). y < 2 ^ n) (sym size) answer.is_letter.within,
    leaf_at_answer y answer.is_letter ∙ answer.leaf,
  )

  pub least_answer : (y : ℕ) → IsLeastLetter (LeadsToLeaf u answers 1) y → IsLeastLetter (IsAnswer board s making x) y
  least_answer y least =
      let within : y < 2 ^ board.propositions = subst (λ (n : ℕ). y < 2 ^ n) size least.here.0 in
      let part : ℕ = second_of board y in
      let second : IsSecondLetter board y = second_itself board y within (λ before. least.none_before part (
        subst (λ (n : ℕ). part < 2 ^ n) (sym size) (second_is board y).within,
        sym (behind.others y part (second_agrees board setting.first y fits.fit.is_mask within)) ∙ least.here.1,
      ) before) in
      record {
        here = record { is_letter = second; leaf = sym (leaf_at_answer y second) ∙ least.here.1 };
        none_before = λ z answer before. least.none_before z (leads_there z answer) before;
      }

  pub least_pair : {behind_node place y : ℕ} → IsLeastLetter (LeadsToLeaf s behind_node 1) x →
      IsLeastLetter (LeadsToLeaf u answers 1) y → place ≡ letter_pair_place x y →
      IsLeastPair board s making behind_node place
  least_pair {y = y} first second is =
      record { x = x; y = y; least = first; answer = least_answer y second; is = is }
