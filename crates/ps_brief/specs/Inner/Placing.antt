-- The places of pairs of letters in their order. (For private functions.)
-- - `letter_pair_place x y`: how many pairs of 64-bit letters come before the pair of x and y, by the first letter and
--   then by the second
-- - `MakesStep setting q leaf z`: from the state q, the letter z makes the step of the leaf
-- - `IsLeastPair board t making behind place`: the place is that of the least letter at which `behind` has the leaf 1,
--   and of the least letter of the second player that, together with it, leads from `making` to the leaf 1
-- - `IsPlaced board q target`: the target's place is that of the least letters that lead there from the state q
use Rattle.std.specs.Prelude.{◌≡◌, ℕ, ◌+◌, ◌*◌, ◌^◌, ◌<◌, Some}
use Rattle.std.specs.Int.{reverse_bits, w64}
use Rattle.ps_diagram.specs.Letters.{IsLeastLetter}
use Rattle.ps_diagram.specs.Reached.{LeadsToLeaf}
use Rattle.ps_diagram.specs.Table.{Table, leaf_of}
use Rattle.ps_automaton.specs.Automata.{node_of}
use Rattle.ps_machine.specs.Boards.{Board, IsFirstLetter, IsSecondLetter}
use Rattle.ps_basis.specs.PairOrder.{IsLeastStep}
use Rattle.ps_brief.specs.Settings.{board_in}
use Rattle.ps_brief.specs.declared.setting.Setting.{Setting}
use Rattle.ps_brief.specs.declared.steps.Target.{Target}

abbrev pub letter_pair_place : (x y : ℕ) → ℕ
letter_pair_place x y = reverse_bits w64 x * 2 ^ 64 + reverse_bits w64 y

pub record MakesStep (setting : Setting) (q leaf z : ℕ) : Type 0 where
  pub within : z < 2 ^ (board_in setting).propositions
  pub leads : leaf_of setting.automaton.now.store (node_of setting.automaton.now q) z ≡ Some leaf

-- the letter of the second player, together with x, leads to the leaf 1
pub record IsAnswer (board : Board) (t : Table) (making x y : ℕ) : Type 0 where
  pub is_letter : IsSecondLetter board y
  pub leaf : leaf_of t making (x + y) ≡ Some 1

-- the letter is the first player's, and the second player has such a letter
pub record IsAnswered (board : Board) (t : Table) (making x : ℕ) : Type 0 where
  pub first : IsFirstLetter board x
  pub letter : ℕ
  pub answer : IsAnswer board t making x letter

pub record IsLeastPair (board : Board) (t : Table) (making behind place : ℕ) : Type 0 where
  pub x : ℕ
  pub y : ℕ
  pub least : IsLeastLetter (LeadsToLeaf t behind 1) x
  pub answer : IsLeastLetter (IsAnswer board t making x) y
  pub is : place ≡ letter_pair_place x y

pub record IsPlaced (board : Board) (q : ℕ) (target : Target) : Type 0 where
  pub x : ℕ
  pub y : ℕ
  pub least : IsLeastStep board q target.state target.priority x y
  pub place : target.place ≡ letter_pair_place x y
