-- The mask that the code computes has exactly the bits of the second player's propositions.
use Rattle.std.specs.Prelude.{◌≡◌, ℕ, length, not}
use Rattle.std.proofs.Common.{rules}
use Rattle.ps_diagram.specs.Letters.{letter_of}
use Rattle.ps_diagram.proofs.Letters.{letter_is, letter_lt}
use Rattle.ps_automaton.specs.Automata.{AutomatonData}
use Rattle.ps_machine.specs.Boards.{is_first_of}
use Rattle.ps_machine.specs.BuiltBoards.{board_of}
use Rattle.ps_machine.specs.declared.key.Order.{Order}
use Rattle.ps_brief.specs.Settings.{IsMaskOfSecond}

pub second_whole : (order : Order) (a : AutomatonData) {n mask : ℕ} → n ≡ length a.names →
    mask ≡ letter_of n (λ p. not (is_first_of order a.controllable p)) → IsMaskOfSecond (board_of order a) mask
second_whole order a {mask} count e = search (rules, letter_lt, letter_is)
