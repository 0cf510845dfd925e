-- An automaton with the order of moves in its game, and a store of diagrams that begins as a copy of the automaton's.
-- - `board_in setting`: the board of the setting
-- - `IsMaskOfSecond board mask`: the propositions of the player who moves second, as bits
-- - `HasMasks setting`: the setting has the propositions of both players
-- - `Fits setting t`: so it has, and the store t has all nodes of the automaton's store, with their leaves
use Rattle.std.specs.Prelude.{◌≡◌, ℕ, ◌^◌, ◌<◌, not}
use Rattle.ps_label.specs.Truth.{is_in}
use Rattle.ps_diagram.specs.Table.{Table}
use Rattle.ps_machine.specs.Boards.{Board}
use Rattle.ps_machine.specs.BuiltBoards.{board_of}
use Rattle.ps_machine.specs.Dividing.{IsFit, IsMaskOf}
use Rattle.ps_brief.specs.declared.setting.Setting.{Setting}

abbrev pub board_in : Setting → Board
board_in setting = board_of setting.order setting.automaton.now

pub record IsMaskOfSecond (board : Board) (mask : ℕ) : Type 0 where
  pub within : mask < 2 ^ board.propositions
  pub is : (p : ℕ) → p < board.propositions → is_in p mask ≡ not (board.is_first p)

pub record HasMasks (setting : Setting) : Type 0 where
  pub first : IsMaskOf (board_in setting) setting.first
  pub second : IsMaskOfSecond (board_in setting) setting.second

pub record Fits (setting : Setting) (t : Table) : Type 0 where
  pub fit : IsFit setting.order setting.automaton.now setting.first t
  pub second : IsMaskOfSecond (board_in setting) setting.second
