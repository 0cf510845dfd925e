-- The machine of an automaton's game that is drawn without the game.
-- - `IsArenaOfBoard setting others arena`: whichever numbers a game of the board gives its vertices, `arena` is its
--   arena for some bases, and `others` has the arena's keys
-- - `IsWinnersMachine order a keys game m`: m does what the machine of a valid certificate of this game with the least
--   counts does
-- - `IsBriefMachine order a m`: m does what such a machine does, whichever numbers the automaton's game gives its
--   vertices
use Rattle.std.specs.Prelude.{◌≡◌, ℕ, List}
use Rattle.ps_certificate.specs.Certificates.{CertificateData, Fits, IsValid}
use Rattle.ps_certificate.specs.Least.{HasLeastCounts}
use Rattle.ps_game.specs.Games.{ParityGame}
use Rattle.ps_automaton.specs.Automata.{AutomatonData}
use Rattle.ps_machine.specs.Behaviours.{Behaviour}
use Rattle.ps_machine.specs.Boards.{IsGameOf}
use Rattle.ps_machine.specs.BuiltBoards.{board_of}
use Rattle.ps_machine.specs.Extracting.{HasPropositions, IsMachineOf}
use Rattle.ps_machine.specs.Keys.{mover_of}
use Rattle.ps_solver.specs.Solving.{winner_at_start}
use Rattle.ps_machine.specs.declared.key.Key.{Key}
use Rattle.ps_machine.specs.declared.key.Order.{Order}
use Rattle.ps_basis.specs.Arenas.{IsArenaOf}
use Rattle.ps_brief.specs.Settings.{board_in}
use Rattle.ps_brief.specs.declared.setting.Setting.{Setting}

pub record IsArenaOfBoard (setting : Setting) (others : List Key) (arena : ParityGame) : Type 0 where
  pub bases : ℕ → List ℕ
  pub is_arena : (keys : List Key) (game : ParityGame) →
      IsGameOf (board_in setting) (mover_of setting.order) keys game →
      IsArenaOf (board_in setting) bases (mover_of setting.order) keys others arena

pub record IsWinnersMachine (order : Order) (a : AutomatonData) (keys : List Key) (game : ParityGame) (m : Behaviour)
    : Type 0 where
  pub certificate : CertificateData
  pub fits : Fits game certificate
  pub valid : IsValid game certificate
  pub least : HasLeastCounts game certificate
  pub winner : winner_at_start certificate ≡ m.player
  pub machine_of : IsMachineOf (board_of order a) (mover_of order) keys game certificate m

pub record IsBriefMachine (order : Order) (a : AutomatonData) (m : Behaviour) : Type 0 where
  pub propositions : HasPropositions a.names (board_of order a) m
  pub machine_of : (keys : List Key) (game : ParityGame) → IsGameOf (board_of order a) (mover_of order) keys game →
      IsWinnersMachine order a keys game m
