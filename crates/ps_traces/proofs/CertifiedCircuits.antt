-- A machine that reads the propositions of its player's opponent, and moves first exactly if its player does, is a
-- machine for its player's role (`IsMachineFor`).
use Rattle.std.proofs.Common.{rules, ◌≡◌, ℕ, ◌<◌, ◌==◌, arith}
use Rattle.ps_hoa.specs.Files.{FileData}
use Rattle.ps_automaton.specs.Automata.{AutomatonData, IsBuiltFrom}
use Rattle.ps_automaton.specs.Autos.{Auto}
use Rattle.ps_automaton.specs.Chains.{Chain}
use Rattle.ps_machine.specs.BuiltBoards.{board_of}
use Rattle.ps_machine.specs.Extracting.{HasPropositions, is_others}
use Rattle.ps_machine.specs.FileGames.{board_of_file}
use Rattle.ps_machine.specs.Keys.{mover_of}
use Rattle.ps_machine.specs.Behaviours.{Behaviour}
use Rattle.ps_machine.specs.declared.key.Order.{Order}
use Rattle.ps_traces.specs.Answers.{role_of}
use Rattle.ps_traces.specs.Roles.{IsMachineFor, is_read_by}
use Rattle.ps_traces.specs.Shapes.{moves_first}

-- a player moves first exactly if its role does, and reads the propositions that its role reads
turn_is : (order : Order) (player : ℕ) → player < 2 → (mover_of order == player) ≡ moves_first order (role_of player)
turn_is order player lt = grind arith

reads_as : (order : Order) (a : AutomatonData) (player p : ℕ) → player < 2 →
    is_others (mover_of order == player) (board_of order a) p ≡ is_read_by (role_of player) a.controllable p
reads_as order a player p lt = grind arith

pub is_for : (order : Order) (file : FileData) (chain : Chain) (a : AutomatonData) (m : Behaviour) →
    IsBuiltFrom file chain a → HasPropositions a.names (board_of order a) m
    → m.is_first ≡ (mover_of order == m.player) → m.player < 2 → IsMachineFor order (role_of m.player) file m
is_for order file chain a m built has turn two = search (rules, reads_as, turn_is)

-- in the game of any automaton of the file, the propositions of a player's opponent are those that a circuit in the
-- player's role (controller or environment) has as inputs
file_reads_as : (order : Order) (file : FileData) (auto : Auto) (player p : ℕ) → player < 2 →
    is_others (mover_of order == player) (board_of_file order file auto) p ≡ is_read_by (role_of player)
    file.controllable p
file_reads_as order file auto player p lt = grind arith

pub is_for_file : (order : Order) (file : FileData) (auto : Auto) (m : Behaviour) →
    HasPropositions file.names (board_of_file order file auto) m → m.is_first ≡ (mover_of order == m.player) →
    m.player < 2 → IsMachineFor order (role_of m.player) file m
is_for_file order file auto m has turn two = search (rules, file_reads_as, turn_is)
