-- The board (automaton and owners of propositions) of an automaton that the code has built from a file.
use Rattle.std.specs.Prelude.{length}
use Rattle.ps_automaton.specs.Automata.{AutomatonData, auto_of}
use Rattle.ps_machine.specs.Boards.{Board, is_first_of}
use Rattle.ps_machine.specs.declared.key.Order.{Order}

abbrev pub board_of : Order → AutomatonData → Board
board_of order a =
    record {
      auto = auto_of a;
      states = a.states;
      propositions = length a.names;
      is_first = is_first_of order a.controllable;
    }
