-- An automaton's board, game and machines with the propositions mixed.
-- - `mixed_board mixing board`: the board with its propositions moved
-- - `mixed_key n mixing key`: what a vertex of the game stands for in the mixed board's game
-- - `mixed_machine n mixing m`: the machine that reads and outputs letters with their propositions moved
use Rattle.std.specs.Prelude.{ℕ, List, map}
use Rattle.ps_machine.specs.Behaviours.{Behaviour}
use Rattle.ps_machine.specs.Boards.{Board}
use Rattle.ps_machine.specs.declared.key.Key.{Key}
use Rattle.ps_machine.specs.declared.key.Key.TheVariants.{First, Second}
use Rattle.ps_mixing.specs.MixedAutos.{mixed_auto}
use Rattle.ps_mixing.specs.MixedFiles.{mixed_names}
use Rattle.ps_mixing.specs.Mixings.{Mixing, moved}

abbrev pub mixed_board : Mixing → Board → Board
mixed_board mixing board =
    record {
      auto = mixed_auto board.propositions mixing board.auto;
      states = board.states;
      propositions = board.propositions;
      is_first = λ p. board.is_first (mixing.from p);
    }

abbrev pub mixed_key : ℕ → Mixing → Key → Key
mixed_key n mixing (First q p) = First q p
mixed_key n mixing (Second q x) = Second q (moved n mixing.from x)

abbrev pub mixed_keys : ℕ → Mixing → List Key → List Key
mixed_keys n mixing keys = map (mixed_key n mixing) keys

abbrev pub mixed_machine : ℕ → Mixing → Behaviour → Behaviour
mixed_machine n mixing m =
    record {
      names = mixed_names mixing m.names;
      inputs = map mixing.to m.inputs;
      outputs = map mixing.to m.outputs;
      player = m.player;
      is_first = m.is_first;
      memories = m.memories;
      next = λ memory x. m.next memory (moved n mixing.to x);
      plays = λ memory x. moved n mixing.from (m.plays memory (moved n mixing.to x));
    }
