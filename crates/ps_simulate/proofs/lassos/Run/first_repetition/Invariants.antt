use Rattle.std.proofs.Common.{◌≡◌, ◌-◌, ◌^◌, Bool, List, length, vec_len}
use Rattle.std.specs.BTreeMap.{btree_map_len}
use Rattle.ps_simulate.specs.Stimuli.{letters_of}
use Rattle.ps_simulate.specs.LassoRuns.{HasRead, HavePlaces}
use Rattle.ps_simulate.specs.Inner.Namings.{names_of}
use Rattle.ps_simulate.proofs.lassos.Run.first_repetition.Given as goal

abbrev pub invariant-laps : goal.invariant-laps
invariant-laps l = record {
  read : (seen : List (List Bool)) × HavePlaces seen l.seen ×
      HasRead (names_of l.naming) l.fn.self.simulator.circuit (letters_of l.stem) (letters_of l.lap) seen
      l.self.letters.items l.self.simulator.latches;
  same : l.self.simulator.circuit ≡ l.fn.self.simulator.circuit;
  outputs_fit : vec_len l.self.outputs ≡ length l.fn.self.simulator.circuit.outputs;
  wide : length l.self.simulator.latches ≡ length l.fn.self.simulator.circuit.latches;
}

abbrev pub decreases-laps : goal.decreases-laps
decreases-laps l = 2 ^ length l.fn.self.simulator.circuit.latches - btree_map_len l.seen
