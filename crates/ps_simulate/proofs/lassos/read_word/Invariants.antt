use Rattle.std.proofs.Common.{◌≡◌, length, take}
use Rattle.ps_simulate.specs.Stimuli.{letters_of}
use Rattle.ps_simulate.specs.LassoRuns.{ReadsWord}
use Rattle.ps_simulate.specs.Inner.Namings.{names_of}
use Rattle.ps_simulate.proofs.lassos.read_word.Given as goal

abbrev pub invariant-loop-letter : goal.invariant-loop-letter
invariant-loop-letter l = record {
  reads : ReadsWord (names_of l.naming) l.initial.simulator.circuit l.initial.simulator.latches
      (letters_of (take l.letter-index l.word)) l.initial.letters.items l.letters.items l.simulator.latches;
  same : l.simulator.circuit ≡ l.initial.simulator.circuit;
  outputs_fit : length l.outputs ≡ length l.initial.simulator.circuit.outputs;
}
