use Rattle.std.proofs.Common.{◌-◌, length}
use Rattle.ps_simulate.specs.Stimuli.{letters_of}
use Rattle.ps_simulate.specs.Inner.StimulusReading.{HasRead}
use Rattle.ps_simulate.proofs.stimulus.parse_stimulus.Given as goal

abbrev pub invariant-loop-start : goal.invariant-loop-start
invariant-loop-start l = HasRead l.text l.width l.split l.in_lap l.start (record {
  stem = letters_of l.stem.items;
  lap = letters_of l.lap.items;
})

abbrev pub decreases-loop-start : goal.decreases-loop-start
decreases-loop-start l = length l.text - l.start
