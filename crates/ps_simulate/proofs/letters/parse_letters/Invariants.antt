use Rattle.std.proofs.Common.{◌≡◌, ◌*◌, ◌-◌, ◌≤◌, false, length}
use Rattle.ps_simulate.specs.Stimuli.{letters_in, stem_of}
use Rattle.ps_simulate.specs.Inner.StimulusReading.{HasRead}
use Rattle.ps_simulate.proofs.letters.parse_letters.Given as goal

abbrev pub invariant-loop-start : goal.invariant-loop-start
invariant-loop-start l = record {
  read : HasRead l.text l.width false false l.start (stem_of (letters_in l.width l.count l.bits.items));
  whole : length l.bits.items ≡ l.count * l.width;
  few : l.count ≤ l.start;
}

abbrev pub decreases-loop-start : goal.decreases-loop-start
decreases-loop-start l = length l.text - l.start
