use Rattle.std.proofs.Common.{arith, refl}
use Rattle.std.proofs.lemmas.Nat.{or_lt}
use Rattle.ps_automaton.proofs.ChainsOfSets.Bits.{in_or, both_among}
use Rattle.ps_automaton.proofs.targets.target_of.Goals as goal

pub returns : goal.returns
returns c = record {
  state = refl;
  few = or_lt 64 c.mask_of.result c.mask_of-2.result c.mask_of.type_inv c.mask_of-2.type_inv;
  sets = grind (arith, in_or, both_among);
}
