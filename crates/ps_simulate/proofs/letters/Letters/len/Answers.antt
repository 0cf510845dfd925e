use Rattle.std.proofs.Common.{arith}
use Rattle.ps_simulate.proofs.LapsOfRuns.BitLists.{length-letters_in}
use Rattle.ps_simulate.proofs.letters.Letters.len.Goals as goal

pub returns : goal.returns
returns c = grind (arith, length-letters_in)
