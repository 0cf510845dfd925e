use Rattle.std.proofs.Common.{sym, ◌∙◌}
use Rattle.ps_simulate.proofs.LapsOfRuns.LetterBitLaws.{bit_put, bit_kept, bit_few}
use Rattle.ps_simulate.proofs.naming.with_bit.Goals as goal

pub returns-then-bit-clause-at : goal.returns-then-bit-clause-at
returns-then-bit-clause-at c = λ free. bit_put c.args.letter c.args.p c.requires free ∙ sym c.if-bit.true

pub returns-then-bit-clause-others : goal.returns-then-bit-clause-others
returns-then-bit-clause-others c = λ q other. bit_kept c.args.letter c.args.p q c.requires other

pub returns-then-bit-clause-few : goal.returns-then-bit-clause-few
returns-then-bit-clause-few c = λ count lt few. bit_few c.args.letter c.args.p count c.requires lt few
