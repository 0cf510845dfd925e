use Rattle.std.proofs.Common.{arith}
use Rattle.ps_diagram.proofs.TreesFromData.Alone.{bit_false}
use Rattle.ps_diagram.proofs.TreeOperations.BitLists.{add_none, add_one, skip_letter}
use Rattle.ps_diagram.proofs.TreeOperations.Hiding.{bit_not_zero}
use Rattle.ps_diagram.proofs.least_bits.Constants.add_bit.Goals as goal

pub returns-then-mask-proposition-eq0 : goal.returns-then-mask-proposition-eq0
returns-then-mask-proposition-eq0 c t constants b =
    skip_letter c.args.mask c.args.letter c.args.proposition c.args.bits.now.items
    (bit_false c.args.mask c.args.proposition (λ one. omega (arith, one, c.if-mask-proposition-eq0.true))) b

pub returns-then-letter-proposition-eq0 : goal.returns-then-letter-proposition-eq0
returns-then-letter-proposition-eq0 c t constants b =
    add_none c.args.mask c.args.letter c.args.proposition c.args.bits.now.items c.push.new.self.items
    (bit_not_zero c.args.mask c.args.proposition c.if-mask-proposition-eq0.false)
    (bit_false c.args.letter c.args.proposition (λ one. omega (arith, one, c.if-letter-proposition-eq0.true)))
    constants c.in_ok-push.ensures.items b

pub returns : goal.returns
returns c t constants b =
    add_one c.args.mask c.args.letter c.args.proposition c.args.bits.now.items c.push-2.new.self.items
    (bit_not_zero c.args.mask c.args.proposition c.if-mask-proposition-eq0.false)
    (bit_not_zero c.args.letter c.args.proposition c.if-letter-proposition-eq0.false) constants
    c.in_ok-push-2.ensures.items b
