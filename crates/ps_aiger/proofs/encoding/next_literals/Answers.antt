use Rattle.std.proofs.Common.{arith, subst}
use Rattle.ps_aiger.specs.Inner.Functions.{MakesLiterals, behaviour_of}
use Rattle.ps_aiger.proofs.WiredLemmas.{first_wired, bits_are, nexts_wanted}
use Rattle.ps_aiger.proofs.encoding.next_literals.Goals as goal

pub literals_of-requires-clause-wanted : goal.literals_of-requires-clause-wanted
literals_of-requires-clause-wanted c =
    let made = c.in_ok-next_bits.ensures in
    rw c.deref.ensures.value (nexts_wanted (behaviour_of c.args.machine.now).outputs c.in_ok-next_bits.next_bits.items
    c.args.latches made.many made.each)

pub returns : goal.returns
returns c = subst (MakesLiterals c.args.builder.now c.literals_of.new.builder c.literals_of.result)
    (grind (arith, first_wired, bits_are)) c.literals_of.ensures
