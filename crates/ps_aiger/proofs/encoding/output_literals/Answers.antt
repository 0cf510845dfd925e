use Rattle.std.proofs.Common.{rules, subst, sym}
use Rattle.ps_aiger.specs.Inner.Functions.{MakesLiterals}
use Rattle.ps_aiger.specs.Inner.Functions.{behaviour_of}
use Rattle.ps_aiger.proofs.WireLemmas.{wired-extends}
use Rattle.ps_aiger.proofs.WiredLemmas.{all_wired, outputs_wanted}
use Rattle.ps_aiger.proofs.encoding.output_literals.Goals as goal

pub literals_of-requires-clause-given : goal.literals_of-requires-clause-given
literals_of-requires-clause-given c =
    let b = behaviour_of c.args.machine.now in
    rw c.requires.behind (wired-extends b c.args.latches _ _).given

pub literals_of-requires-clause-wanted : goal.literals_of-requires-clause-wanted
literals_of-requires-clause-wanted c = rw c.deref.ensures.value (outputs_wanted
    (behaviour_of c.args.machine.now).outputs c.in_ok-output_bits.output_bits.items c.in_ok-output_bits.ensures)

pub returns : goal.returns
returns c = subst (MakesLiterals c.args.builder.now c.literals_of.new.builder c.literals_of.result)
    (sym (search (rules, all_wired))) c.literals_of.ensures
