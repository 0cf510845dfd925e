use Rattle.std.proofs.Common.{arith, refl}
use Rattle.ps_automaton.proofs.ChainsOfSets.Gatherings.{gather_link, gather_first_other, gather_further_other}
use Rattle.ps_automaton.proofs.ChainsOfSets.Gatherings.{gathered_all}
use Rattle.ps_automaton.proofs.ChainsOfSets.Gatherings.{gathered_but, from_here, kept}
use Rattle.ps_automaton.proofs.chain.gather.Goals as goal
use Rattle.ps_automaton.proofs.chain.gather.Goals.{in-Some+in_ok-push-in-Some, in-None-2}

pub loop-k-init : goal.loop-k-init
loop-k-init c = refl

pub loop-k-preserved : goal.loop-k-preserved
loop-k-preserved c =
    let here = from_here c.args.operands.now c.loop-k.k c.loop-k-test.true c.index-operands-k.is in
    elim c.match-link_of.branch [
      | in-Some+in_ok-push-in-Some w ↦ grind (arith, kept, gather_link)
      | in-None-2 w ↦ grind (arith, kept, gather_first_other)
    ]

pub returns-in-None : goal.returns-in-None
returns-in-None c = grind (arith, from_here, gather_further_other)

pub returns-in-None-remaining : goal.returns-in-None-remaining
returns-in-None-remaining c = gathered_all c.args.accepts c.args.operands.now c.args.links.now.items
    c.loop-k.links.items c.loop-k.k c.loop-k-test.false (grind (arith, kept))

pub returns-in-Some-remaining : goal.returns-in-Some-remaining
returns-in-Some-remaining c = gathered_but c.args.accepts c.args.operands.now c.args.links.now.items
    c.loop-k.links.items c.loop-k.k c.in-Some-remaining.k c.loop-k-test.false (grind (arith, kept))
