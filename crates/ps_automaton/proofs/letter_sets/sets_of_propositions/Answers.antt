use Rattle.std.proofs.Common.{arith}
use Rattle.ps_automaton.proofs.EdgesAtLetters.LetterSets.{proposition_with}
use Rattle.ps_automaton.proofs.letter_sets.sets_of_propositions.Goals as goal

pub loop-proposition-preserved : goal.loop-proposition-preserved
loop-proposition-preserved c =
    let sets = c.loop-proposition.sets.items in
    let one_each = c.loop-proposition.invariant.one_each in
    record {
      one_each = omega (arith, c.in_ok-push.ensures.len, one_each);
      sets = rw c.in_ok-push.ensures.items (proposition_with c.args.first sets c.set_of_proposition.result
          c.loop-proposition.invariant.sets (rw one_each c.set_of_proposition.ensures));
    }
