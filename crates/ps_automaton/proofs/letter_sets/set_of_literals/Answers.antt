use Rattle.std.proofs.Common.{rules, ◌+◌, ◌∙◌}
use Rattle.ps_label.specs.Expression.{literal_expression}
use Rattle.ps_automaton.proofs.EdgesAtLetters.LetterSets.{all_with, from_drop, in_all}
use Rattle.ps_automaton.proofs.letter_sets.set_of_literals.Goals as goal

pub loop-literal-init : goal.loop-literal-init
loop-literal-init c = search (rules, in_all)

pub loop-literal-preserved : goal.loop-literal-preserved
loop-literal-preserved c =
    let literals = c.args.literals.now in
    let l = c.loop-literal in
    let from = from_drop literals l.literal-index _ c.loop-literal-test.true c.literal-item.is in
    let within = rw from at l.invariant.within in
    record {
      decides = λ first letter sets small known. all_with literal_expression known letter (first + letter) l.set
          c.set_of_literal-set.result literals l.literal-index from
          (c.set_of_literal-set.ensures first letter sets small known)
          ∙ l.invariant.decides first letter sets small known;
      within = (within.0, within.1.1);
    }
