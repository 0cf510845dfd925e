use Rattle.std.proofs.Common.{rules, ◌+◌, ◌∙◌}
use Rattle.ps_label.specs.Expression.{expression}
use Rattle.ps_label.proofs.OperandLists.{expression-Both, expression-Either}
use Rattle.ps_automaton.proofs.ChainsOfSets.Bits.{in_not}
use Rattle.ps_automaton.specs.Inner.LetterSets.{membership}
use Rattle.ps_automaton.proofs.EdgesAtLetters.LetterSets.{all_with, any_with, from_drop, in_all, in_none}
use Rattle.ps_automaton.proofs.letter_sets.+set_of.Goals as goal

pub loop-operand-init : goal.loop-operand-init
loop-operand-init t c = search (rules, expression-Both, in_all)

pub loop-operand-preserved : goal.loop-operand-preserved
loop-operand-preserved t c =
    let items = c.deref-operand-items.result.now in
    let k = c.loop-operand.operand-index in
    let from = from_drop items k _ c.loop-operand-test.true c.operand-item.is in
    let within = rw from at c.loop-operand.invariant.within in
    record {
      decides =
          λ first letter sets small. all_with expression (membership letter c.args.aliases.now) letter (first + letter)
          c.loop-operand.set c.set_of-set.result items k from (c.set_of-set.ensures first letter sets small)
          ∙ c.loop-operand.invariant.decides first letter sets small;
      within = within.1;
    }

pub loop-operand-2-init : goal.loop-operand-2-init
loop-operand-2-init t c = search (rules, expression-Either, in_none)

pub loop-operand-2-preserved : goal.loop-operand-2-preserved
loop-operand-2-preserved t c =
    let items = c.deref-operand-items-in-Either.result.now in
    let k = c.loop-operand-2.operand-index in
    let from = from_drop items k _ c.loop-operand-2-test.true c.operand-item-in-loop-operand-2.is in
    let within = rw from at c.loop-operand-2.invariant.within in
    record {
      decides =
          λ first letter sets small. any_with expression (membership letter c.args.aliases.now) letter (first + letter)
          c.loop-operand-2.set c.set_of-set-in-loop-operand-2.result items k from
          (c.set_of-set-in-loop-operand-2.ensures first letter sets small)
          ∙ c.loop-operand-2.invariant.decides first letter sets small;
      within = within.1;
    }

pub returns-then-value : goal.returns-then-value
returns-then-value t c = search (rules, in_all)

pub returns-in-Negated : goal.returns-in-Negated
returns-in-Negated t c = search (rules, in_not)

pub returns-in-Neg : goal.returns-in-Neg
returns-in-Neg t c = search (rules, in_not)
