use Rattle.std.proofs.Common.{arith, refl, ◌+◌, ◌∙◌, sym, ap, List}
use Rattle.std.proofs.lemmas.List.{drop_all, length-map}
use Rattle.ps_label.specs.Truth.{alias_truths, expressions, truths_behind}
use Rattle.ps_label.specs.declared.label.Label.{Label}
use Rattle.ps_automaton.specs.Inner.LetterSets.{membership}
use Rattle.ps_automaton.proofs.EdgesAtLetters.LetterSets.{alias_with, from_drop}
use Rattle.ps_automaton.proofs.letter_sets.sets_of_aliases.Goals as goal

pub loop-alias-init : goal.loop-alias-init
unfolding alias_truths
loop-alias-init c = rw (c.new-sets.ensures.items, c.as_slice-alias-items.ensures.value) (record {
  one_each = refl;
  known = λ first letter sets small. refl;
  ordered = c.requires.within;
})

pub loop-alias-preserved : goal.loop-alias-preserved
loop-alias-preserved c =
    let items = c.as_slice-alias-items.result.now in
    let k = c.loop-alias.alias-index in
    let sets = c.loop-alias.sets.items in
    let from = from_drop items k _ c.loop-alias-test.true c.alias-item.is in
    let one_each = c.loop-alias.invariant.one_each in
    let ordered = rw from at c.loop-alias.invariant.ordered in
    record {
      one_each = omega (arith, c.in_ok-push.ensures.len, one_each);
      known = λ first letter are_sets small.
          let same = rw c.deref.ensures.value at (c.set_of-set.ensures first letter are_sets small) in
          rw c.in_ok-push.ensures.items (alias_with letter (first + letter) sets c.set_of-set.result items k from same)
          ∙ c.loop-alias.invariant.known first letter are_sets small;
      ordered = ordered.1;
    }

pub returns-clause-one_each : goal.returns-clause-one_each
returns-clause-one_each c = grind (arith, length-map)

pub returns-clause-sets : goal.returns-clause-sets
returns-clause-sets c = λ first are_sets letter small.
    let none = drop_all c.loop-alias.alias-index c.as_slice-alias-items.result.now c.loop-alias-test.false in
    ap (λ (ls : List Label). truths_behind (membership letter c.loop-alias.sets.items) (first + letter)
    (expressions ls))
    (sym none) ∙ c.loop-alias.invariant.known first letter are_sets small
