use Rattle.std.proofs.Common.{arith, ◌≡◌, ◌∙◌, List, Some, ap, get_or, length, refl}
use Rattle.std.specs.List.{slice_get}
use Rattle.std.proofs.lemmas.Option.{slice_get_read}
use Rattle.ps_label.specs.Expression.{expression}
use Rattle.ps_automaton.specs.declared.letter_sets.WordSets.{WordSets}
use Rattle.ps_automaton.proofs.EdgesAtLetters.LetterSets.{mask_is, truths_more}
use Rattle.ps_automaton.proofs.letter_sets.LetterSets.of_label.Goals as goal

pub loop-word-preserved : goal.loop-word-preserved
loop-word-preserved c =
    let l = c.loop-word in
    let x = c.word-item in
    let items = c.args.self.now.words.items in
    let is : x.result ≡ get_or items l.word-index x.result =
    x.is ∙ ap (λ (ws : List WordSets). get_or ws l.word-index x.result) c.deref-word-items.ensures.value in
    let at : slice_get items l.word-index ≡ Some x.result = slice_get_read items (length items) l.word-index
    x.result refl (omega (arith, ap length c.deref-word-items.ensures.value)) is in
    let word = c.requires.sets.each l.word-index x.result at in
    let set = rw (c.deref.ensures.value, c.deref-in-loop-word.ensures.value) at c.set_of.ensures in
    record {
      so_far = omega (arith, c.in_ok-push.ensures.len, l.invariant.so_far);
      truths = truths_more c.args.file.now (expression c.args.label.now) l.set.items c.set_of.result
          l.invariant.so_far c.in_ok-push.ensures.items
          (mask_is word c.set_of.result (expression c.args.label.now) set) l.invariant.truths;
    }
