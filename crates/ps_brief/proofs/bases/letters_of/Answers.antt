use Rattle.ps_brief.proofs.BasesOfLetters.MarkedLetters.{all_marked}
use Rattle.ps_brief.proofs.bases.letters_of.Goals as goal

pub returns : goal.returns
returns c = all_marked c.args.store.now c.args.basis c.requires.leaves c.in_ok-leaves.leaves.items
    c.in_ok-leaves.ensures c.loop-letter.letters.items c.deref-letter-items.result.now c.loop-letter.letter-index
    c.loop-letter.invariant c.loop-letter.auto.letter-index-end c.loop-letter-test.false
    c.deref-letter-items.ensures.value
