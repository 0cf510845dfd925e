use Rattle.std.proofs.Common.{◌≡◌, ◌∙◌, ◌+◌, ◌<◌, arith, get_or, length, subst, take}
use Rattle.std.proofs.lemmas.Grind.{get_or_default_zero}
use Rattle.std.proofs.lemmas.List.{length-take}
use Rattle.ps_formula.specs.Formulas.{Formula, formula_at}
use Rattle.ps_formula.proofs.Trees.{formula_at-take}
use Rattle.ps_sentences.specs.Mentions.{AreMentioned}
use Rattle.ps_sentences.proofs.mentions.mentioned.Goals as goal

pub returns : goal.returns
returns c =
    let root = c.args.root in
    let nodes = c.as_slice.result.now in
    let letters = c.in_ok-letters.letters.items in
    let letter = c.index.result.now in
    let within : root < length nodes = rw c.as_slice.ensures.value c.requires in
    let below : root < length letters =
    omega (arith, c.in_ok-letters.ensures.count, length-take (root + 1) nodes) in
    let read : letter ≡ get_or letters root 0 = c.index.ensures ∙ get_or_default_zero letters root letter below in
    let is : formula_at (take (root + 1) nodes) root ≡ formula_at c.args.formulas.now root =
    formula_at-take nodes (root + 1) root (omega arith) within ∙ (λ i. formula_at (c.as_slice.ensures.value i) root) in
    subst (λ (f : Formula). AreMentioned f letter) is
    (rw read (c.in_ok-letters.ensures.letters.each root below))
