use Rattle.std.proofs.Common.{arith, ◌∙◌, ◌++◌, ◌∷◌, [], ap, sym}
use Rattle.std.proofs.lemmas.List.FromFn.{map-range_with_len_more}
use Rattle.ps_label.specs.Truth.{is_in}
use Rattle.ps_program.proofs.commands.agree.bits_of.Goals as goal

pub loop-place-preserved : goal.loop-place-preserved
loop-place-preserved c = (rw c.has_bit.ensures at c.in_ok-push.ensures.items)
    ∙ ap (λ xs. xs ++ is_in c.loop-place.place c.args.letter ∷ []) c.loop-place.invariant ∙ sym
    (map-range_with_len_more (λ p. is_in p c.args.letter) 0 c.loop-place.place c.loop-place.place (omega arith))
