use Rattle.std.proofs.Common.{List, ℕ, ◌+◌, drop, get_or, ap, sym, ◌∙◌}
use Rattle.std.specs.Prelude.{◌||◌}
use Rattle.ps_label.specs.Truth.{is_in}
use Rattle.ps_hoa.specs.Files.{is_among}
use Rattle.ps_automaton.proofs.ChainsOfSets.Bits.{one_set_more, from_place}
use Rattle.ps_automaton.proofs.targets.mask_of.Goals as goal

pub loop-set-preserved : goal.loop-set-preserved
loop-set-preserved c = λ set small.
    let sets = c.args.sets.now in
    let k = c.loop-set.set-index in
    one_set_more set c.loop-set.mask (get_or sets k 0) (drop (k + 1) sets) (c.requires k 0 c.loop-set-test.true)
    ∙ ap (λ (xs : List ℕ). is_in set c.loop-set.mask || is_among set xs) (sym (from_place sets k c.loop-set-test.true))
    ∙ c.loop-set.invariant set small
