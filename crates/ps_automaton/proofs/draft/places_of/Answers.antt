use Rattle.std.proofs.Common.{arith, rules}
use Rattle.std.proofs.lemmas.Option.{slice_get-get_or}
use Rattle.ps_automaton.specs.Inner.Drafts.{Extends}
use Rattle.ps_automaton.specs.Inner.Places.{IsPlaced}
use Rattle.ps_automaton.specs.Inner.Views.{chain_data}
use Rattle.ps_automaton.proofs.StepsByState.Steps.{step_extends, step_within, extends_both, named_more}
use Rattle.ps_automaton.proofs.draft.places_of.Goals as goal

pub loop-target-preserved : goal.loop-target-preserved
loop-target-preserved c =
    let old = c.loop-target.steps in
    let new = c.place_of.new.self in
    let step = c.step_to.result in
    let placed : IsPlaced old new step c.in_ok-place.place = c.in_ok-place.ensures in
    let more : Extends old new = step_extends step placed in
    let inv = c.loop-target.invariant in
    let at = slice_get-get_or c.args.targets.now c.loop-target.target-index _ c.loop-target-test.true in
    record {
      extends = extends_both c.args.steps.now old new inv.extends more;
      within = λ states low a. step_within step placed
          (search (rules, c.loop-target.target-index, c.step_to.ensures)) (inv.within states low a);
      so_far = omega (arith, c.in_ok-push.ensures.len, inv.so_far);
      each = named_more (chain_data c.args.levels.now.chain) c.args.targets.now old new c.loop-target.places.items
          c.in_ok-place.place more placed.stored c.step_to.ensures at inv.so_far c.in_ok-push.ensures.items inv.each;
    }
