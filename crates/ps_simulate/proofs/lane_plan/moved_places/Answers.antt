use Rattle.std.proofs.Common.{◌≡◌, ◌∙◌, ℕ, List, ap, arith, length, length-set, refl}
use Rattle.std.specs.List.{range_with_len}
use Rattle.std.proofs.lemmas.Iterator.{YieldsList-from_range, items_from_collect}
use Rattle.std.proofs.lemmas.List.FromFn.{get_or-range_with_len, length-range_with_len}
use Rattle.ps_simulate.specs.LanePlans.{moved}
use Rattle.ps_simulate.proofs.EvaluationPlans.LanePlanLemmas.{kept_more, order_more}
use Rattle.ps_simulate.proofs.lane_plan.moved_places.Goals as goal

pub loop-number-init : goal.loop-number-init
loop-number-init c =
    let numbers = items_from_collect _ c.collect.ensures.ran
    (YieldsList-from_range 0 c.args.size c.args.size refl (omega arith)) in
    let is : c.in_ok-places.places.items ≡ range_with_len 0 c.args.size = rw c.in_ok-places.was at numbers in
    record {
      size = ap length is ∙ length-range_with_len 0 c.args.size;
      kept = λ p lt. ap (λ (places : List ℕ). moved places p) is
          ∙ get_or-range_with_len 0 c.args.size p 0 (omega (arith, c.requires.fit)) ∙ omega arith;
      in_order = λ k d lt. absurd (omega arith);
    }

pub loop-number-preserved : goal.loop-number-preserved
loop-number-preserved c = grind (arith, length-set, kept_more, order_more)
