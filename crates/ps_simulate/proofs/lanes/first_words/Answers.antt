use Rattle.std.proofs.Common.{ℕ, List, map, length, ap, arith}
use Rattle.std.proofs.lemmas.List.{get_or_default, take_all}
use Rattle.ps_simulate.specs.Lanes.{lane_bit}
use Rattle.ps_simulate.proofs.EvaluationPlans.LaneLemmas.{reset_on}
use Rattle.ps_simulate.proofs.lanes.first_words.Goals as goal

pub loop-latch-init : goal.loop-latch-init
loop-latch-init c lane lt = ap (map (λ (ws : List ℕ). lane_bit ws lane)) c.new-words.ensures.items

pub loop-latch-preserved : goal.loop-latch-preserved
loop-latch-preserved c lane lt = reset_on c.args.circuit.now.latches c.loop-latch.words.items c.loop-latch.latch-index
    lane lt (omega (arith, c.loop-latch-test.true, ap length c.latches-latch-items.ensures.latches))
    (grind (arith, get_or_default)) c.in_ok-push.ensures.items (c.loop-latch.invariant lane lt)

pub returns : goal.returns
returns c lane lt = grind (arith, take_all)
