use Rattle.std.proofs.lemmas.Grind.{common_steps}
use Rattle.std.proofs.Common.{◌-◌, arith, drop, false, refl}
use Rattle.std.proofs.lemmas.Bool.{both_ways}
use Rattle.std.proofs.lemmas.List.Elements.{All-take, All-drop, All-from_get_or}
use Rattle.ps_game.specs.Ranking.{HasPriority}
use Rattle.ps_certificate.proofs.FlawsAndValidity.Windows.{present_more}
use Rattle.ps_certificate.proofs.fitted.all_present.Goals as goal

pub returns-then-not-window_present : goal.returns-then-not-window_present
returns-then-not-window_present g c = (
  (λ no. absurd (both_ways false refl no)),
  λ all. absurd (both_ways c.window_present.result c.if-not-window_present.true (c.window_present.ensures.1
      (All-take (HasPriority (g.A.Arena.game c.args.arena.now)) (c.min-end.result - c.loop-start.start)
      (drop c.loop-start.start c.args.rising.list.now) (All-drop (HasPriority (g.A.Arena.game c.args.arena.now))
      c.loop-start.start c.args.rising.list.now all)))),
)

pub loop-start-preserved : goal.loop-start-preserved
loop-start-preserved g c = record {
  within = omega arith;
  present = present_more (g.A.Arena.game c.args.arena.now) c.args.rising.list.now c.loop-start.start c.min-end.result
      (omega arith) c.loop-start.invariant.present (c.window_present.ensures.0 c.if-not-window_present.false);
}

pub returns : goal.returns
returns g c = (
  (λ _. All-from_get_or (HasPriority (g.A.Arena.game c.args.arena.now)) c.args.rising.list.now 0
      (λ k within. c.loop-start.invariant.present k (omega arith))),
  λ _. refl,
)

pub loop-start-smaller : goal.loop-start-smaller
loop-start-smaller c = grind (arith, common_steps)
