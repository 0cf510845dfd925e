use Rattle.std.proofs.Common.{◌≡◌, ◌+◌, ◌*◌, length, refl, rules, arith}
use Rattle.std.proofs.lemmas.Result.{on_ok_weaker}
use Rattle.std.proofs.lemmas.List.{length_push}
use Rattle.ps_zielonka.specs.Inner.Stacks.{IsStep}
use Rattle.ps_zielonka.proofs.PendingCalls.Measure.{falls_kept}
use Rattle.ps_zielonka.proofs.PendingCalls.Answered.{kept_nest, moved_nest}
use Rattle.ps_zielonka.proofs.PendingCalls.Deep.{depth_climbs, depth_kept}
use Rattle.ps_zielonka.proofs.nest.Nest.climb.Goals as goal

pub go_on-requires-clause-nest : goal.go_on-requires-clause-nest
go_on-requires-clause-nest g c = rw c.is_kept.ensures.moved.winner (moved_nest c.pop.new.self.items c.in-Some.frame
    (rw (c.requires.done, c.in-Some.ensures.items) at c.requires.stack) c.is_kept.ensures.moved.moved
    c.is_kept.ensures.moved.fits)

pub returns-then-is_kept : goal.returns-then-is_kept
returns-then-is_kept g c =
    let frames = c.pop.new.self.items in
    let depth : 2 * c.len-depth.result + 1 ≡ 2 * length frames + 1 =
    omega (arith, c.len-depth.ensures, c.pop.new.self.ok.0) in
    record {
      stack = rw (c.requires.done, c.is_kept.ensures.moved.winner) (kept_nest frames c.in-Some.frame
          (rw (c.requires.done, c.in-Some.ensures.items) at c.requires.stack) c.is_kept.ensures.moved.moved
          c.is_kept.ensures.moved.fits (rw depth at (c.if-is_kept.ensures.kept refl)));
      falls = search (rules, length_push, falls_kept);
      deep = λ so_far. search (rules, depth_climbs);
    }

pub returns-else-is_kept : goal.returns-else-is_kept
returns-else-is_kept g c =
    let game = g.A.Arena.game c.args.edges.now.arena.now in
    on_ok_weaker {Q = IsStep game c.args.self.now c.go_on.new.self} c.go_on.result (λ resumed. record {
      stack = resumed.stack;
      falls = search (rules, length_push, falls_kept);
      deep = λ so_far. search (rules, depth_kept);
    }) c.go_on.ensures
