use Rattle.std.proofs.Common.{◌≡◌, ℕ, ◌<◌, List, length, ap, arith, rules}
use Rattle.std.specs.List.Sorted.{IsStrictlyIncreasing}
use Rattle.ps_certificate.proofs.FlawsAndValidity.CountRule.{opposing_rises, Compared, FallsAtStart}
use Rattle.ps_certificate.proofs.FlawsAndValidity.CountRule.{KeepsCount-compared}
use Rattle.ps_certificate.proofs.FlawsAndValidity.CountRule.{IsFirstBroken-behind}
use Rattle.ps_certificate.proofs.checking.broken_priority.Goals as goal

pub invariant_of-rising : goal.invariant_of-rising
invariant_of-rising g c = search (rules, opposing_rises)

pub returns-in-None-clause-none : goal.returns-in-None-clause-none
returns-in-None-clause-none g c k within_opposing =
    let P : List ℕ → Type 0 = IsStrictlyIncreasing in
    let game = g.A.Arena.game c.args.arena.now in
    let priorities = c.opposing-priorities.result.now in
    let before = c.counts-before.result in
    let after = c.counts-after.result in
    let start = c.first_at_least-start.result in
    let compared : Compared game c.args.certificate.now c.args.vertex c.args.successor priorities before after
    c.max.result start = search (rules, opposing_rises) in
    let strict : FallsAtStart game c.args.vertex priorities before after start = search rules in
    let long : length after ≡ length priorities = search rules in
    let within : k < length priorities = omega (arith, ap length compared.priorities_are, within_opposing) in
    KeepsCount-compared k compared strict within (λ late. c.in-None.ensures.none k late (omega (arith, long, within)))

pub returns-in-Some-clause-some : goal.returns-in-Some-clause-some
returns-in-Some-clause-some g c =
    let P : List ℕ → Type 0 = IsStrictlyIncreasing in
    let game = g.A.Arena.game c.args.arena.now in
    let priorities = c.opposing-priorities.result.now in
    let before = c.counts-before.result in
    let after = c.counts-after.result in
    let start = c.first_at_least-start.result in
    let compared : Compared game c.args.certificate.now c.args.vertex c.args.successor priorities before after
    c.max.result start = search (rules, opposing_rises) in
    let strict : FallsAtStart game c.args.vertex priorities before after start = search rules in
    let long : length after ≡ length priorities = search rules in
    let above = c.in-Some.ensures.some in
    IsFirstBroken-behind c.in-Some.place compared strict above.from_there (omega (arith, above.within, long))
    above.earlier above.above
