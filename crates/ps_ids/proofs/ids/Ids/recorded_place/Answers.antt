use Rattle.std.proofs.Common.{◌==◌, arith, ap, ◌∙◌, position}
use Rattle.std.specs.BTreeMap.{get}
use Rattle.std.specs.Option.{is_some}
use Rattle.std.specs.Ordering.{nat_cmp}
use Rattle.ps_ids.proofs.IdPlaces.{found_at, near_at, position_by_table}
use Rattle.ps_ids.proofs.IdPlaces.{some_position}
use Rattle.ps_ids.proofs.ids.Ids.recorded_place.Goals as goal

pub returns-in-Some-clause-place : goal.returns-in-Some-clause-place
returns-in-Some-clause-place c = found_at c.self.inside.list.items c.args.id c.in-Some.near
    c.self.invariant.distinct c.self.view_is (near_at c.self.inside.first c.self.inside.list.items
    c.self.inside.near.items (λ id. get nat_cmp c.self.inside.far id) c.args.id c.in-Some.near c.self.invariant
    (grind arith) (grind arith))

pub returns-then-stands_at-clause-place : goal.returns-then-stands_at-clause-place
returns-then-stands_at-clause-place c = found_at c.self.inside.list.items c.args.id c.own_place-own.result
    c.self.invariant.distinct c.self.view_is (grind arith)

pub returns-clause-place : goal.returns-clause-place
returns-clause-place c = c.copied.ensures ∙ c.get.ensures.value
    ∙ position_by_table c.self.inside.first c.self.inside.list.items c.self.inside.near.items
    (λ id. get nat_cmp c.self.inside.far id) c.args.id c.self.invariant (λ above. grind arith) (λ at. grind arith)
    ∙ ap (λ xs. position (λ other. c.args.id == other) xs) c.self.view_is

pub returns-in-Some-clause-within : goal.returns-in-Some-clause-within
returns-in-Some-clause-within c = grind (arith, returns-in-Some-clause-place c)

pub returns-clause-within : goal.returns-clause-within
returns-clause-within c = grind (arith, returns-clause-place c)

pub returns-then-stands_at-clause-member : goal.returns-then-stands_at-clause-member
returns-then-stands_at-clause-member c =
    ap is_some (returns-then-stands_at-clause-place c) ∙ some_position (λ other. c.args.id == other) c.args.self.now

pub returns-in-Some-clause-member : goal.returns-in-Some-clause-member
returns-in-Some-clause-member c =
    ap is_some (returns-in-Some-clause-place c) ∙ some_position (λ other. c.args.id == other) c.args.self.now

pub returns-clause-member : goal.returns-clause-member
returns-clause-member c =
    ap is_some (returns-clause-place c) ∙ some_position (λ other. c.args.id == other) c.args.self.now
