use Rattle.std.proofs.Common.{◌≡◌, ℕ, ◌==◌, Option, length, arith, ap, ◌∙◌}
use Rattle.std.specs.BTreeMap.{get}
use Rattle.std.specs.Option.{is_some}
use Rattle.std.specs.Ordering.{nat_cmp}
use Rattle.ps_ids.proofs.IdPlaces.{nothing_far, position_past}
use Rattle.ps_ids.proofs.IdPlaces.{position_within, some_position}
use Rattle.ps_ids.proofs.ids.Ids.place.Goals as goal

pub returns-then-is_empty-2-clause-place : goal.returns-then-is_empty-2-clause-place
returns-then-is_empty-2-clause-place c =
    let inside = c.self.inside in
    let no_far = nothing_far inside.far (grind arith) in
    let far : ℕ → Option ℕ = λ id. get nat_cmp inside.far id in
    let no_near : length inside.near.items ≡ 0 = grind arith in
    grind (
      arith,
      position_within inside.first inside.list.items inside.near.items far c.args.id c.self.invariant no_near no_far
          c.if-id-self.true,
      position_past inside.first inside.list.items inside.near.items far c.args.id c.self.invariant no_near no_far
          c.if-id-self.true,
    )

pub returns-then-is_empty-2-clause-member : goal.returns-then-is_empty-2-clause-member
returns-then-is_empty-2-clause-member c =
    ap is_some (returns-then-is_empty-2-clause-place c) ∙ some_position (λ other. c.args.id == other) c.args.self.now
