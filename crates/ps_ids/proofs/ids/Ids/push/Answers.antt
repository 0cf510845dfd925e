use Rattle.std.proofs.Common.{rules, arith}
use Rattle.ps_ids.proofs.IdPlaces.{table_push, table_same}
use Rattle.ps_ids.proofs.ids.Ids.push.Goals as goal

pub invariant_of-self : goal.invariant_of-self
invariant_of-self c = search (rules, table_same)

pub invariant_of-self-in_err-keep_place : goal.invariant_of-self-in_err-keep_place
invariant_of-self-in_err-keep_place c =
    table_same c.self.inside.first c.self.inside.list.items _ c.self.inside.near.items
    _ _ _ c.self.invariant c.reserve.ensures.items (search rules) (search rules)

pub invariant_of-self-2 : goal.invariant_of-self-2
invariant_of-self-2 c = table_push c.self.inside.first c.self.inside.list.items _ c.self.inside.near.items
    _ _ _ c.args.id c.len-place.result c.self.invariant (omega (arith, c.len-place.ensures, c.self.inside.list.ok.0))
    c.in_ok-keep_place.ensures.ok (grind arith) (grind arith)
