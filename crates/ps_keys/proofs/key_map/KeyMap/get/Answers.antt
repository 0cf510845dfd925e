use Rattle.std.proofs.Common.{◌∙◌, Some, ap, arith, sym}
use Rattle.ps_keys.proofs.MapLemmas.{none_kept, value_kept}
use Rattle.ps_keys.proofs.key_map.KeyMap.get.Goals as goal

pub returns-in-Some : goal.returns-in-Some
returns-in-Some g c =
    let keys = c.self.inside.keys in
    let values = c.self.inside.values.items in
    let place = c.in-Some.place in
    let found = c.in-Some.ensures in
    let d = c.index.result.now in
    rw (← c.self.view_is) (ap Some c.index.ensures
    ∙ sym (value_kept (λ x. g.K.PartialEq.eq x c.args.key) keys values place d c.self.invariant found.0 found.1 found.2))

pub returns-in-None : goal.returns-in-None
returns-in-None g c = rw (← c.self.view_is) (sym (none_kept (λ x. g.K.PartialEq.eq x c.args.key) c.self.inside.keys
    c.self.inside.values.items (λ i d less. c.in-None.ensures i d (omega arith) less)))
