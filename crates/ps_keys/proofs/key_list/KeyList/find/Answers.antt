use Rattle.ps_keys.proofs.TableLemmas.{is_last}
use Rattle.ps_keys.proofs.key_list.KeyList.find.Goals as goal

pub returns-in-Found : goal.returns-in-Found
returns-in-Found g c =
    let list = c.self.inside.list.items in
    let place = c.in-Found.place in
    let found = rw c.deref.ensures.value at c.in-Found.ensures in
    rw (← c.self.view_is) (
      found.0,
      found.1,
      is_last list c.args.key g.K.PartialEq.eq g.met.K.Eq.laws
          c.self.invariant.different place found.1,
    )
