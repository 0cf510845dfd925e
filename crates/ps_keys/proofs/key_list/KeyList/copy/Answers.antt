use Rattle.std.proofs.Common.{◌≡◌, rules}
use Rattle.ps_keys.proofs.TableLemmas.{copied}
use Rattle.ps_keys.proofs.key_list.KeyList.copy.Goals as goal

pub invariant_of-result : goal.invariant_of-result
invariant_of-result g c =
    let inside = c.self.inside in
    let list = inside.list.items in
    let new = c.extend_from_slice.new.self.items in
    let same : new ≡ list = search rules in
    let h = c.self.invariant in
    record {
      keys = copied g.K.Hashed.hash list new inside.table c.in_ok-table.table same c.in_ok-table.ensures.slots
          c.in_ok-table.ensures.reach c.in_ok-table.ensures.seed h.keys;
      different = rw same h.different;
    }
