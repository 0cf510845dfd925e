use Rattle.std.proofs.Common.{◌≡◌, ◌+◌, ◌++◌, ◌∷◌, [], arith, length, rules}
use Rattle.std.proofs.lemmas.List.{length-append}
use Rattle.ps_keys.specs.Inner.Tables.{HasKeys}
use Rattle.ps_keys.proofs.TableLemmas.{one_more, pushed}
use Rattle.ps_keys.proofs.key_list.KeyList.place_of.Goals as goal

pub fill-requires-clause-keys : goal.fill-requires-clause-keys
fill-requires-clause-keys g c =
    let list = c.self.inside.list.items in
    let table = c.make_room.new.self in
    let all : HasKeys g.K.Hashed.hash list (length list) table =
    rw (← c.deref-2.ensures.value) c.make_room.ensures.keys in
    let items : c.deref-3.result.now ≡ list ++ c.args.key ∷ [] = search rules in
    rw items (pushed list c.args.key g.K.Hashed.hash c.len-place.result table
    (omega (arith, c.len-place.ensures, c.self.inside.list.ok)) all)

pub invariant_of-self-2 : goal.invariant_of-self-2
invariant_of-self-2 g c =
    let list = c.self.inside.list.items in
    let key = c.args.key in
    let items : c.push.new.self.items ≡ list ++ key ∷ [] = c.in_ok-push.ensures.items in
    let same : c.deref-3.result.now ≡ list ++ key ∷ [] = search rules in
    let all : c.len-place.result + 1 ≡ length (list ++ key ∷ []) =
    omega (arith, c.len-place.ensures, c.self.inside.list.ok, length-append list (key ∷ [])) in
    rw items (record {
      keys = rw (same, all) at c.fill.ensures.keys;
      different = one_more list key g.K.PartialEq.eq (rw c.deref.ensures.value at c.in-Missing.ensures.0)
          c.self.invariant.different;
    })
