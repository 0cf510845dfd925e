use Rattle.std.proofs.Common.{◌≡◌, ◌+◌, arith, length, refl}
use Rattle.std.proofs.lemmas.List.{length-set}
use Rattle.ps_keys.specs.Inner.Slots.{Ends, entry_of}
use Rattle.ps_keys.proofs.TableLemmas.{filled, one_used, slot_within}
use Rattle.ps_keys.proofs.table.Table.fill.Goals as goal

pub index_mut-requires : goal.index_mut-requires
index_mut-requires g c =
    let slots = c.args.self.now.slots in
    let free = c.args.free in
    omega (arith, slot_within slots.items free.hash free.passed free.slot c.requires.free.ends, slots.ok)

pub returns-clause-keys : goal.returns-clause-keys
returns-clause-keys g c =
    let old = c.args.self.now in
    let slots = old.slots.items in
    let free = c.args.free in
    let f = g.K.Hashed.hash old.seed in
    let place = c.args.place in
    let h = c.requires.keys in
    let hash_is = c.requires.free.hash_is in
    let ends : Ends slots (f c.args.key) free.passed free.slot = rw hash_is at c.requires.free.ends in
    let size : c.len.result ≡ length slots = omega (arith, c.len.ensures, old.slots.ok) in
    let entry : c.tag_of.result + (place + 1) ≡ entry_of slots (f c.args.key) place =
    rw (c.tag_of.ensures.value, hash_is, size) refl in
    let same = length-set slots free.slot (entry_of slots (f c.args.key) place) in
    rw entry (record {
      few = rw same h.few;
      power = rw same h.power;
      room = rw same c.requires.room;
      used = omega (
        arith,
        h.used,
        one_used slots free.slot (entry_of slots (f c.args.key) place)
            (slot_within slots (f c.args.key) free.passed free.slot ends),
      );
      short = rw same (omega (arith, h.short, ends.within));
      each = rw c.max-self.ensures (filled f c.args.list.now c.args.key place free.passed free.slot old.reach slots
          (slot_within slots (f c.args.key) free.passed free.slot ends) ends c.requires.key h.each);
    })
