use Rattle.std.proofs.Common.{◌≡◌, arith, inl, inr, length}
use Rattle.ps_keys.specs.Inner.Slots.{nth_entry, nth_slot}
use Rattle.ps_keys.proofs.TableLemmas.{lacks}
use Rattle.ps_keys.proofs.table.Table.find.Goals as goal

pub overflow_add-passed : goal.overflow_add-passed
overflow_add-passed g c = omega (
  arith,
  c.loop-passed-test.true,
  c.requires.short,
  c.len-size.ensures,
  c.args.self.now.slots.ok,
)

pub returns-then-entry-eq0 : goal.returns-then-entry-eq0
returns-then-entry-eq0 g c =
    let self = c.args.self.now in
    let slots = self.slots.items in
    let f = g.K.Hashed.hash self.seed in
    let key = c.args.key in
    let hash = c.hash-hash.result in
    let passed = c.loop-passed.passed in
    let slot = c.nth_slot-slot.result in
    let size : c.len-size.result ≡ length slots = omega (arith, c.len-size.ensures, self.slots.ok) in
    let is : slot ≡ nth_slot hash passed (length slots) = rw size at c.nth_slot-slot.ensures.value in
    let empty : nth_entry slots hash passed ≡ 0 = rw (← is) (cc c.index-entry.ensures) in (
      lacks g.K.PartialEq.eq c.args.list.now key slots hash f
          (λ x e. cc (g.met.K.Hashed.alike self.seed x key e, c.hash-hash.ensures)) self.reach c.requires.each passed
          c.loop-passed.invariant (inr empty),
      record {
        hash_is = c.hash-hash.ensures;
        ends = record {
          within = omega (arith, c.loop-passed-test.true, c.requires.short);
          is = is;
          empty = empty;
          passes = c.loop-passed.invariant.passes;
        };
      },
    )

pub returns : goal.returns
returns g c =
    let self = c.args.self.now in (
      lacks g.K.PartialEq.eq c.args.list.now c.args.key self.slots.items c.hash-hash.result
          (g.K.Hashed.hash self.seed)
          (λ x e. cc (g.met.K.Hashed.alike self.seed x c.args.key e, c.hash-hash.ensures)) self.reach c.requires.each
          c.loop-passed.passed c.loop-passed.invariant
          (inl c.loop-passed-test.false),
      tt,
    )
