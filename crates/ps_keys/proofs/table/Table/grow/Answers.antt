use Rattle.std.proofs.Common.{◌≡◌, ◌*◌, ◌^◌, ◌≤◌, arith, length, max, refl, replicate, rules}
use Rattle.std.proofs.lemmas.Grind.{common_steps}
use Rattle.ps_keys.specs.Inner.Slots.{IsPower}
use Rattle.ps_keys.proofs.TableLemmas.{doubled, fresh}
use Rattle.ps_keys.proofs.table.Table.grow.Goals as goal

pub loop-place-init : goal.loop-place-init
loop-place-init g c =
    let old = c.args.self.now.slots in
    let size = c.max-size.result in
    let new = c.resize.new.self in
    let is : size ≡ max (length old.items * 2) 32 =
    omega (arith, c.max-size.ensures, c.saturating_mul.ensures, c.len.ensures, old.ok, c.requires.few) in
    let few : size ≤ 2 ^ 32 = omega (arith, c.if-size-gt-MOST.false) in
    let power : IsPower size = rw is (doubled (length old.items) c.requires.power (rw is at few)) in
    let slots : new.items ≡ replicate size 0 = grind (arith, common_steps) in
    record {
      keys = fresh g.K.Hashed.hash c.args.list.now _ size slots refl power;
      size = search rules;
    }

pub returns-clause-keys : goal.returns-clause-keys
returns-clause-keys g c =
    let all : c.loop-place.place ≡ length c.args.list.now = search rules in rw all at c.loop-place.invariant.keys
