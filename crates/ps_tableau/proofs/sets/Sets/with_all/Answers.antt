use Rattle.std.proofs.Common.{◌≡◌, ◌+◌, ◌-◌, ◌<◌, arith, length}
use Rattle.ps_tableau.proofs.SetLemmas.{extends_refl, extends_trans, fails_sets, none_more, one_more}
use Rattle.ps_tableau.proofs.sets.Sets.with_all.Goals as goal

pub loop-place-init : goal.loop-place-init
loop-place-init c = record {
  extends = extends_refl c.args.self.now;
  sets = c.sets_are_sound.ensures;
  held = c.requires;
  each = λ k. none_more c.args.more.now k;
}

pub loop-place-preserved : goal.loop-place-preserved
loop-place-preserved c =
    let more = c.args.more.now in
    let place = c.loop-place.place - 1 in
    let next : place + 1 ≡ c.loop-place.place = omega arith in
    let within : place < length more = omega arith in
    let made = c.in_ok-set.ensures.set in
    record {
      extends = extends_trans c.loop-place.invariant.extends c.with.ensures.extends;
      sets = c.with.ensures.sets;
      held = made.held;
      each = λ k. one_more 0 more _ _ place k within made.right (rw next (c.loop-place.invariant.each k));
    }

pub returns-in_err-set : goal.returns-in_err-set
returns-in_err-set c =
    fails_sets _ c.from_residual.result (extends_trans c.loop-place.invariant.extends c.with.ensures.extends)
    c.with.ensures.sets c.from_residual.ensures.1

pub returns : goal.returns
returns c =
    let v = c.loop-place.invariant in
    let done : c.loop-place.place ≡ 0 = omega arith in
    record { extends = v.extends; sets = v.sets; set = record { held = v.held; each = rw done at v.each } }
