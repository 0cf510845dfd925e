use Rattle.std.proofs.lemmas.Result.{IfOk-weaker}
use Rattle.ps_tableau.proofs.SetLemmas.{extends_refl, fails_sets, same_cases}
use Rattle.ps_tableau.proofs.sets.Sets.union.Goals as goal

pub returns-in_err-merged : goal.returns-in_err-merged
returns-in_err-merged c =
    fails_sets _ c.from_residual.result (extends_refl c.args.self.now) c.sets_are_sound.ensures
    c.from_residual.ensures.1

pub returns : goal.returns
returns c = record {
  extends = c.with_all.ensures.extends;
  sets = c.with_all.ensures.sets;
  set = IfOk-weaker c.with_all.result _ _ (λ set made. record {
    held = made.held;
    each = λ k. same_cases (rw c.deref.ensures.value at made.each k) (c.in_ok-merged.ensures.each k);
  }) c.with_all.ensures.set;
}
