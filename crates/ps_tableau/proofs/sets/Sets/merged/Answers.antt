use Rattle.std.proofs.Common.{inl, inr, sym, ◌∙◌}
use Rattle.ps_tableau.proofs.SetLemmas.{is_empty, merge_step, merged_rest, not_empty, pushed_cases}
use Rattle.ps_tableau.proofs.sets.Sets.merged.Goals as goal
use Rattle.ps_tableau.proofs.sets.Sets.merged.Goals.{then-eq, else-eq}

pub loop-greatest-preserved : goal.loop-greatest-preserved
loop-greatest-preserved c =
    let greatest = c.in-Some.ensures in
    record {
      first = greatest.first;
      second = greatest.second;
      each = λ k. rw c.in_ok-push.ensures.items (merge_step (c.loop-greatest.invariant.each k) (greatest.each k)
          (pushed_cases c.loop-greatest.taken.items c.in-Some.greatest.index k));
    }

pub returns : goal.returns
returns c = record {
  held = elim c.if-eq.branch [
    | then-eq w ↦ rw w.rest-is c.loop-greatest.invariant.second
    | else-eq w ↦ rw w.rest-is c.loop-greatest.invariant.first
  ];
  each = λ k. merged_rest c.args.self.now c.loop-greatest.first c.loop-greatest.second c.if-eq.rest c.in_default.ensures
      (elim c.if-eq.branch [
        | then-eq w ↦ inl (is_empty c.loop-greatest.first (sym c.eq.ensures ∙ w.if-eq.true), w.rest-is)
        | else-eq w ↦ inr (not_empty c.loop-greatest.first (sym c.eq.ensures ∙ w.if-eq.false), w.rest-is)
      ]) k (c.loop-greatest.invariant.each k);
}
