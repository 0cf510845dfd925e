use Rattle.std.proofs.Common.{◌≡◌, List, arith, get_or, inl, inr, subst, sym, ◌∙◌, ℕ}
use Rattle.std.specs.Prelude.{Contains}
use Rattle.std.proofs.lemmas.Bool.{cases_lt}
use Rattle.ps_automaton.specs.Chains.{is_even}
use Rattle.ps_models.specs.Inner.Comparing.{HasNoCycle}
use Rattle.ps_models.proofs.ComparedAutomata.JointReadings.{no_cycle_else, none_if, told_if}
use Rattle.ps_models.proofs.agreeing.lasso_of.Goals as goal

pub returns-then-is_some : goal.returns-then-is_some
returns-then-is_some c =
    told_if c.args.graph.now c.args.even _ c.in_ok-found.found (sym c.is_some.ensures ∙ c.if-is_some.true)
    c.in_ok-found.ensures

pub loop-priority-preserved : goal.loop-priority-preserved
loop-priority-preserved c = λ k lt is. elim (cases_lt k c.loop-priority.priority-index) [
  | inl below ↦ c.loop-priority.invariant k below is
  | inr above ↦
      let items = c.as_slice-priority-items.result.now in
      let same : k ≡ c.loop-priority.priority-index = omega (arith, lt, above) in
      let priority = get_or items c.loop-priority.priority-index 0 in
      subst (λ (n : ℕ). HasNoCycle c.args.graph.now (get_or items n 0)) (sym same)
      (none_if c.args.graph.now c.args.even priority c.in_ok-found.found (sym c.is_some.ensures ∙ c.if-is_some.false)
      c.in_ok-found.ensures (subst (λ (n : ℕ). is_even (get_or items n 0) ≡ c.args.even) same is))
]

pub returns : goal.returns
returns c =
    let items = c.as_slice-priority-items.result.now in
    let same = c.as_slice-priority-items.ensures in
    no_cycle_else c.args.graph.now c.args.even items
    (λ v k e at. subst (λ (l : List ℕ). Contains l e.priority) (sym same) (c.in_ok-priorities.ensures v k e at))
    (λ k lt is. c.loop-priority.invariant k (omega (arith, lt, c.loop-priority-test.false)) is)
