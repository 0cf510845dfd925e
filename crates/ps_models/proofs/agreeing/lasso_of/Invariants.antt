use Rattle.std.proofs.Common.{◌≡◌, ◌<◌, ℕ, get_or}
use Rattle.ps_automaton.specs.Chains.{is_even}
use Rattle.ps_models.specs.Inner.Comparing.{HasNoCycle}
use Rattle.ps_models.proofs.agreeing.lasso_of.Given as goal

abbrev pub invariant-loop-priority : goal.invariant-loop-priority
invariant-loop-priority l = (k : ℕ) → k < l.priority-index → is_even (get_or l.priority-items k 0) ≡ l.even →
    HasNoCycle l.graph (get_or l.priority-items k 0)
