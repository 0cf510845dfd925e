use Rattle.std.proofs.Common.{◌≡◌, ◌<◌, ℕ, get_or}
use Rattle.ps_diagram.specs.declared.cases.Case.{Case}
use Rattle.ps_diagram.proofs.store.Store.of_untested.Given as goal

abbrev pub invariant-loop-case : goal.invariant-loop-case
invariant-loop-case l = record {
  leaf : (k : ℕ) (d : Case) → k < l.case-index → (get_or l.cases k d).leaf ≡ l.first.leaf;
  kind : (k : ℕ) (d : Case) → k < l.case-index → (get_or l.cases k d).kind ≡ l.first.kind;
}
