use Rattle.std.proofs.Common.{◌≡◌, ◌<◌, ℕ, None, get_or}
use Rattle.ps_hoa.specs.Files.{is_among}
use Rattle.ps_simulate.proofs.naming.is_full.Given as goal

abbrev pub invariant-loop-p : goal.invariant-loop-p
invariant-loop-p l = (p : ℕ) → p < l.p → is_among p l.controllable ≡ l.wanted → ¬ (get_or l.places p None ≡ None)
