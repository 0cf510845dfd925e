use Rattle.std.proofs.Common.{◌≡◌, ◌<◌, ℕ, true}
use Rattle.ps_hoa.specs.Files.{is_among}
use Rattle.ps_product.proofs.roles.is_full.Given as goal

abbrev pub invariant-loop-p : goal.invariant-loop-p
invariant-loop-p l = (p : ℕ) → p < l.p → is_among p l.controllable ≡ l.wanted → is_among p l.list ≡ true
