use Rattle.std.proofs.Common.{◌≡◌, ◌<◌, ℕ, [], map, get_or}
use Rattle.ps_hoa.specs.Files.{is_among}
use Rattle.ps_hoa.specs.Memory.{bytes_of}
use Rattle.ps_simulate.proofs.symbols.proposition_of.Given as goal

abbrev pub invariant-loop-p : goal.invariant-loop-p
invariant-loop-p l =
    (p : ℕ) → p < l.p → is_among p l.controllable ≡ l.wanted → ¬ (get_or (map bytes_of l.names) p [] ≡ l.symbol)
