use Rattle.std.proofs.Common.{◌≡◌, [], get_or, map}
use Rattle.std.specs.List.{range_with_len}
use Rattle.ps_hoa.specs.Memory.{bytes_of}
use Rattle.ps_mixing.specs.Orders.{place_in}
use Rattle.ps_mixing.proofs.file.names_mixed.Given as goal

abbrev pub invariant-loop-p : goal.invariant-loop-p
invariant-loop-p l =
    map bytes_of l.made.items ≡ map (λ p. get_or (map bytes_of l.names) (place_in l.from p) []) (range_with_len 0 l.p)
