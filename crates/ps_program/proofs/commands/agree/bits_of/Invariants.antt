use Rattle.std.proofs.Common.{◌≡◌, map}
use Rattle.std.specs.List.{range_with_len}
use Rattle.ps_label.specs.Truth.{is_in}
use Rattle.ps_program.proofs.commands.agree.bits_of.Given as goal

abbrev pub invariant-loop-place : goal.invariant-loop-place
invariant-loop-place l = l.bits.items ≡ map (λ p. is_in p l.letter) (range_with_len 0 l.place)
