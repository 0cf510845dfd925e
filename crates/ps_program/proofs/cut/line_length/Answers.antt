use Rattle.std.proofs.Common.{◌≡◌, ◌<◌, ◌==◌, ℕ, length, false, sym, arith, get_or}
use Rattle.std.proofs.lemmas.List.Sums.{position_or_len_is}
use Rattle.ps_program.proofs.cut.line_length.Goals as goal

pub returns-then-byte-eq10-clause-length : goal.returns-then-byte-eq10-clause-length
returns-then-byte-eq10-clause-length c = grind (arith, position_or_len_is)

pub returns-clause-length : goal.returns-clause-length
returns-clause-length c =
    let end : c.loop-place.place ≡ length c.args.input.now = omega arith in
    let none : (k : ℕ) → k < length c.args.input.now → (get_or c.args.input.now k 0 == 10) ≡ false = grind arith in
    sym (position_or_len_is _ c.args.input.now (length c.args.input.now) 0 (omega arith) none (λ h. grind arith))
