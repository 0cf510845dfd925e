use Rattle.std.proofs.Common.{◌≡◌, ℕ, map, take}
use Rattle.ps_brief.proofs.bases.letters_of.Given as goal

abbrev pub invariant-loop-letter : goal.invariant-loop-letter
invariant-loop-letter l = l.letters.items ≡ map (λ (p : ℕ × ℕ). p.1) (take l.letter-index l.letter-items)
