use Rattle.std.proofs.Common.{◌≡◌, ◌<◌, ℕ, Bool, List, length, get_or}
use Rattle.ps_simulate.specs.Stimuli.{letters_of}
use Rattle.ps_simulate.proofs.lassos.are_wide.Given as goal

abbrev pub invariant-loop-letter : goal.invariant-loop-letter
invariant-loop-letter l =
    (k : ℕ) (d : List Bool) → k < l.letter-index → length (get_or (letters_of l.letters) k d) ≡ l.width
