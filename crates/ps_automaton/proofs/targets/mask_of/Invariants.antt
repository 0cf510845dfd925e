use Rattle.std.proofs.Common.{◌≡◌, ◌<◌, ℕ, drop}
use Rattle.std.specs.Prelude.{◌||◌}
use Rattle.ps_label.specs.Truth.{is_in}
use Rattle.ps_hoa.specs.Files.{is_among}
use Rattle.ps_automaton.proofs.targets.mask_of.Given as goal

-- the sets whose bits are set so far and the sets not yet visited are together all sets of the list
abbrev pub invariant-loop-set : goal.invariant-loop-set
invariant-loop-set l =
    (set : ℕ) → set < 64 → (is_in set l.mask || is_among set (drop l.set-index l.sets)) ≡ is_among set l.sets
