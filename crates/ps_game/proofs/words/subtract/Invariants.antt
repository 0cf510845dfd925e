use Rattle.std.proofs.Common.{◌*◌, get_or}
use Rattle.std.specs.Prelude.{bit_and}
use Rattle.std.specs.Int.{bit_not, w64}
use Rattle.ps_game.proofs.StoredGames.Groups.{AreCombined}
use Rattle.ps_game.proofs.words.subtract.Given as goal

abbrev pub invariant-loop-group : goal.invariant-loop-group
invariant-loop-group l =
    AreCombined bit_and (λ k. bit_not w64 (get_or l.others k 0)) l.initial.words l.words (l.group * 8)

abbrev pub invariant-loop-place : goal.invariant-loop-place
invariant-loop-place l = AreCombined bit_and (λ k. bit_not w64 (get_or l.others k 0)) l.fn.words l.words l.place
