use Rattle.std.proofs.Common.{◌≡◌, ◌&&◌, ◌==◌, arith}
use Rattle.std.specs.Bool.{Decides}
use Rattle.std.proofs.lemmas.Bool.Decides.{Decides-and, Decides-eqb, Decides-like}
use Rattle.std.proofs.lemmas.Grind.{common_steps}
use Rattle.std.proofs.lemmas.Slice.Eq.{slice_eq-Decides}
use Rattle.ps_game.specs.declared.nonzero.NonzeroCount.{NonzeroCount}
use Rattle.ps_certificate.proofs.entries.stand_at.Goals as goal

same : (a b : NonzeroCount) → Decides ((a.place == b.place) && (a.count == b.count)) (a ≡ b)
same a b = grind (arith, Decides-like, Decides-and, Decides-eqb)

pub returns : goal.returns
returns c = grind (arith, slice_eq-Decides, same, common_steps)
