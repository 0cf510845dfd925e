use Rattle.std.proofs.Common.{sym}
use Rattle.ps_formula.proofs.Suffixes.{same_satisfied}
use Rattle.ps_formula.proofs.laws.rest_decides.Goals as goal

pub returns : goal.returns
returns c f v w i j same = (
  same_satisfied f v w i j (record { each = same }),
  same_satisfied f w v j i (record { each = λ k. sym (same k) }),
)
