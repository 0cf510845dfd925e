use Rattle.std.proofs.Common.{sym, ◌∙◌}
use Rattle.ps_tlsf.proofs.laws.one_answer.Goals as goal

pub returns : goal.returns
returns c = λ text a b p q. p ∙ sym q
