use Rattle.ps_tlsf.proofs.ReadFormulas.Completeness.{one_formula}
use Rattle.ps_tlsf.proofs.laws.one_formula.Goals as goal

pub returns : goal.returns
returns c = λ names ts f g d e. one_formula d e
