use Rattle.ps_tlsf.proofs.ReadFormulas.DerivedReads.{derived_is_read}
use Rattle.ps_tlsf.proofs.laws.derived_formulas_are_read.Goals as goal

pub returns : goal.returns
returns c = derived_is_read
