use Rattle.ps_tlsf.proofs.ReadFormulas.DerivedRuns.{formulas_derived}
use Rattle.ps_tlsf.proofs.laws.formulas_are_derived.Goals as goal

pub returns : goal.returns
returns c = formulas_derived
