-- The numbers and the names of the faults for which an automaton and a formula are not compared.
use Rattle.std.specs.Prelude.{ℕ, List}
use Rattle.ps_simulate.specs.LassoFaultNames as lasso
use Rattle.ps_simulate.specs.declared.lassos.LassoFault.TheVariants as lasso_fault
use Rattle.ps_models.specs.declared.agreement.AgreementFault.{AgreementFault}
use Rattle.ps_models.specs.declared.agreement.AgreementFault.TheVariants.{OutOfMemory, Symbols}

abbrev pub fault_number : AgreementFault → ℕ
fault_number Symbols = lasso.fault_number lasso_fault.Symbols
fault_number OutOfMemory = lasso.fault_number lasso_fault.OutOfMemory

abbrev pub fault_name : AgreementFault → List ℕ
fault_name Symbols = lasso.fault_name lasso_fault.Symbols
fault_name OutOfMemory = lasso.fault_name lasso_fault.OutOfMemory
