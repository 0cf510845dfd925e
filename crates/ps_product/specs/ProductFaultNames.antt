-- The numbers and the names of the faults for which a circuit and an automaton have no product.
use Rattle.std.specs.Prelude.{ℕ, List, codes}
use Rattle.ps_simulate.specs.LassoFaultNames as lasso
use Rattle.ps_simulate.specs.declared.lassos.LassoFault.TheVariants as lasso_fault
use Rattle.ps_product.specs.declared.fault.ProductFault.{ProductFault}
use Rattle.ps_product.specs.declared.fault.ProductFault.TheVariants.{Symbols, Timing, OutOfMemory}

abbrev pub fault_number : ProductFault → ℕ
fault_number Symbols = lasso.fault_number lasso_fault.Symbols
fault_number Timing = 74
fault_number OutOfMemory = lasso.fault_number lasso_fault.OutOfMemory

abbrev pub fault_name : ProductFault → List ℕ
fault_name Symbols = lasso.fault_name lasso_fault.Symbols
fault_name Timing = codes "Timing"
fault_name OutOfMemory = lasso.fault_name lasso_fault.OutOfMemory
