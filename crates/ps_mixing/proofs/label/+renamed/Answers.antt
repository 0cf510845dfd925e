use Rattle.std.proofs.Common.{arith}
use Rattle.ps_label.proofs.OperandLists.{expression-Both, expression-Either}
use Rattle.ps_mixing.proofs.Renamings.{renamed_operands}
use Rattle.ps_mixing.proofs.label.+renamed.Goals as goal

pub renamed-returns-in-Literals : goal.renamed-returns-in-Literals
renamed-returns-in-Literals t c = grind (arith, renamed_operands)

pub renamed-returns-in_ok-each_renamed-in-Both : goal.renamed-returns-in_ok-each_renamed-in-Both
renamed-returns-in_ok-each_renamed-in-Both t c = grind (arith, expression-Both, renamed_operands)

pub renamed-returns-in_ok-each_renamed-in-Either : goal.renamed-returns-in_ok-each_renamed-in-Either
renamed-returns-in_ok-each_renamed-in-Either t c = grind (arith, expression-Either, renamed_operands)
