-- Two rows of a machine that pass the equality test of the table of rows are equal.
use Rattle.std.proofs.Common.{◌≡◌, true, rules}
use Rattle.std.proofs.lemmas.Bool.{eqb-true}
use Rattle.ps_diagram.proofs.NodeTables.Keys.{and_both}
use Rattle.ps_machine.specs.declared.machine.Row.{Row}
use Rattle.ps_machine.specs.contracts.machine.RowPartialEq.TheImpl as row_eq

pub same_row : {a b : Row} → (row_eq.eq-value).it a b ≡ true → a ≡ b
same_row {a} {b} e = search (rules, and_both, eqb-true)
