-- The equality test by which the table of vertex keys compares keys decides whether keys are equal.
use Rattle.std.proofs.Common.{◌≡◌, true, rules}
use Rattle.std.proofs.lemmas.Bool.{eqb-true}
use Rattle.ps_machine.specs.declared.key.Key.{Key}
use Rattle.ps_machine.specs.contracts.key.KeyPartialEq.TheImpl as key_eq
use Rattle.ps_diagram.proofs.NodeTables.Keys.{and_both}

-- two vertex keys for which the test is true are equal
pub same_key : (a b : Key) → (key_eq.eq-value).it a b ≡ true → a ≡ b
same_key a b h = search (rules, and_both, eqb-true)

pub key_same : (a : Key) → (key_eq.eq-value).it a a ≡ true
key_same a = search rules
