-- Two steps that pass the equality test of the set of steps are equal, and each passes it with itself.
use Rattle.std.proofs.Common.{◌≡◌, true, rules}
use Rattle.std.proofs.lemmas.Bool.{eq-eqb, eqb-true}
use Rattle.ps_automaton.specs.declared.step.Step.{Step}
use Rattle.ps_automaton.specs.contracts.step.StepPartialEq.TheImpl as step_eq
use Rattle.ps_diagram.proofs.NodeTables.Keys.{and_both}

pub same_by_test : (a b : Step) → (step_eq.eq-value).it a b ≡ true → a ≡ b
same_by_test a b e = search (rules, and_both, eqb-true)

pub passes_itself : (a : Step) → (step_eq.eq-value).it a a ≡ true
passes_itself a = search (rules, eq-eqb)
