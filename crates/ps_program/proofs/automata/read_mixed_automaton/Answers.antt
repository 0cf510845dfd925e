use Rattle.ps_program.specs.Automata.{IsOfFileOrMixed}
use Rattle.ps_program.proofs.ByCommand.AutomatonLemmas.{gives_mixed_automaton, gives_text_fault}
use Rattle.ps_program.proofs.automata.read_mixed_automaton.Goals as goal

pub returns-in_err-read_mixed_automaton : goal.returns-in_err-read_mixed_automaton
returns-in_err-read_mixed_automaton c =
    gives_text_fault IsOfFileOrMixed c.args.text.now c.in_err-read_mixed_automaton.field-0.0 c.from_residual.result
    c.in_err-read_mixed_automaton.ensures.refused c.from_residual.ensures.1

pub returns : goal.returns
returns c = gives_mixed_automaton c.args.text.now c.in_ok-read_mixed_automaton.field-0
    c.in_ok-read_mixed_automaton.ensures.automaton
