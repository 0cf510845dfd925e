use Rattle.std.proofs.Common.{arith}
use Rattle.ps_program.proofs.ByCommand.AutomatonLemmas.{gives_automaton, gives_text_fault}
use Rattle.ps_program.proofs.automata.read_automaton.Goals as goal

pub returns-in_err-read_automaton : goal.returns-in_err-read_automaton
returns-in_err-read_automaton c = grind (arith, gives_text_fault)

pub returns : goal.returns
returns c = gives_automaton c.args.text.now c.in_ok-read_automaton.field-0 c.in_ok-read_automaton.ensures.automaton
