use Rattle.ps_synthesis.proofs.MixedAutomata.{admitted_back, refused_back}
use Rattle.ps_synthesis.proofs.mixed_automata.mixed_automaton.Goals as goal

pub returns-clause-admitted : goal.returns-clause-admitted
returns-clause-admitted c = admitted_back c.args.file.now c.in_ok-mixed.mixed c.in_ok-mixed.ensures.mixed
    c.build-automaton.result c.build-automaton.ensures.admitted

pub returns-clause-refused : goal.returns-clause-refused
returns-clause-refused c = refused_back c.args.file.now c.in_ok-mixed.mixed c.in_ok-mixed.ensures.mixed
    c.build-automaton.result c.build-automaton.ensures.refused
