use Rattle.ps_shrink.proofs.AutomatonJudges.{judged_by}
use Rattle.ps_shrink.proofs.by_automaton.ByAutomatonJudge.judge.Goals as goal

pub returns-clause-judged : goal.returns-clause-judged
returns-clause-judged c = judged_by c.args.self.now.order c.args.self.now.role c.args.self.now.automaton.now
    c.args.circuit.now c.verified.result c.verified.ensures.judged
