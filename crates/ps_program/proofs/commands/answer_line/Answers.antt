-- Each command is answered as it promises. Without these answers, the search takes all memory where an arm is wrong.
use Rattle.ps_program.proofs.commands.answer_line.Goals as goal

pub returns-in-Closed-clause-answer : goal.returns-in-Closed-clause-answer
returns-in-Closed-clause-answer g c = rw c.in-Closed.is c.closed.ensures

pub returns-in-Check-clause-answer : goal.returns-in-Check-clause-answer
returns-in-Check-clause-answer g c = rw c.in-Check.is c.check.ensures

pub returns-in-Judge-clause-answer : goal.returns-in-Judge-clause-answer
returns-in-Judge-clause-answer g c = rw c.in-Judge.is c.judge.ensures

pub returns-in-Sim-clause-answer : goal.returns-in-Sim-clause-answer
returns-in-Sim-clause-answer g c = rw c.in-Sim.is c.sim.ensures

pub returns-in-Lasso-clause-answer : goal.returns-in-Lasso-clause-answer
returns-in-Lasso-clause-answer g c = rw c.in-Lasso.is c.lasso.ensures

pub returns-in-LassoTlsf-clause-answer : goal.returns-in-LassoTlsf-clause-answer
returns-in-LassoTlsf-clause-answer g c = rw c.in-LassoTlsf.is c.lasso_tlsf.ensures

pub returns-in-Verify-clause-answer : goal.returns-in-Verify-clause-answer
returns-in-Verify-clause-answer g c = rw c.in-Verify.is c.verify.ensures

pub returns-in-VerifyTlsf-clause-answer : goal.returns-in-VerifyTlsf-clause-answer
returns-in-VerifyTlsf-clause-answer g c = rw c.in-VerifyTlsf.is c.verify_tlsf.ensures

pub returns-in-Shrink-clause-answer : goal.returns-in-Shrink-clause-answer
returns-in-Shrink-clause-answer g c = rw c.in-Shrink.is c.shrink.ensures

pub returns-in-ShrinkTlsf-clause-answer : goal.returns-in-ShrinkTlsf-clause-answer
returns-in-ShrinkTlsf-clause-answer g c = rw c.in-ShrinkTlsf.is c.shrink_tlsf.ensures

pub returns-in-Agree-clause-answer : goal.returns-in-Agree-clause-answer
returns-in-Agree-clause-answer g c = rw c.in-Agree.is c.agree.ensures

pub returns-in-Translate-clause-answer : goal.returns-in-Translate-clause-answer
returns-in-Translate-clause-answer g c = rw c.in-Translate.is c.translate.ensures

pub returns-in-Solve-clause-answer : goal.returns-in-Solve-clause-answer
returns-in-Solve-clause-answer g c = rw c.in-Solve.is c.solve.ensures.answer

pub returns-in-Game-clause-answer : goal.returns-in-Game-clause-answer
returns-in-Game-clause-answer g c = rw c.in-Game.is c.game.ensures

pub returns-in-Cert-clause-answer : goal.returns-in-Cert-clause-answer
returns-in-Cert-clause-answer g c = rw c.in-Cert.is c.cert.ensures.answer

pub returns-in-Synth-clause-answer : goal.returns-in-Synth-clause-answer
returns-in-Synth-clause-answer g c = rw c.in-Synth.is c.synth.ensures.answer

pub returns-in-SynthTlsf-clause-answer : goal.returns-in-SynthTlsf-clause-answer
returns-in-SynthTlsf-clause-answer g c = rw c.in-SynthTlsf.is c.synth_tlsf.ensures
