use Rattle.std.proofs.Common.{ℕ, List}
use Rattle.ps_solver.specs.Solvers.{once_fed}
use Rattle.ps_program.specs.Replies.{reply_of}
use Rattle.ps_program.specs.Commands.Synthesis.{AnswersReport}
use Rattle.ps_program.specs.Texts.{CutsInTwo}
use Rattle.ps_program.proofs.ByCommand.OutcomeLemmas.{gives_after}
use Rattle.ps_program.proofs.ByCommand.SynthLemmas.{gives_kept}
use Rattle.ps_program.proofs.commands.synth.report_by_certificate.Goals as goal

pub returns-clause-answer : goal.returns-clause-answer
returns-clause-answer g c =
    let solver = g.S.Solver.known c.args.solver.now in
    let asked = c.args.asked in
    let text = c.in_ok-text.text.now in
    let certificate = c.in_ok-text.certificate.now in
    gives_after (CutsInTwo c.args.texts.now) reply_of (λ (parts : List ℕ × List ℕ).
    AnswersReport (once_fed parts.1 solver) asked parts.0) (text, certificate) c.report.result
    c.in_ok-text.ensures
    (gives_kept (once_fed certificate solver) (g.S.Solver.known c.feed.new.self) c.in_ok-feed.ensures.ok asked text
    c.report.result c.report.ensures.answer)
