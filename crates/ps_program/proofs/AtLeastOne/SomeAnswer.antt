-- Each input has an answer if its command calls no solver and is neither `verify` nor `shrink`. An input with `solve`,
-- `cert` or `synth` has an answer under the conditions that `specs/Laws/Answered.antt` states.
use Rattle.std.proofs.Common.{ℕ, List, Ok, refl}
use Rattle.std.specs.Prelude.{codes}
use Rattle.ps_certificate.specs.Certificates.{IsClosed, IsValid}
use Rattle.ps_machine.specs.declared.key.Order.{Order}
use Rattle.ps_pgsolver.specs.Written.{game_text}
use Rattle.ps_program.specs.declared.commands.Line.{Line}
use Rattle.ps_program.specs.declared.commands.Line.TheVariants as line
use Rattle.ps_program.specs.Laws.Answered.{HasReply, HasSomeAnswer, HasSomeSolved, HasSomeSynthesis, IsPlainLine}
use Rattle.ps_program.specs.Laws.Answered.{IsSolved}
use Rattle.ps_program.specs.Laws.Answered.{MayCertify}
use Rattle.ps_program.specs.Commands.Checks.{AnswersCheck, AnswersClosed}
use Rattle.ps_program.specs.CommandLine.{IsLine}
use Rattle.ps_program.specs.Cut.{behind_line, first_line}
use Rattle.ps_program.specs.Commands.Games.{AnswersGameText, ReadsGameOf}
use Rattle.ps_program.specs.Outcomes.{printed}
use Rattle.ps_program.specs.Program.{AnswersLine}
use Rattle.ps_program.specs.Replies.{help, text_reply, usage}
use Rattle.ps_program.specs.Finders.{Finders}
use Rattle.ps_program.specs.Texts.{ReadsCertified}
use Rattle.ps_program.proofs.AtLeastOne.SomeLaws.{Below}
use Rattle.ps_program.proofs.AtLeastOne.SomeReport.{cert_some, solve_some, synth_some}
use Rattle.ps_program.proofs.AtLeastOne.SomeRun.{lasso_some, sim_some}
use Rattle.ps_program.proofs.AtLeastOne.SomeSatisfaction.{lasso_tlsf_some}
use Rattle.ps_program.proofs.AtLeastOne.SomeStage.{certified_is, certified_some, game_of_some, judge_some}
use Rattle.ps_program.proofs.AtLeastOne.SomeStage.{tests_some}
use Rattle.ps_program.proofs.AtLeastOne.SomeStep.{HasSome, ended_some, then_some}

-- an input has a reply if the command in its first line has a result
replied : (finders : Finders) (input : List ℕ) (asked : Line) → IsLine (first_line input) asked →
    HasSome (AnswersLine finders asked (behind_line input)) → HasReply finders input
replied finders input asked is_line (outcome, answers) = (printed outcome, (asked, is_line, (outcome, answers, refl)))

module _ (below : Below) where
  closed_some : (texts : List ℕ) → HasSome (AnswersClosed texts)
  closed_some texts = then_some (ReadsCertified texts) _ (certified_some below texts)
      (λ both reads. let is = certified_is below texts both reads in
      tests_some IsClosed (codes "closed") both.0 both.1 is.0 (below.closed_or both.0.game both.1))

  check_some : (texts : List ℕ) → HasSome (AnswersCheck texts)
  check_some texts = then_some (ReadsCertified texts) _ (certified_some below texts)
      (λ both reads. let is = certified_is below texts both reads in
      tests_some IsValid (codes "valid") both.0 both.1 is.0 (below.valid_or both.0.game both.1 is.1))

  game_some : (order : Order) (text : List ℕ) → HasSome (AnswersGameText order text)
  game_some order text = then_some (ReadsGameOf order text) _ (game_of_some below order text)
      (λ named reads. ended_some (Ok (text_reply (game_text named))))

  line_some : (finders : Finders) (asked : Line) (texts : List ℕ) → IsPlainLine asked →
      HasSome (AnswersLine finders asked texts)
  line_some finders line.Refused texts plain = ended_some (Ok usage)
  line_some finders line.Help texts plain = ended_some (Ok help)
  line_some finders line.Closed texts plain = closed_some texts
  line_some finders line.Check texts plain = check_some texts
  line_some finders (line.Judge compact) texts plain = judge_some below compact texts
  line_some finders line.Sim texts plain = sim_some below texts
  line_some finders (line.Lasso role) texts plain = lasso_some below role texts
  line_some finders (line.LassoTlsf role) texts plain = lasso_tlsf_some below role texts
  line_some finders (line.Verify order role) texts plain = absurd plain
  line_some finders (line.VerifyTlsf role) texts plain = absurd plain
  line_some finders (line.Shrink order role) texts plain = absurd plain
  line_some finders (line.ShrinkTlsf role) texts plain = absurd plain
  line_some finders line.Agree texts plain = absurd plain
  line_some finders line.Translate texts plain = absurd plain
  line_some finders (line.Solve compact) texts plain = absurd plain
  line_some finders (line.Game order) texts plain = game_some order texts
  line_some finders (line.Cert order compact) texts plain = absurd plain
  line_some finders (line.Synth asked) texts plain = absurd plain
  line_some finders line.SynthTlsf texts plain = absurd plain

  pub plain_some : (finders : Finders) → HasSomeAnswer finders
  plain_some finders input asked is_line plain =
      replied finders input asked is_line (line_some finders asked (behind_line input) plain)

  -- ---- commands that call a solver

  solved_line : (finders : Finders) → MayCertify finders.solvers.built_in → (asked : Line) (texts : List ℕ) →
      IsSolved asked → HasSome (AnswersLine finders asked texts)
  solved_line finders may line.Refused texts solved = absurd solved
  solved_line finders may line.Help texts solved = absurd solved
  solved_line finders may line.Closed texts solved = absurd solved
  solved_line finders may line.Check texts solved = absurd solved
  solved_line finders may (line.Judge compact) texts solved = absurd solved
  solved_line finders may line.Sim texts solved = absurd solved
  solved_line finders may (line.Lasso role) texts solved = absurd solved
  solved_line finders may (line.LassoTlsf role) texts solved = absurd solved
  solved_line finders may (line.Verify order role) texts solved = absurd solved
  solved_line finders may (line.VerifyTlsf role) texts solved = absurd solved
  solved_line finders may (line.Shrink order role) texts solved = absurd solved
  solved_line finders may (line.ShrinkTlsf role) texts solved = absurd solved
  solved_line finders may line.Agree texts solved = absurd solved
  solved_line finders may line.Translate texts solved = absurd solved
  solved_line finders may (line.Solve compact) texts solved =
      solve_some below finders.solvers.built_in compact texts may
  solved_line finders may (line.Game order) texts solved = absurd solved
  solved_line finders may (line.Cert order compact) texts solved =
      cert_some below finders.solvers.built_in order compact texts may
  solved_line finders may (line.Synth asked) texts solved = absurd solved
  solved_line finders may line.SynthTlsf texts solved = absurd solved

  pub solved_some : (finders : Finders) → HasSomeSolved finders
  solved_some finders may input asked is_line solved =
      replied finders input asked is_line (solved_line finders may asked (behind_line input) solved)

  pub synthesis_some : (finders : Finders) → HasSomeSynthesis finders
  synthesis_some finders input asked is_line may = replied finders input (line.Synth asked) is_line
      (synth_some below finders.solvers asked (behind_line input) asked.cert may)
