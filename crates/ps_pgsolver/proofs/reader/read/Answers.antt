use Rattle.std.proofs.Common.{arith, Err, sym, ◌∙◌}
use Rattle.ps_pgsolver.proofs.ReadGames.NodeLemmas.{all_known, all_tested}
use Rattle.ps_pgsolver.proofs.ReadGames.GameAnswers.{first_exit, unknown_answer, answer, within_text}
use Rattle.ps_pgsolver.proofs.reader.read.Goals as goal

pub returns-in_err-nodes-clause-answer : goal.returns-in_err-nodes-clause-answer
returns-in_err-nodes-clause-answer c =
    first_exit c.args.text.now c.if-text-gt-TEXT_LIMIT.false _ _ c.in_err-nodes.ensures.answer c.from_residual.ensures.1

pub returns-in_err-nodes-clause-within : goal.returns-in_err-nodes-clause-within
returns-in_err-nodes-clause-within c = within_text c.args.text.now _ (returns-in_err-nodes-clause-answer c)

pub unknown_successor-requires-clause-some : goal.unknown_successor-requires-clause-some
unknown_successor-requires-clause-some c = grind (arith, all_tested)

pub returns-then-not-know_successors-clause-answer : goal.returns-then-not-know_successors-clause-answer
returns-then-not-know_successors-clause-answer c = grind (arith, unknown_answer)

pub returns-then-not-know_successors-clause-within : goal.returns-then-not-know_successors-clause-within
returns-then-not-know_successors-clause-within c =
    within_text c.args.text.now (Err c.unknown_successor.result) (returns-then-not-know_successors-clause-answer c)

pub named_game-requires : goal.named_game-requires
named_game-requires c = all_known _ _ (sym c.know_successors.ensures ∙ c.if-not-know_successors.false)

pub returns-clause-answer : goal.returns-clause-answer
returns-clause-answer c = grind (arith, answer, all_known)

pub returns-clause-within : goal.returns-clause-within
returns-clause-within c = within_text c.args.text.now _ (returns-clause-answer c)
