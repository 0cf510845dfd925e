use Rattle.std.proofs.Common.{arith, length-drop, rules}
use Rattle.std.proofs.lemmas.List.{take_all}
use Rattle.ps_hoa.proofs.Lexing.Scanning.{lex_step}
use Rattle.ps_hoa.proofs.Lexing.StepMeanings.{skip_within, found_within}
use Rattle.ps_hoa.proofs.Lexing.Relation.{no_blanks, more_blanks}
use Rattle.ps_hoa.proofs.tokens.first_lexeme.Goals as goal

pub blanks-preserved : goal.blanks-preserved
blanks-preserved c =
    grind (arith, take_all, length-drop, more_blanks, lex_step, skip_within _ c.in-Skip.ensures)

pub blanks-init : goal.blanks-init
blanks-init c = search (rules, no_blanks)

pub overflow_add-at : goal.overflow_add-at
overflow_add-at c = grind (arith, length-drop, take_all, skip_within _ c.in-Skip.ensures)

pub overflow_add-result : goal.overflow_add-result
overflow_add-result c = grind (arith, length-drop, take_all, found_within _ c.in-Found.ensures)

pub blanks-smaller : goal.blanks-smaller
blanks-smaller c = grind (arith, length-drop, take_all, skip_within _ c.in-Skip.ensures)

pub returns-in-Found : goal.returns-in-Found
returns-in-Found c =
    grind (arith, length-drop, take_all, c.blanks.invariant, found_within _ c.in-Found.ensures)
