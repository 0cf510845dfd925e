use Rattle.std.proofs.Common.{arith, length-drop}
use Rattle.std.proofs.lemmas.List.{take_all, drop_all}
use Rattle.ps_tlsf.proofs.OutlinedTexts.Scanning.{lex_step, lex_found, lex_nothing}
use Rattle.ps_tlsf.proofs.tokens.first_lexeme.Goals as goal

pub blanks-preserved : goal.blanks-preserved
blanks-preserved c = grind (arith, take_all, length-drop, lex_step)

pub returns-in-Found : goal.returns-in-Found
returns-in-Found c = grind (arith, take_all, length-drop, lex_found)

pub returns : goal.returns
returns c = grind (arith, drop_all, lex_nothing)
