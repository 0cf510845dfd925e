use Rattle.std.proofs.Common.{◌∙◌, sym, length, arith}
use Rattle.ps_hoa.proofs.Lexing.Relation.{only_lex, some_tokens}
use Rattle.ps_hoa.proofs.tokens.one_list_of_tokens.Goals as goal

pub returns-clause-some : goal.returns-clause-some
returns-clause-some c = λ at bytes. some_tokens (length bytes) at bytes (omega arith)

pub returns-clause-only : goal.returns-clause-only
returns-clause-only c = λ at bytes one two a b. only_lex at bytes one a ∙ sym (only_lex at bytes two b)
