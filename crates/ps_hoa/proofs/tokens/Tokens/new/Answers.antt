use Rattle.std.proofs.Common.{arith}
use Rattle.ps_hoa.proofs.Lexing.Streams.{pieces_new, end_is}
use Rattle.ps_hoa.proofs.Lexing.Relation.{only_lex}
use Rattle.ps_hoa.proofs.tokens.Tokens.new.Goals as goal

pub returns-clause-pieces : goal.returns-clause-pieces
returns-clause-pieces c = grind (arith, pieces_new, only_lex)

pub returns-clause-end : goal.returns-clause-end
returns-clause-end c = end_is _
