-- The next token, as the tokenizer sees it and as the grammar sees it.
-- - `next_there`: unless no token is left, the tokenizer's next token is the next symbol that the grammar sees
-- - `next_same`: the next symbol that the grammar sees is the tokenizer's next token
-- - `start_there`: an error at the next token is reported at the offset of this token
use Rattle.std.proofs.Common.{arith, ◌≡◌, Some}
use Rattle.ps_text.specs.Answers.{Stream, next_of as next_sign, offset_of}
use Rattle.ps_text.proofs.Combinators.Simple.{none_is_some, same_some}
use Rattle.ps_hoa.specs.Scan.{next_of}
use Rattle.ps_hoa.specs.Tokens.{Sign}
use Rattle.ps_hoa.specs.declared.tokens.Kind.TheVariants.{Finish}

pub next_there : (s : Stream Sign) → ((next_of s).sign.kind ≡ Finish → ⊥) → next_sign s ≡ Some (next_of s).sign
next_there s h = grind arith

pub next_same : (stream : Stream Sign) (t : Sign) → next_sign stream ≡ Some t → (next_of stream).sign ≡ t
next_same s t h = grind (arith, none_is_some, same_some)

pub start_there : (s : Stream Sign) → (next_of s).start ≡ offset_of s.pieces s.end
start_there s = grind arith
