-- Comments that nest, as `/* a /* b */ c */`.
-- - `head_or_zero bytes`: the first byte, or 0 if there is none
-- - `comment_len bytes skip depth`: the length of the rest of a comment, if it is closed
use Rattle.std.specs.Prelude.{ℕ, zero, suc, ◌&&◌, Bool, true, false, List, [], ◌∷◌, if◌then◌else◌, nat_eq, Option, None}
use Rattle.std.specs.Prelude.{Some}

abbrev pub head_or_zero : List ℕ → ℕ
head_or_zero [] = 0
head_or_zero (b ∷ bs) = b

abbrev pub one_more : Option ℕ → Option ℕ
one_more None = None
one_more (Some n) = Some (suc n)

-- The given bytes begin inside a comment that is nested in `depth` further comments. The result is the number of bytes
-- up to and including the `*/` that closes the outermost comment. If `skip` is true, the first byte is the second byte
-- of a `/*` or a `*/`.
unfoldable pub comment_len : List ℕ → Bool → ℕ → Option ℕ
comment_len [] skip depth = None
comment_len (b ∷ bs) true depth = one_more (comment_len bs false depth)
comment_len (b ∷ bs) false depth =
    if nat_eq b 42 && nat_eq (head_or_zero bs) 47 then (elim depth
    [ zero ↦ Some 2 | suc d ↦ one_more (comment_len bs true d) ])
    else (if nat_eq b 47 && nat_eq (head_or_zero bs) 42 then one_more (comment_len bs true (suc depth))
    else one_more (comment_len bs false depth))
