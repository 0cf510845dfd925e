-- The pieces of a list of bytes: one symbol for each byte, with its offset.
-- - `bytes_append`, `bytes_at`, `length_pieces`: two lists of symbols in a row have the bytes of both; the pieces of a
--   list of bytes have these bytes, one piece for each byte
-- - `pieces_with at bytes rest`: the pieces of `bytes`, if `rest` follows these bytes
-- - `pieces_split`: the pieces of a list of bytes that is followed by another list are the pieces of the first list,
--   and then the pieces of the second list
-- - `next_at`, `first_sees`: the first symbol of a text has the text's first byte, and its field `behind` has the other
--   bytes
use Rattle.std.proofs.Common.{◌≡◌, ℕ, suc, ◌+◌, ◌<◌, List, [], ◌∷◌, ◌++◌, length, refl, ap, ◌∙◌, arith, rules}
use Rattle.std.specs.Option.{option_map}
use Rattle.ps_text.specs.Answers.{Piece, Stream, signs, first_of}
use Rattle.ps_text.specs.Bytes.{Seen, pieces_at, bytes_of, first_at}
use Rattle.ps_text.specs.Cursors.{next_byte}
use Rattle.ps_text.proofs.Combinators.Splits.{same_head}
use Rattle.ps_text.proofs.Combinators.Simple.{nil_is_cons}

pub bytes_append : (a b : List Seen) → bytes_of (a ++ b) ≡ bytes_of a ++ bytes_of b
bytes_append [] b = refl
bytes_append (s ∷ a) b = ap (λ xs. s.byte ∷ xs) (bytes_append a b)

pub bytes_at : (at : ℕ) (bytes : List ℕ) → bytes_of (signs (pieces_at at bytes)) ≡ bytes
bytes_at at [] = refl
bytes_at at (b ∷ bytes) = ap (λ xs. b ∷ xs) (bytes_at (at + 1) bytes)

pub length_pieces : (at : ℕ) (bytes : List ℕ) → length (pieces_at at bytes) ≡ length bytes
length_pieces at [] = refl
length_pieces at (b ∷ bytes) = ap suc (length_pieces (at + 1) bytes)

abbrev pub pieces_with : ℕ → List ℕ → List ℕ → List (Piece Seen)
pieces_with at [] rest = []
pieces_with at (b ∷ bytes) rest =
    record { sign = record { byte = b; at = at; behind = bytes ++ rest }; start = at } ∷ pieces_with (at + 1) bytes rest

pub pieces_split : (at : ℕ) (bytes rest : List ℕ) → pieces_at at (bytes ++ rest) ≡ pieces_with at bytes rest ++
    pieces_at (at + length bytes) rest
pieces_split at [] rest = let e : at ≡ at + 0 = omega arith in ap (λ a. pieces_at a rest) e
pieces_split at (b ∷ bytes) rest = grind (arith, pieces_split (at + 1) bytes rest)

pub bytes_with : (at : ℕ) (bytes rest : List ℕ) → bytes_of (signs (pieces_with at bytes rest)) ≡ bytes
bytes_with at [] rest = refl
bytes_with at (b ∷ bytes) rest = ap (λ xs. b ∷ xs) (bytes_with (at + 1) bytes rest)

pub first_with : {at : ℕ} (bytes rest : List ℕ) → 0 < length bytes → first_at (signs (pieces_with at bytes rest)) ≡ at
first_with [] rest h = absurd (omega arith)
first_with (b ∷ bytes) rest h = refl

pub length_with : (at : ℕ) (bytes rest : List ℕ) → 0 < length bytes → 0 < length (signs (pieces_with at bytes rest))
length_with at [] rest h = absurd (omega arith)
length_with at (b ∷ bytes) rest h = omega arith

-- the next byte of a stream of a text's pieces is the first byte of the text
pub next_at : (s : Stream Seen) (at : ℕ) (bytes : List ℕ) → s.pieces ≡ pieces_at at bytes → next_byte s ≡ first_of bytes
next_at s at bytes e = ap (λ ps. option_map (λ (t : Seen). t.byte) (first_of (signs ps))) e ∙ go bytes
  where
    go : (bytes : List ℕ) →
        option_map (λ (t : Seen). t.byte) (first_of (signs (pieces_at at bytes))) ≡ first_of bytes
    go [] = refl
    go (b ∷ bytes) = refl

-- the first symbol of a text has the first byte, and its field `behind` has the remaining bytes
pub first_sees : (at : ℕ) (bytes : List ℕ) (t : Seen) (rest : List Seen) → signs (pieces_at at bytes) ≡ t ∷ rest →
    bytes ≡ t.byte ∷ t.behind
first_sees at [] t rest e = absurd (nil_is_cons t rest e)
first_sees at (b ∷ bytes) t rest e = search (rules, same_head)
