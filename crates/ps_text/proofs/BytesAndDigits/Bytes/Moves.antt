-- When a function of a cursor moves past bytes, their symbols are removed from the list of unread symbols.
use Rattle.std.proofs.Common.{◌≡◌, ℕ, suc, ◌+◌, ◌-◌, ◌^◌, ◌<◌, ◌≤◌, Bool, true, false, eqb, List, [], ◌∷◌, ◌++◌, length}
use Rattle.std.proofs.Common.{take, drop, get_or, refl, sym, ap, ap₂, ◌∙◌, append_assoc, arith, length-append, rules}
use Rattle.std.specs.List.{prefix_len}
use Rattle.std.proofs.lemmas.Bool.{eqb-true, ne_eqb}
use Rattle.std.proofs.lemmas.List.{drop-drop, drop_more, length-drop, take-append-drop}
use Rattle.ps_text.specs.Answers.{Stream, next_of}
use Rattle.ps_text.specs.Readers.{tail}
use Rattle.ps_text.specs.Runs.{StopsBefore}
use Rattle.ps_text.specs.Bytes.{Seen, pieces_at, ends_line}
use Rattle.ps_text.specs.Cursors.{rest_with_newline, stream_offset, Passes}
use Rattle.ps_text.proofs.BytesAndDigits.ByteRuns.{run_all, run_ends}
use Rattle.ps_text.proofs.Combinators.Simple.{none_is_some, same_some}
use Rattle.ps_text.proofs.Combinators.Covered.{Avoids}
use Rattle.ps_text.proofs.BytesAndDigits.Bytes.Pieces.{length_pieces}

-- ## The beginning

pub last_ends : (text : List ℕ) → 0 < length text → ends_line text ≡ eqb (get_or text (length text - 1) 0) 10
last_ends [] h = absurd (omega arith)
last_ends (b ∷ []) h = refl
last_ends (b ∷ c ∷ cs) h =
    let e : suc (suc (length cs)) - 1 ≡ suc (length cs) = omega arith in
    let e' : suc (length cs) - 1 ≡ length cs = omega arith in
    last_ends (c ∷ cs) (omega arith) ∙ rw (e, e') refl

pub new_small : (text : List ℕ) (u : Bool) → length text < 2 ^ 63 →
    length (pieces_at 0 (rest_with_newline u text)) ≤ 2 ^ 63
new_small text u l = grind (arith, length_pieces, length-append)

pub place_is : {at : ℕ} (rest : List ℕ) (u : Bool) → at ≡ stream_offset
    (record { pieces = pieces_at at (rest_with_newline u rest); end = at + length rest })
place_is [] true = refl
place_is [] false = omega arith
place_is (b ∷ rest) true = refl
place_is (b ∷ rest) false = refl

-- if bytes are unread, symbols are unread
pub left_some : (at : ℕ) (rest : List ℕ) (u : Bool) → eqb (length rest) 0 ≡ false →
    eqb (length (pieces_at at (rest_with_newline u rest))) 0 ≡ false
left_some at [] u e = absurd cc
left_some at (b ∷ rest) u e = search (rules, ne_eqb)

-- ## Runs

nil_of : (xs : List ℕ) → length xs ≡ 0 → xs ≡ []
nil_of [] h = refl
nil_of (x ∷ xs) h = absurd (omega (arith, h))

-- if the test for an empty list is true, the list is empty
pub is_empty_true : {list : List ℕ} {truth : Bool} → truth ≡ eqb (length list) 0 → truth ≡ true → list ≡ []
is_empty_true {list = r} e t = nil_of r (eqb-true (length r) 0 (sym e ∙ t))

-- if the test for an empty list is false, the list has an entry
pub is_empty_false : (list : List ℕ) {truth : Bool} → truth ≡ eqb (length list) 0 → truth ≡ false → 0 < length list
is_empty_false r h k = search rules

stops_ended : (p : ℕ → Bool) (u : Bool) (rest : List ℕ) → p 10 ≡ false → StopsBefore p rest →
    StopsBefore p (rest_with_newline u rest)
stops_ended p u rest h k = search rules

ended_append : (u : Bool) (a b : List ℕ) → rest_with_newline u (a ++ b) ≡ a ++ rest_with_newline u b
ended_append u a b = grind (arith, append_assoc)

pub passes_run : {p : ℕ → Bool} → p 10 ≡ false → (at : ℕ) {n : ℕ} (rest : List ℕ) {run behind : List ℕ} (u : Bool) →
    n ≡ prefix_len p rest → run ≡ take n rest → behind ≡ drop n rest → length run ≡ n
    → Passes p (record { pieces = pieces_at at (rest_with_newline u rest); end = at + length rest })
    (record { pieces = pieces_at (at + n) (rest_with_newline u behind); end = (at + n) + length behind }) run
passes_run {p} line at {n} rest {run} {behind} u size taken left each =
    search (rules, whole, ended_append, length-append, place_is, run_all, behind_is, stops_ended, run_ends)
  where
    behind_is : behind ≡ drop (prefix_len p rest) rest
    behind_is = left ∙ ap (λ k. drop k rest) size

    whole : rest ≡ run ++ behind
    whole = sym (take-append-drop n rest) ∙ ap₂ (λ (x y : List ℕ). x ++ y) (sym taken) (sym left)

pub same_place : {p : ℕ → Bool} {old new : Stream Seen} {r : List ℕ} → Passes p old new r → r ≡ [] → new ≡ old
same_place {p} {old} {new} x e = search rules

-- if the cursor moves past an empty run of bytes of a class, the next byte is not of this class
pub avoids_run : {p : ℕ → Bool} {old new : Stream Seen} → Passes p old new [] →
    Avoids (λ (s : Seen). p s.byte ≡ true) (next_of old)
avoids_run {p} x t n h = search (rules, none_is_some, same_some)

-- ## A text and an offset

-- the stream of a cursor at an offset of a text
abbrev pub stream_in : List ℕ → ℕ → Bool → Stream Seen
stream_in text at u =
    record { pieces = pieces_at at (rest_with_newline u (drop at text)); end = at + length (drop at text) }

past_first : (at b : ℕ) (bs : List ℕ) (u : Bool) →
    record { pieces = pieces_at (at + 1) (rest_with_newline u bs); end = (at + 1) + length bs } ≡
    tail (record { pieces = pieces_at at (rest_with_newline u (b ∷ bs)); end = at + length (b ∷ bs) })
past_first at b bs true =
    ap (λ end. record { pieces = pieces_at (at + 1) (rest_with_newline true bs); end = end }) (omega arith)
past_first at b bs false =
    ap (λ end. record { pieces = pieces_at (at + 1) (rest_with_newline false bs); end = end }) (omega arith)

-- one byte further on, the first symbol is gone
pub past_byte : (text : List ℕ) (at : ℕ) (u : Bool) → at < length text →
    stream_in text (at + 1) u ≡ tail (stream_in text at u)
past_byte text at u lt = past_first at (get_or text at 0) (drop (at + 1) text) u
    ∙ ap (λ rest. tail (record { pieces = pieces_at at (rest_with_newline u rest); end = at + length rest }))
    (sym (drop_more text at 0 lt))

-- behind a longest run of bytes
pub passes_in : {p : ℕ → Bool} → p 10 ≡ false → (text : List ℕ) (at : ℕ) (u : Bool) {n : ℕ} {rest run : List ℕ} →
    rest ≡ drop at text → n ≡ prefix_len p rest → run ≡ take n rest → length run ≡ n →
    Passes p (stream_in text at u) (stream_in text (at + n) u) run
passes_in {p} line text at u {n} {rest} {run} back size taken each =
    passes_run line at (drop at text) u (size ∙ ap (prefix_len p) back) (taken ∙ ap (take n) back)
    (sym (drop-drop n at text)) each

-- if the offset is not the end, symbols are unread
pub left_in : (text : List ℕ) (at : ℕ) (u : Bool) → at < length text →
    eqb (length (stream_in text at u).pieces) 0 ≡ false
left_in text at u lt = left_some at (drop at text) u (ne_eqb (length (drop at text)) 0 (λ none. omega (arith, none, length-drop at text)))
