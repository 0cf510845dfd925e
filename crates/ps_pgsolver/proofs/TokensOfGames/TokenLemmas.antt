-- Lemmas about what the lexer of game texts produces, token by token.
use Rattle.std.proofs.Common.{◌≡◌, ℕ, zero, suc, ◌+◌, ◌-◌, ◌<◌, ◌≤◌, Bool, true, false, eqb, List, [], ◌∷◌, ◌++◌, rules}
use Rattle.std.proofs.Common.{length, get_or, take, drop, Some, None, refl, sym, ap, subst, ◌∙◌, ⊎_elim, arith}
use Rattle.std.proofs.Common.{append_assoc}
use Rattle.std.proofs.lemmas.List.{append-nil, drop-drop, length-take-le, length-drop}
use Rattle.std.proofs.lemmas.Bool.{cases_Bool, cases_lt}
use Rattle.std.proofs.Math.Seq.{take-add}
use Rattle.std.specs.List.{prefix_len}
use Rattle.ps_text.proofs.BytesAndDigits.ByteRuns.{run_len, run_ends}
use Rattle.ps_text.specs.Bytes.{is_blank, is_digit, is_letter}
use Rattle.ps_pgsolver.specs.Ends.{ends_in}
use Rattle.ps_text.specs.Answers.{Stream, offset_of}
use Rattle.ps_pgsolver.specs.Signs.{Sign}
use Rattle.ps_pgsolver.specs.Heads.{IsHead, sign_of}
use Rattle.ps_text.specs.Readers.{tail}
use Rattle.ps_pgsolver.specs.declared.token.Kind.{Kind}
use Rattle.ps_pgsolver.specs.Lexer.{lex, first_sign, first_size, number_sign, word_sign, name_sign, name_size}
use Rattle.ps_pgsolver.specs.Lexer.{punctuation_sign, stream_from}

nil_of : (xs : List ℕ) → length xs ≤ 0 → xs ≡ []
nil_of [] h = refl
nil_of (x ∷ xs) h = absurd (omega arith)

pub ends_in-last : (p : ℕ → Bool) (text : List ℕ) → 0 < length text →
    ends_in p text ≡ p (get_or text (length text - 1) 0)
ends_in-last p [] h = absurd (omega arith)
ends_in-last p (b ∷ []) h = refl
ends_in-last p (b ∷ c ∷ cs) h =
    let e : suc (suc (length cs)) - 1 ≡ suc (length cs) = omega arith in
    let e' : suc (length cs) - 1 ≡ length cs = omega arith in
    ends_in-last p (c ∷ cs) (omega arith) ∙ rw (e, e') refl

pub at_digit : (before : List ℕ) (b : ℕ) (bs : List ℕ) {rest : List ℕ} → rest ≡ b ∷ bs → is_digit b ≡ true →
    (first_sign before rest ≡ number_sign before rest) × (first_size rest ≡ prefix_len is_digit rest)
unfolding first_sign first_size
at_digit before b bs e d = rw e (rw d refl, rw d refl)

pub at_letter : (before : List ℕ) (b : ℕ) (bs : List ℕ) {rest : List ℕ} → rest ≡ b ∷ bs → is_digit b ≡ false → is_letter
    b ≡ true → (first_sign before rest ≡ word_sign before rest) × (first_size rest ≡ prefix_len is_letter rest)
unfolding first_sign first_size
at_letter before b bs e d l = rw e (rw (d, l) refl, rw (d, l) refl)

pub at_quote : (before : List ℕ) {b : ℕ} (bs : List ℕ) {rest : List ℕ} → rest ≡ b ∷ bs → b ≡ 34 →
    (first_sign before rest ≡ name_sign bs) × (first_size rest ≡ name_size bs)
unfolding first_sign first_size
at_quote before bs e q = rw (e, q) (refl, refl)

pub at_punctuation : (before : List ℕ) (b : ℕ) (bs : List ℕ) {rest : List ℕ} → rest ≡ b ∷ bs → is_digit b ≡ false →
    is_letter b ≡ false → eqb b 34 ≡ false → (first_sign before rest ≡ punctuation_sign b) × (first_size rest ≡ 1)
unfolding first_sign first_size
at_punctuation before b bs e d l q = rw e (rw (d, l, q) refl, rw (d, l, q) refl)

-- the lexer skips the remaining bytes of a token that it has already produced
pub lex-skip : (skip : ℕ) (before bs : List ℕ) → lex skip before bs ≡ lex 0 (before ++ take skip bs) (drop skip bs)
unfolding lex
lex-skip zero before bs = ap (λ front. lex 0 front bs) (sym (append-nil before))
lex-skip (suc skip) before [] = refl
lex-skip (suc skip) before (b ∷ bs) = search (rules, append_assoc, lex-skip skip (before ++ b ∷ []) bs)

lex-blank : (before : List ℕ) (b : ℕ) (bs : List ℕ) → is_blank b ≡ true →
    lex 0 before (b ∷ bs) ≡ lex 0 (before ++ b ∷ []) bs
unfolding lex
lex-blank before b bs h = rw h refl

lex-token : (before : List ℕ) (b : ℕ) (bs : List ℕ) → is_blank b ≡ false → lex 0 before (b ∷ bs) ≡ (record
    { sign = first_sign before (b ∷ bs); start = length before }) ∷ lex (first_size (b ∷ bs) - 1) (before ++ b ∷ []) bs
unfolding lex
lex-token before b bs h = rw h refl

-- the lexer skips blanks
pub lex-blanks : (before bs : List ℕ) → lex 0 before bs ≡ lex 0 (before ++ take (prefix_len is_blank bs) bs)
    (drop (prefix_len is_blank bs) bs)
lex-blanks before [] = ap (λ front. lex 0 front []) (sym (append-nil before))
lex-blanks before (b ∷ bs) = ⊎_elim (λ yes.
    let size : prefix_len is_blank (b ∷ bs) ≡ suc (prefix_len is_blank bs) = rw yes (omega arith) in
    search (rules, lex-blank, append_assoc, lex-blanks (before ++ b ∷ []) bs)) (λ no.
    grind (arith, append-nil)) (cases_Bool (is_blank b))

-- after the longest prefix of items that pass a test, the next item does not pass the test
pub prefix_len-behind : (p : ℕ → Bool) (xs : List ℕ) → prefix_len p (drop (prefix_len p xs) xs) ≡ 0
prefix_len-behind p xs = run_len p [] (drop (prefix_len p xs) xs) tt (run_ends p xs)

pub stream_from-blanks : (text : List ℕ) (at : ℕ) → stream_from text at ≡ stream_from text
    (at + prefix_len is_blank (drop at text))
stream_from-blanks text at = search (rules, lex-blanks, take-add, drop-drop)

name_size-positive : (bs : List ℕ) → 0 < name_size bs
name_size-positive bs = search (rules, cases_Bool)

pub first_size-positive : (b : ℕ) (bs : List ℕ) → 0 < first_size (b ∷ bs)
unfolding first_size
first_size-positive b bs = search (rules, name_size-positive, cases_Bool)

pub first_size-none : (rest : List ℕ) → length rest ≡ 0 → first_size rest ≡ 0
unfolding first_size
first_size-none rest h = search rules

-- for a nonempty text that does not begin with a blank, the lexer produces the first token, and then the tokens after
-- its bytes
pub lex-first : (before rest : List ℕ) → prefix_len is_blank rest ≡ 0 → 0 < length rest →
    lex 0 before rest ≡ (record { sign = first_sign before rest; start = length before }) ∷ lex 0
    (before ++ take (first_size rest) rest) (drop (first_size rest) rest)
lex-first before [] none some = absurd (omega arith)
lex-first before (b ∷ bs) none some = ⊎_elim (λ yes. grind arith) (λ no.
    let one : first_size (b ∷ bs) ≡ suc (first_size (b ∷ bs) - 1) = omega (arith, first_size-positive b bs) in
    grind (arith, lex-skip, append_assoc, lex-token)) (cases_Bool (is_blank b))

-- at the end of a text there are no more tokens
pub lex-end : (before : List ℕ) → lex 0 before [] ≡ []
unfolding lex
lex-end before = refl

-- the token that the parser has read is the next one of the text, and the text's remaining tokens come after its `size`
-- bytes
pub record Reads (text : List ℕ) (start size : ℕ) (kind : Kind) (stream : Stream Sign) : Type 0 where
  pub head : IsHead (record { kind = kind; start = start }) stream
  pub rest : stream_from text (start + size) ≡ tail stream

reads_end : {text : List ℕ} {start size : ℕ} {kind : Kind} → start ≤ length text → drop start text ≡ [] →
    sign_of kind ≡ None → size ≡ first_size (drop start text) → Reads text start size kind (stream_from text start)
reads_end {text} {start} {size} {kind} within ended none sized = search (rules, lex-end, length-drop, first_size-none)

reads_token : {text : List ℕ} {start size : ℕ} {kind : Kind} → start ≤ length text → 0 < length (drop start text) →
    prefix_len is_blank (drop start text) ≡ 0 → sign_of kind ≡ Some (first_sign (take start text) (drop start text)) →
    size ≡ first_size (drop start text) → Reads text start size kind (stream_from text start)
reads_token {text} {start} {size} {kind} within some no_blank is_sign sized =
    search (rules, take-add, drop-drop, lex-first, length-take-le)

pub reads : (text : List ℕ) (at start size : ℕ) (kind : Kind) → start ≡ at + prefix_len is_blank (drop at text) →
    start ≤ length text → (drop start text ≡ [] → sign_of kind ≡ None) →
    (0 < length (drop start text) → sign_of kind ≡ Some (first_sign (take start text) (drop start text))) →
    size ≡ first_size (drop start text) → Reads text start size kind (stream_from text at)
reads text at start size kind begins within ended some sized =
    let e : stream_from text at ≡ stream_from text start = grind (arith, stream_from-blanks) in
    let none : prefix_len is_blank (drop start text) ≡ 0 =
    rw (begins, ← drop-drop (prefix_len is_blank (drop at text)) at text) (prefix_len-behind is_blank (drop at text)) in
    let P : Stream Sign → Type 0 = λ stream. Reads text start size kind stream in
    subst P (sym e) (⊎_elim (λ (some_left : 0 < length (drop start text)). reads_token within some_left none
    (some some_left) sized) (λ (none_left : length (drop start text) ≤ 0). let empty : drop start text ≡ [] =
    search (rules, nil_of) in reads_end within empty (ended empty) sized) (cases_lt 0 (length (drop start text))))

-- if a text is split where its next token begins, the first token of the second half is the next token of the text
pub reads_split : {text before rest : List ℕ} (at : ℕ) {start size : ℕ} {kind : Kind} {stream : Stream Sign} →
    start ≡ at + prefix_len is_blank (drop at text) → start ≤ length text → before ≡ take start text → rest ≡ drop
    start text → (rest ≡ [] → sign_of kind ≡ None) → (0 < length rest → sign_of kind ≡ Some (first_sign before rest)) →
    size ≡ first_size rest → stream_from text at ≡ stream → Reads text start size kind stream
reads_split {text} {rest} at {start} {size} {kind} begins within front back ended some sized is =
    let P : Stream Sign → Type 0 = λ s. Reads text start size kind s in
    subst P is (reads text at start size kind begins within (λ empty. ended (back ∙ empty))
    (λ left. grind arith) (sized ∙ ap first_size back))

-- the offset of the next token is the offset of the first byte that is not a blank
pub offset_ahead : (text : List ℕ) (at : ℕ) {start : ℕ} → start ≡ at + prefix_len is_blank (drop at text) →
    start ≤ length text → start ≡ offset_of (stream_from text at).pieces (length text)
offset_ahead text at {start} begins within = let e : stream_from text at ≡ stream_from text start =
    search (rules, stream_from-blanks) in let none : prefix_len is_blank (drop start text) ≡ 0 = rw (
      begins,
      ← drop-drop (prefix_len is_blank (drop at text)) at text,
    ) (prefix_len-behind is_blank (drop at text)) in
    grind (arith, lex-first, length-take-le, length-drop, nil_of, lex-end, cases_lt)
