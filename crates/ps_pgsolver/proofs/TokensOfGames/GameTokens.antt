-- The tokens of a game text are exactly those that the lexer produces.
use Rattle.std.proofs.Common.{◌≡◌, ℕ, zero, suc, ◌+◌, ◌<◌, ◌≤◌, Bool, true, false, cond, eqb, List, [], ◌∷◌, ◌++◌}
use Rattle.std.proofs.Common.{length, get_or, take, drop, refl, sym, ap, subst, ◌∙◌, arith, append_assoc, append-nil}
use Rattle.std.proofs.Common.{length-append, ne_eqb, lt-ltb, take-append-drop, rules}
use Rattle.std.specs.List.{prefix_len, take_while}
use Rattle.std.proofs.lemmas.List.{take_more, drop_all, length-drop}
use Rattle.std.proofs.Math.Seq.{take-append_seam}
use Rattle.std.proofs.lemmas.List.Folds.{length-prefix_len}
use Rattle.std.proofs.lemmas.List.Sums.{prefix_len_stops}
use Rattle.std.proofs.lemmas.Bool.{ltb-true, ltb-false, eqb-true, eqb-false}
use Rattle.ps_text.proofs.Combinators.Splits.{same_split}
use Rattle.ps_text.specs.Answers.{Stream}
use Rattle.ps_text.specs.Digits.{decimal_value}
use Rattle.ps_text.specs.Runs.{AllOf, StopsBefore}
use Rattle.ps_text.specs.Tokens.{NextToken, TokensFrom, TokensDiffer}
use Rattle.ps_text.proofs.BytesAndDigits.ByteRuns.{run_len, run_all, run_ends}
use Rattle.ps_text.proofs.ParsedAnswers.OneTokenisation.{has_one_tokenisation}
use Rattle.ps_text.specs.Bytes.{is_blank, is_digit, is_letter, is_unquoted}
use Rattle.ps_pgsolver.specs.Ends.{ends_in}
use Rattle.ps_pgsolver.specs.Signs.{Sign, Number, Word, Name, Comma, Semicolon, OpenName, Wrong}
use Rattle.ps_pgsolver.specs.Lexer.{lex, first_sign, first_size, number_sign, word_sign, name_sign, name_size}
use Rattle.ps_pgsolver.specs.Lexer.{punctuation_sign, is_closed, stream_of}
use Rattle.ps_pgsolver.specs.GameTokens.{IsByteRun, number_behind_word, word_behind_number, stray, IsToken}
use Rattle.ps_pgsolver.specs.GameTokens.{AreGameTokens}
use Rattle.ps_pgsolver.proofs.TokensOfGames.TokenLemmas.{at_digit, at_letter, at_quote, at_punctuation, lex-blanks}
use Rattle.ps_pgsolver.proofs.TokensOfGames.TokenLemmas.{lex-first}
use Rattle.ps_pgsolver.proofs.TokensOfGames.TokenLemmas.{lex-end}
use Rattle.ps_pgsolver.proofs.TokensOfGames.TokenLemmas.{prefix_len-behind, first_size-positive}

-- ## Runs

first_run : {p : ℕ → Bool} (b : ℕ) (bs : List ℕ) → p b ≡ true →
    IsByteRun p (take (prefix_len p (b ∷ bs)) (b ∷ bs)) (drop (prefix_len p (b ∷ bs)) (b ∷ bs))
first_run {p} b bs h = grind (arith, length-prefix_len, run_all p (b ∷ bs), run_ends p (b ∷ bs))

-- ## Classes of bytes

digit_no_blank : (b : ℕ) → is_digit b ≡ true → is_blank b ≡ false
digit_no_blank b h = grind arith

letter_no_blank : (b : ℕ) → is_letter b ≡ true → is_blank b ≡ false
letter_no_blank b h = grind arith

letter_no_digit : (b : ℕ) → is_letter b ≡ true → is_digit b ≡ false
letter_no_digit b h = grind arith

inner_no_quote : {b : ℕ} → is_unquoted b ≡ false → b ≡ 34
inner_no_quote h = grind arith

-- ## What the lexer produces is a token

abbrev Found : List ℕ → List ℕ → Sign → ℕ → Type 0
Found before w t n = IsToken before t (take n w) (drop n w)

number_found : (before : List ℕ) (b : ℕ) (bs : List ℕ) → is_digit b ≡ true →
    Found before (b ∷ bs) (number_sign before (b ∷ bs)) (prefix_len is_digit (b ∷ bs))
number_found before b bs h = go (ends_in is_letter before) refl
  where
    n : ℕ
    n = prefix_len is_digit (b ∷ bs)

    go : (e : Bool) → ends_in is_letter before ≡ e → IsToken before
        (cond e Wrong (Number (decimal_value (take_while is_digit (b ∷ bs))))) (take n (b ∷ bs)) (drop n (b ∷ bs))
    go true x = number_behind_word (first_run b bs h) x
    go false x = (first_run b bs h, refl, x)

word_found : (before : List ℕ) (b : ℕ) (bs : List ℕ) → is_letter b ≡ true →
    Found before (b ∷ bs) (word_sign before (b ∷ bs)) (prefix_len is_letter (b ∷ bs))
word_found before b bs h = go (ends_in is_digit before) refl
  where
    n : ℕ
    n = prefix_len is_letter (b ∷ bs)

    go : (e : Bool) → ends_in is_digit before ≡ e → IsToken before (cond e Wrong (Word (take_while is_letter (b ∷ bs))))
        (take n (b ∷ bs)) (drop n (b ∷ bs))
    go true x = word_behind_number (first_run b bs h) x
    go false x = (first_run b bs h, refl, x)

name_found : (before bs : List ℕ) → Found before (34 ∷ bs) (name_sign bs) (name_size bs)
name_found before bs = go (is_closed bs) refl
  where
    n : ℕ
    n = prefix_len is_unquoted bs

    closed : n < length bs → IsToken before (Name (take_while is_unquoted bs)) (take (n + 2) (34 ∷ bs))
        (drop (n + 2) (34 ∷ bs))
    closed l = (text, run_all is_unquoted bs)
      where
        size : n + 2 ≡ suc (n + 1)
        size = omega arith

        quote : get_or bs n 0 ≡ 34
        quote = inner_no_quote (prefix_len_stops is_unquoted bs 0 l)

        text : take (n + 2) (34 ∷ bs) ≡ 34 ∷ (take n bs ++ 34 ∷ [])
        text = ap (λ k. take k (34 ∷ bs)) size ∙ ap (λ z. 34 ∷ z) (take_more bs n 0 l)
            ∙ ap (λ z. 34 ∷ (take n bs ++ z ∷ [])) quote

    open_name : length bs ≤ n → IsToken before OpenName (take (n + 1) (34 ∷ bs)) (drop (n + 1) (34 ∷ bs))
    open_name l = (
      take n bs,
      ap (λ k. take k (34 ∷ bs)) size,
      run_all is_unquoted bs,
      ap (λ k. drop k (34 ∷ bs)) size ∙ drop_all n bs l,
    )
      where
        size : n + 1 ≡ suc n
        size = omega arith

    go : (e : Bool) → is_closed bs ≡ e → IsToken before (cond e (Name (take_while is_unquoted bs)) OpenName)
        (take (cond e (n + 2) (n + 1)) (34 ∷ bs)) (drop (cond e (n + 2) (n + 1)) (34 ∷ bs))
    go true x = closed (ltb-true n (length bs) x)
    go false x = open_name (ltb-false n (length bs) x)

punctuation_found : (before : List ℕ) (b : ℕ) (bs : List ℕ) → is_digit b ≡ false → is_letter b ≡ false →
    is_blank b ≡ false →
    eqb b 34 ≡ false → Found before (b ∷ bs) (punctuation_sign b) 1
punctuation_found before b bs d l k q = go (eqb b 44) (eqb b 59) refl refl
  where
    go : (e f : Bool) → eqb b 44 ≡ e → eqb b 59 ≡ f → IsToken before (cond e Comma (cond f Semicolon Wrong)) (b ∷ []) bs
    go true f x y = ap (λ z. z ∷ []) (eqb-true b 44 x)
    go false true x y = ap (λ z. z ∷ []) (eqb-true b 59 y)
    go false false x y = stray b refl (grind (arith, eqb-false))

moved : (before w : List ℕ) (t : Sign) (n : ℕ) → first_sign before w ≡ t → first_size w ≡ n → Found before w t n →
    Found before w (first_sign before w) (first_size w)
moved before w t n e f h = search rules

found : (before : List ℕ) (b : ℕ) (bs : List ℕ) → is_blank b ≡ false →
    Found before (b ∷ bs) (first_sign before (b ∷ bs)) (first_size (b ∷ bs))
found before b bs k = go (is_digit b) (is_letter b) (eqb b 34) refl refl refl
  where
    w : List ℕ
    w = b ∷ bs

    go : (d l q : Bool) → is_digit b ≡ d → is_letter b ≡ l → eqb b 34 ≡ q →
        Found before w (first_sign before w) (first_size w)
    go true l q x y z = let p = at_digit before b bs refl x in moved before w _ _ p.0 p.1 (number_found before b bs x)
    go false true q x y z =
        let p = at_letter before b bs refl x y in moved before w _ _ p.0 p.1 (word_found before b bs y)
    go false false true x y z = grind (arith, at_quote before bs refl (eqb-true b 34 z), name_found before bs)
    go false false false x y z =
        let p = at_punctuation before b bs refl x y z in
        moved before w _ _ p.0 p.1 (punctuation_found before b bs x y k z)

-- ## Each token is produced by the lexer

abbrev IsFound : List ℕ → List ℕ → Sign → ℕ → Type 0
IsFound before w t n = (first_sign before w ≡ t) × (first_size w ≡ n)

run_begins : {p : ℕ → Bool} {text rest : List ℕ} → IsByteRun p text rest →
    (b : ℕ) × (bs : List ℕ) × (text ≡ b ∷ bs) × (p b ≡ true)
run_begins {p} {text} r = go text r.some r.all
  where
    go : (text : List ℕ) → 0 < length text → AllOf p text → (b : ℕ) × (bs : List ℕ) × (text ≡ b ∷ bs) × (p b ≡ true)
    go [] s a = absurd (omega (arith, s))
    go (b ∷ bs) s a = (b, bs, refl, a.0)

run_taken : {p : ℕ → Bool} {text rest : List ℕ} → IsByteRun p text rest →
    (prefix_len p (text ++ rest) ≡ length text) × (take_while p (text ++ rest) ≡ text)
run_taken {p} {text} {rest} r = search (rules, run_len, take-append_seam)

digits_are : (before : List ℕ) {text rest : List ℕ} → IsByteRun is_digit text rest →
    IsFound before (text ++ rest) (number_sign before (text ++ rest)) (length text)
digits_are before {text} {rest} r = let s = run_begins r in
    let p = at_digit before s.0 (s.1 ++ rest) (ap (λ z. z ++ rest) s.2) s.3 in (p.0, p.1 ∙ (run_taken r).0)

letters_are : (before : List ℕ) {text rest : List ℕ} → IsByteRun is_letter text rest →
    IsFound before (text ++ rest) (word_sign before (text ++ rest)) (length text)
letters_are before {text} {rest} r =
    let s = run_begins r in
    let p = at_letter before s.0 (s.1 ++ rest) (ap (λ z. z ++ rest) s.2) (letter_no_digit s.0 s.3) s.3 in
    (p.0, p.1 ∙ (run_taken r).0)

closed_name : (inner rest : List ℕ) → AllOf is_unquoted inner → (name_sign ((inner ++ 34 ∷ []) ++ rest) ≡ Name inner) ×
    (name_size ((inner ++ 34 ∷ []) ++ rest) ≡ length (34 ∷ (inner ++ 34 ∷ [])))
closed_name inner rest a = grind (arith, append_assoc, run_len, length-append, lt-ltb, take-append_seam)

open_name_is : (inner : List ℕ) {rest : List ℕ} → AllOf is_unquoted inner → rest ≡ [] →
    (name_sign (inner ++ rest) ≡ OpenName) × (name_size (inner ++ rest) ≡ length (34 ∷ inner))
open_name_is inner a e = search (rules, run_len)

not_both : (b : ℕ) → is_blank b ≡ false → is_blank b ≡ true → ⊥
not_both b f t = let x : false ≡ true = sym f ∙ t in cc

token_is : (before text rest : List ℕ) (t : Sign) → IsToken before t text rest →
    IsFound before (text ++ rest) t (length text)
token_is before text rest (Number n) h = grind (arith, digits_are before h.0, run_taken)
token_is before text rest (Word letters) h = grind (arith, letters_are before h.0, run_taken)
token_is before text rest (Name inner) h =
    let bs : List ℕ = (inner ++ 34 ∷ []) ++ rest in
    let p = at_quote before bs (ap (λ z. z ++ rest) h.0) refl in
    grind (arith, closed_name)
token_is before text rest Comma h =
    let p = at_punctuation before 44 rest (ap (λ z. z ++ rest) h) refl refl refl in (p.0, p.1 ∙ ap length (sym h))
token_is before text rest Semicolon h =
    let p = at_punctuation before 59 rest (ap (λ z. z ++ rest) h) refl refl refl in (p.0, p.1 ∙ ap length (sym h))
token_is before text rest OpenName h = let p = at_quote before (h.0 ++ rest) (ap (λ z. z ++ rest) h.1) refl in
    let q = open_name_is h.0 h.2 h.3 in (p.0 ∙ q.0, p.1 ∙ q.1 ∙ ap length (sym h.1))
token_is before text rest Wrong (number_behind_word r e) = grind (arith, digits_are before r)
token_is before text rest Wrong (word_behind_number r e) = grind (arith, letters_are before r)
token_is before text rest Wrong (stray b x s) =
    let p = at_punctuation before b rest (ap (λ z. z ++ rest) x) s.no_digit s.no_letter (ne_eqb b 34 s.no_quote) in
    (search (rules, s.no_comma, s.no_semicolon))

-- ## The whole text

token_begins : (before text rest : List ℕ) (t : Sign) → IsToken before t text rest →
    (b : ℕ) × (bs : List ℕ) × (text ≡ b ∷ bs) × (is_blank b ≡ true → ⊥)
token_begins before text rest t h = search (rules, run_begins, not_both, digit_no_blank, letter_no_blank)

pub tokens_differ : TokensDiffer (λ b. is_blank b ≡ true) IsToken
tokens_differ = search (rules, token_begins, token_is, same_split)

all_blank : (w : List ℕ) → drop (prefix_len is_blank w) w ≡ [] → AllOf is_blank w
all_blank w e = subst (AllOf is_blank) (grind (arith, take-append-drop))
    (subst (AllOf is_blank) (sym (append-nil (take (prefix_len is_blank w) w))) (run_all is_blank w))

abbrev IsLexed : List ℕ → List ℕ → Type 0
IsLexed before w = TokensFrom (λ b. is_blank b ≡ true) IsToken before w (lex 0 before w)

-- the tokens of a text are its first token and the tokens that the lexer produces after it
step : (before w : List ℕ) → ((before' w' : List ℕ) → length w' < length w → IsLexed before' w') → IsLexed before w
step before w ih = go (drop n w) refl
  where
    n : ℕ
    n = prefix_len is_blank w

    front : List ℕ
    front = before ++ take n w

    go : (rest : List ℕ) → drop n w ≡ rest → IsLexed before w
    go [] e = grind (arith, lex-blanks before w, lex-end front, all_blank w e)
    go (b ∷ bs) e =
        subst (TokensFrom (λ b. is_blank b ≡ true) IsToken before w)
        (sym (lex-blanks before w ∙ ap (lex 0 front) e ∙ lex-first front (b ∷ bs) zero_blanks (omega arith)))
        (next, later)
      where
        s : ℕ
        s = first_size (b ∷ bs)

        zero_blanks : prefix_len is_blank (b ∷ bs) ≡ 0
        zero_blanks = ap (prefix_len is_blank) (sym e) ∙ prefix_len-behind is_blank w

        next : NextToken (λ b. is_blank b ≡ true) IsToken before w
            (record { sign = first_sign front (b ∷ bs); start = length front })
        next = grind (
          arith,
          take-append-drop n w,
          take-append-drop s (b ∷ bs),
          run_all is_blank w,
          found front b bs (subst (StopsBefore is_blank) e (run_ends is_blank w)),
        )

        shorter_rest : length (drop s (b ∷ bs)) < length w
        shorter_rest = grind (arith, length-drop s (b ∷ bs), length-drop n w, first_size-positive b bs)

        later : IsLexed (front ++ take s (b ∷ bs)) (drop s (b ∷ bs))
        later = ih (front ++ take s (b ∷ bs)) (drop s (b ∷ bs)) shorter_rest

lexed : (k : ℕ) (before w : List ℕ) → length w < k → IsLexed before w
lexed zero before w l = absurd (omega (arith, l))
lexed (suc k) before w l = step before w (λ before' w' m. lexed k before' w' (omega (arith, l, m)))

-- the lexer produces the tokens of a text, and a text has no other tokens
pub tokens_found : (text : List ℕ) → AreGameTokens text (stream_of text)
tokens_found text = (lexed (suc (length text)) [] text (omega arith), refl)

-- any list that meets the specification of a text's tokens (`AreGameTokens`) equals the list that the lexer produces
pub only_tokens : (text : List ℕ) (s : Stream Sign) → AreGameTokens text s → s ≡ stream_of text
only_tokens text s h = search (rules, has_one_tokenisation, tokens_differ, tokens_found)
