-- Lemmas about how the first byte of the next token, and the byte before it, determine the token's kind.
use Rattle.std.proofs.Common.{◌≡◌, ℕ, ◌+◌, Bool, true, false, eqb, List, [], ◌∷◌, take, drop, Option, Some, None, refl}
use Rattle.std.proofs.Common.{cond, sym, ap, ◌∙◌, rules}
use Rattle.std.proofs.lemmas.List.{drop-drop}
use Rattle.std.proofs.lemmas.Bool.{cases_Bool, eqb-true}
use Rattle.std.specs.Prelude.{not, ◌&&◌}
use Rattle.std.specs.List.{prefix_len}
use Rattle.ps_text.specs.Answers.{next_of, first_of, signs}
use Rattle.ps_text.specs.Bytes.{is_blank, is_digit, is_letter}
use Rattle.ps_pgsolver.specs.Ends.{begins_in, ends_in}
use Rattle.ps_pgsolver.specs.Heads.{is_number, is_comma, name_of}
use Rattle.ps_pgsolver.specs.Lexer.{lex, first_sign, number_sign, word_sign, name_sign, punctuation_sign, is_closed}
use Rattle.ps_pgsolver.specs.Lexer.{stream_from}
use Rattle.ps_pgsolver.specs.Signs.{Sign, Number, Comma, Semicolon, Wrong}
use Rattle.ps_pgsolver.proofs.TokensOfGames.TokenLemmas.{stream_from-blanks, prefix_len-behind, lex-first, lex-end}

-- the token with which a text begins, if the text is not empty
abbrev pub head_sign : List ℕ → List ℕ → Option Sign
head_sign before [] = None
head_sign before (b ∷ bs) = Some (first_sign before (b ∷ bs))

first_of_lex : (before rest : List ℕ) → prefix_len is_blank rest ≡ 0 →
    first_of (signs (lex 0 before rest)) ≡ head_sign before rest
first_of_lex before rest h = search (rules, lex-end, lex-first)

pub next_sign : (text : List ℕ) {before rest : List ℕ} (at : ℕ) {start : ℕ} → start ≡ at + prefix_len is_blank (drop
    at text) → before ≡ take start text → rest ≡ drop start text → next_of (stream_from text at) ≡ head_sign before rest
next_sign text {before} at {start} begins front back = let none : prefix_len is_blank (drop start text) ≡ 0 =
    rw (begins, ← drop-drop (prefix_len is_blank (drop at text)) at text) (prefix_len-behind is_blank (drop at text)) in
    search (rules, stream_from-blanks, first_of_lex)

-- ## What the first byte determines about the token

sign_digit : (before : List ℕ) (b : ℕ) (bs : List ℕ) → is_digit b ≡ true →
    first_sign before (b ∷ bs) ≡ number_sign before (b ∷ bs)
unfolding first_sign
sign_digit before b bs d = rw d refl

sign_letter : (before : List ℕ) (b : ℕ) (bs : List ℕ) → is_digit b ≡ false → is_letter b ≡ true →
    first_sign before (b ∷ bs) ≡ word_sign before (b ∷ bs)
unfolding first_sign
sign_letter before b bs d l = rw (d, l) refl

sign_quote : (before : List ℕ) (b : ℕ) (bs : List ℕ) → is_digit b ≡ false → is_letter b ≡ false → eqb b 34 ≡ true →
    first_sign before (b ∷ bs) ≡ name_sign bs
unfolding first_sign
sign_quote before b bs d l q = rw (d, l, q) refl

sign_punctuation : (before : List ℕ) (b : ℕ) (bs : List ℕ) → is_digit b ≡ false → is_letter b ≡ false →
    eqb b 34 ≡ false →
    first_sign before (b ∷ bs) ≡ punctuation_sign b
unfolding first_sign
sign_punctuation before b bs d l q = rw (d, l, q) refl

-- a property holds for the first token if it holds in each case of the first byte: a digit, a letter, a quote, or any
-- other byte
by_class : (P : Sign → Type 0) (before : List ℕ) (b : ℕ) (bs : List ℕ) →
    (is_digit b ≡ true → P (number_sign before (b ∷ bs))) →
    (is_digit b ≡ false → is_letter b ≡ true → P (word_sign before (b ∷ bs))) → (is_digit b ≡ false → eqb b 34 ≡ true →
    P (name_sign bs)) → (is_digit b ≡ false → eqb b 34 ≡ false → P (punctuation_sign b)) →
    P (first_sign before (b ∷ bs))
by_class P before b bs number word name punctuation =
    search (rules, sign_digit, sign_letter, sign_quote, sign_punctuation, cases_Bool)

-- if a function has the same value for two tokens, it has that value for whichever of the two a test selects
of_both : {X : Type 0} {x : X} {a b : Sign} (f : Sign → X) (t : Bool) → f a ≡ x → f b ≡ x → f (cond t a b) ≡ x
of_both f t h k = search rules

of_marks : {X : Type 0} {x : X} (f : Sign → X) (b : ℕ) → f Comma ≡ x → f Semicolon ≡ x → f Wrong ≡ x →
    f (punctuation_sign b) ≡ x
of_marks f b p q r = of_both f (eqb b 44) p (of_both f (eqb b 59) q r)

number_number : (t : Bool) (n : ℕ) → is_number (Some (cond t Wrong (Number n))) ≡ not t
number_number t n = search rules

punctuation_comma : (s t : Bool) → is_comma (Some (cond s Comma (cond t Semicolon Wrong))) ≡ s
punctuation_comma s t = search (rules, of_both)

-- the next token is a number exactly if the next byte is a digit and the byte before it is not a letter
pub at_number : (before rest : List ℕ) →
    is_number (head_sign before rest) ≡ begins_in is_digit rest && not (ends_in is_letter before)
at_number before [] = refl
at_number before (b ∷ bs) = by_class (λ sign. is_number (Some sign) ≡ is_digit b && not (ends_in is_letter before))
    before b bs (λ d. number_number (ends_in is_letter before) _ ∙ other d) (λ d l. search (rules, of_both, is, other))
    (λ d q. of_both is (is_closed bs) refl refl ∙ other d) (λ d q. of_marks is b refl refl refl ∙ other d)
  where
    is : Sign → Bool
    is sign = is_number (Some sign)

    other : {t : Bool} → is_digit b ≡ t → (t && not (ends_in is_letter before)) ≡ (is_digit b && not
        (ends_in is_letter before))
    other d = sym (ap (λ t. t && not (ends_in is_letter before)) d)

no_comma_where : (b : ℕ) (p : ℕ → Bool) → p 44 ≡ false → p b ≡ true → eqb b 44 ≡ false
no_comma_where b p fails passes = search (rules, eqb-true, cases_Bool)

-- the next token is a comma exactly if the next byte is a comma
pub at_comma : (before rest : List ℕ) → is_comma (head_sign before rest) ≡ begins_in (λ b. eqb b 44) rest
at_comma before [] = refl
at_comma before (b ∷ bs) = by_class (λ sign. is_comma (Some sign) ≡ eqb b 44) before b bs
    (λ d. of_both is (ends_in is_letter before) refl refl ∙ sym (no_comma_where b is_digit refl d))
    (λ d l. of_both is (ends_in is_digit before) refl refl ∙ sym (no_comma_where b is_letter refl l))
    (λ d q. search (rules, of_both, is, no_comma_where)) (λ d q. punctuation_comma (eqb b 44) (eqb b 59))
  where
    is : Sign → Bool
    is sign = is_comma (Some sign)

-- the next token is not a name if the next byte is not a quote
pub at_no_name : (before rest : List ℕ) → begins_in (λ b. eqb b 34) rest ≡ false →
    name_of (head_sign before rest) ≡ None
at_no_name before [] none = refl
at_no_name before (b ∷ bs) none = by_class (λ sign. name_of (Some sign) ≡ None) before b bs
    (λ d. search (rules, of_both)) (λ d l. search (rules, of_both)) (λ d q. let x : true ≡ false = sym q ∙ none in cc)
    (λ d q. of_marks (λ sign. name_of (Some sign)) b refl refl refl)
