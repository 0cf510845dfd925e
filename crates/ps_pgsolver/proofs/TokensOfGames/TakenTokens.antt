-- Lemmas about tokens that the lexer reads without building a value of type `Token`: numbers with few digits, commas
-- and semicolons.
use Rattle.std.proofs.Common.{◌≡◌, ℕ, ◌+◌, ◌<◌, ◌≤◌, true, false, eqb, List, [], ◌∷◌, length, take, drop, Some, refl}
use Rattle.std.proofs.Common.{Bool, not, sym, ap, ◌∙◌, ⊎_elim, arith, rules}
use Rattle.std.specs.Prelude.{◌&&◌}
use Rattle.std.proofs.lemmas.Bool.{and_parts, cases_Bool, eqb-true}
use Rattle.std.proofs.lemmas.List.{length-drop}
use Rattle.std.proofs.lemmas.List.Sums.{prefix_len-le-length}
use Rattle.std.specs.List.{prefix_len, take_while}
use Rattle.ps_text.specs.Answers.{Stream, next_of, offset_of}
use Rattle.ps_text.specs.Digits.{decimal_value}
use Rattle.ps_text.specs.Readers.{tail}
use Rattle.ps_text.specs.Bytes.{is_blank, is_digit, is_letter}
use Rattle.ps_pgsolver.specs.Ends.{begins_in, ends_in}
use Rattle.ps_pgsolver.specs.Heads.{HasNoShortNumber, is_number, sign_of}
use Rattle.ps_pgsolver.specs.Lexer.{first_sign, first_size, stream_from}
use Rattle.ps_pgsolver.specs.Signs.{Sign, Number, Comma, Semicolon}
use Rattle.ps_pgsolver.specs.declared.token.Kind.{Kind}
use Rattle.ps_pgsolver.specs.declared.token.Kind.TheVariants as kinds
use Rattle.ps_pgsolver.proofs.TokensOfGames.NextSigns.{at_number, next_sign}
use Rattle.ps_pgsolver.proofs.TokensOfGames.TokenLemmas.{at_digit, at_punctuation, offset_ahead, reads_split}

-- `sign` is the first token of the text `rest`, which follows the bytes `before`, and `size` is the token's length in
-- bytes
pub record Begins (before rest : List ℕ) (sign : Sign) (size : ℕ) : Type 0 where
  pub some : 0 < length rest
  pub is : sign ≡ first_sign before rest
  pub sized : size ≡ first_size rest

pub begins_number : {before : List ℕ} (rest : List ℕ) {value digits : ℕ} →
    value ≡ decimal_value (take_while is_digit rest) → digits ≡ prefix_len is_digit rest →
    0 < digits → ends_in is_letter before ≡ false → Begins before rest (Number value) digits
begins_number [] v d some apart = absurd (omega (arith, d))
begins_number {before} (b ∷ bs) v d some apart = ⊎_elim (λ (yes : is_digit b ≡ true). grind (
  arith,
  at_digit before b bs refl yes,
)) (λ (other : is_digit b ≡ false). grind arith) (cases_Bool (is_digit b))

pub begins_comma : {before : List ℕ} (rest : List ℕ) → begins_in (λ b. eqb b 44) rest ≡ true →
    Begins before rest Comma 1
begins_comma [] e = let x : false ≡ true = e in cc
begins_comma {before} (b ∷ bs) e = grind (arith, at_punctuation before 44 bs refl refl refl refl, eqb-true b 44 e)

pub begins_semicolon : {before : List ℕ} (rest : List ℕ) → begins_in (λ b. eqb b 59) rest ≡ true →
    Begins before rest Semicolon 1
begins_semicolon [] e = let x : false ≡ true = e in cc
begins_semicolon {before} (b ∷ bs) e = grind (arith, at_punctuation before 59 bs refl refl refl refl, eqb-true b 59 e)

-- a text's next token begins at the offset `start`, behind the blanks that follow the offset `at`
pub record Starts (text : List ℕ) (at start : ℕ) : Type 0 where
  pub begins : start ≡ at + prefix_len is_blank (drop at text)
  pub within : start ≤ length text

pub starts_at : (text : List ℕ) (at start : ℕ) {stream : Stream Sign} → at ≤ length text →
    start ≡ offset_of stream.pieces stream.end → stream_from text at ≡ stream → Starts text at start
starts_at text at start {stream} inside offset is =
    let blanks = prefix_len is_blank (drop at text) in
    let within : at + blanks ≤ length text =
    omega (arith, prefix_len-le-length is_blank (drop at text), length-drop at text) in
    let begins : start ≡ at + blanks = offset ∙ ap (λ (s : Stream Sign). offset_of s.pieces s.end) (sym is)
    ∙ sym (offset_ahead text at {start = at + blanks} refl within) in
    record { begins = begins; within = rw begins within }

-- the next token is `sign`, and the later tokens are the tokens of the text from the offset `behind` on
pub record Leaves (text : List ℕ) (behind : ℕ) (sign : Sign) (stream : Stream Sign) : Type 0 where
  pub sign_is : next_of stream ≡ Some sign
  pub rest : stream_from text behind ≡ tail stream

pub leaves : (text before rest : List ℕ) (at start size : ℕ) (kind : Kind) (sign : Sign) (stream : Stream Sign) →
    start ≡ at + prefix_len is_blank (drop at text) → start ≤ length text → before ≡ take start text →
    rest ≡ drop start text → sign_of kind ≡ Some sign → Begins before rest sign size → stream_from text at ≡ stream →
    Leaves text (start + size) sign stream
leaves text before rest at start size kind sign stream begins within front back of begun is =
    let read = reads_split at begins within front back (λ empty. absurd (omega (arith, begun.some, ap length empty)))
    (λ _. of ∙ ap Some begun.is) begun.sized is in record { sign_is = sym read.head.sign ∙ of; rest = read.rest }

-- a text that begins with a digit has a run of digits
pub some_digit : (rest : List ℕ) → begins_in is_digit rest ≡ true → 0 < prefix_len is_digit rest
some_digit [] e = let x : false ≡ true = e in cc
some_digit (b ∷ bs) e = rw e (omega arith)

-- if the text has 18 digits where a number begins, the token behind the number begins 18 or more bytes later
pub none_short : (text before rest : List ℕ) (at start : ℕ) (stream : Stream Sign) → Starts text at start →
    before ≡ take start text → rest ≡ drop start text → stream_from text at ≡ stream →
    start ≡ offset_of stream.pieces stream.end →
    (begins_in is_digit rest ≡ true → ends_in is_letter before ≡ false → 18 ≤ prefix_len is_digit rest) →
    HasNoShortNumber stream
none_short text before rest at start stream starts front back is offset long = λ number.
    let digits = prefix_len is_digit rest in
    let there : (begins_in is_digit rest && not (ends_in is_letter before)) ≡ true =
    sym (at_number before rest) ∙ ap is_number (sym (next_sign text at starts.begins front back) ∙ ap next_of is)
    ∙ number in
    let apart : ends_in is_letter before ≡ false = not_true (and_parts _ _ there).1 in
    let many : 18 ≤ digits = long (and_parts _ _ there).0 apart in
    let value = decimal_value (take_while is_digit rest) in
    let left = leaves text before rest at start digits (kinds.Number value) (Number value) stream starts.begins
    starts.within front back refl (begins_number rest refl refl (omega (arith, many)) apart) is in
    let behind = start + digits in
    let room : behind ≤ length text = omega (
      arith,
      prefix_len-le-length is_digit rest,
      ap length back,
      length-drop start text,
      starts.within,
    ) in
    let blanks = prefix_len is_blank (drop behind text) in
    let next : behind + blanks ≡ offset_of (stream_from text behind).pieces (length text) =
    offset_ahead text behind refl (omega (
      arith,
      room,
      prefix_len-le-length is_blank (drop behind text),
      length-drop behind text,
    )) in
    omega (arith, many, offset, next ∙ ap (λ (s : Stream Sign). offset_of s.pieces s.end) left.rest)
  where
    not_true : {b : Bool} → not b ≡ true → b ≡ false
    not_true {b} e = search rules
