-- Lemmas for the functions that parse the symbol table and the comment, including the cases in which they fail.
-- - `AtLetter`: the parser has just read a letter that begins a symbol (`i`, `l` or `o`)
-- - `past_letter`, `past_number`, `past_space`, `past_name`: what is still to be parsed of a symbol's line after each
--   of its parts
use Rattle.std.proofs.Common.{◌≡◌, ◌≢◌, ℕ, zero, suc, ◌+◌, ◌^◌, ◌<◌, true, false, List, [], ◌∷◌, ◌++◌, length, map, set}
use Rattle.std.proofs.Common.{Option, None, Some, Vec, refl, sym, ap, subst, inl, inr, ◌∙◌, arith, rules}
use Rattle.std.specs.Prelude.{slice_get, All}
use Rattle.std.specs.Global.{Global}
use Rattle.std.specs.Option.{option_map}
use Rattle.std.proofs.lemmas.Bool.{eqb-true, or_cases}
use Rattle.std.proofs.lemmas.List.{append-nil, length-map, map-set}
use Rattle.std.proofs.lemmas.Option.{slice_get_within}
use Rattle.ps_text.specs.Answers.{Piece, Stream, Found, signs, first_of, next_of}
use Rattle.ps_text.specs.Parts.{StopsAt, times, many}
use Rattle.ps_text.specs.Readers.{tail, Reads, Stops, Carries}
use Rattle.ps_text.specs.Digits.{decimal_value}
use Rattle.ps_text.specs.Runs.{AllOf}
use Rattle.ps_text.proofs.Combinators.Simple.{none_is_some, laws_give}
use Rattle.ps_text.proofs.Combinators.Laws.{Laws, Nothing}
use Rattle.ps_text.proofs.Combinators.Covered.{Avoids, Enters, enters_one, enters_then}
use Rattle.ps_text.proofs.ParsedAnswers.Exits.{reads_next, stops_bad, reads_give, reads_then}
use Rattle.ps_text.proofs.ParsedAnswers.Branches.{reads_as, left_entered, right_otherwise, many_ends, many_fails}
use Rattle.ps_text.proofs.ParsedAnswers.Branches.{carries_many}
use Rattle.ps_text.proofs.ParsedAnswers.Branches.{reads_shrinks}
use Rattle.ps_circuit.specs.declared.number.Number.{Number}
use Rattle.ps_circuit.specs.declared.fault.AigCause.{AigCause}
use Rattle.ps_circuit.specs.declared.fault.AigCause.TheVariants.{Syntax}
use Rattle.ps_circuit.specs.Causes.{AigFault}
use Rattle.ps_text.specs.declared.faults.Fault.TheVariants.{Text}
use Rattle.ps_circuit.specs.Drafts.{name_bytes}
use Rattle.ps_text.specs.Bytes.{Seen, pieces_at, is_digit, is_inner, byte}
use Rattle.ps_circuit.specs.Signs.{aig_causes, rest_of_line, newline}
use Rattle.ps_text.specs.Cursors.{next_byte, stream_offset, Passes, IsAhead}
use Rattle.ps_text.specs.Faults.{found_of}
use Rattle.ps_circuit.specs.Inner.Cursors.{NumberIs}
use Rattle.ps_circuit.specs.Texts.{Kind, NamesData, names_of, put_names, add_name, take_kind, IsBadSymbol, symbol_line}
use Rattle.ps_circuit.specs.Texts.{anything, comment}
use Rattle.ps_circuit.specs.Inner.Names.{is_kind}
use Rattle.ps_circuit.proofs.ReadCircuits.CircuitParts.{Odd, Left}
use Rattle.ps_circuit.proofs.ReadCircuits.Judges.{syntax_least, Digits, bad_symbol}
use Rattle.ps_text.proofs.BytesAndDigits.Bytes.Pieces.{bytes_at}
use Rattle.ps_text.proofs.BytesAndDigits.Bytes.Single.{stops_here, byte_taken, next_is, byte_reads}
use Rattle.ps_text.proofs.BytesAndDigits.Bytes.Lefts.{unread, past, stops_at, reads_last}
use Rattle.ps_circuit.proofs.ReadCircuits.CircuitTextLaws.{letter, symbol_number, symbol_space, symbol_name, symbol_end}
use Rattle.ps_circuit.proofs.ReadCircuits.CircuitTextLaws.{chain_letter}
use Rattle.ps_circuit.proofs.ReadCircuits.CircuitTextLaws.{chain_number, chain_space, chain_name, laws_symbol_line}
use Rattle.ps_circuit.proofs.ReadCircuits.CircuitTextLaws.{chain_c_line}
use Rattle.ps_circuit.proofs.ReadCircuits.CircuitTextLaws.{any_sign}
use Rattle.ps_circuit.proofs.ReadCircuits.SignLaws.{AtKind}
use Rattle.ps_circuit.proofs.ReadCircuits.NumberLemmas.{number_any}

-- the list `behind` of the next byte has the bytes that follow this byte in the text
behind_is : {old new : Stream Seen} {t : Seen} (at : ℕ) {bytes : List ℕ} → IsAhead old → next_of old ≡ Some t →
    new ≡ tail old → new.pieces ≡ pieces_at at bytes → t.behind ≡ bytes
behind_is {old} {t} at {bytes} x n e k = go x.1 x.2
  where
    go : (all : List ℕ) → old.pieces ≡ pieces_at x.0 all → t.behind ≡ bytes
    go [] y = absurd (none_is_some t (sym (ap (λ ps. first_of (signs ps)) y) ∙ n))
    go (b ∷ rest) y = grind (arith, bytes_at (x.0 + 1) rest, bytes_at at bytes)

-- ## A line

pub record AtLetter (all : NamesData) (kind : Kind) (names : List (Option (Vec ℕ Global))) (t : Seen)
    (old s1 : Stream Seen) : Type 0 where
  pub same : names_of all kind ≡ map name_bytes names
  pub next : next_of old ≡ Some t
  pub is : take_kind t ≡ Some kind
  pub ahead : IsAhead old
  pub moved : s1 ≡ tail old

pub at_letter : (all : NamesData) (kind : Kind) (names : List (Option (Vec ℕ Global))) (t : Seen)
    {old s1 : Stream Seen} → names_of all kind ≡ map name_bytes names → next_of old ≡ Some t →
    take_kind t ≡ Some kind → IsAhead old → s1 ≡ tail old → AtLetter all kind names t old s1
at_letter all kind names t same next is ahead moved = search rules

module _ {all : NamesData} {kind : Kind} {names : List (Option (Vec ℕ Global))} {t : Seen} {old s1 : Stream Seen}
    (a : AtLetter all kind names t old s1) where
  -- the digits that were read are the longest run of digits after the symbol's letter
  seen_digits : {s2 : Stream Seen} {run : List ℕ} → Passes is_digit s1 s2 run → Digits t run
  seen_digits x = grind (arith, behind_is x.at a.ahead a.next a.moved x.old_is)

  past_letter : ((f : AigCause) → IsBadSymbol all t f → ⊥) → Left (symbol_line all) old (symbol_number all kind) s1
  unfolding symbol_line
  past_letter good = past (chain_letter all) unread (search (rules, reads_next))

  pub past_no_number : (s2 : Stream Seen) → Passes is_digit s1 s2 [] →
      Left (symbol_line all) old (symbol_number all kind) s1
  past_no_number s2 x = past_letter (λ f b. omega (arith, (bad_symbol a.is (seen_digits x) b).0))

  pub letter_stops : {s2 : Stream Seen} {n : Number} {e : AigFault} → NumberIs s1 s2 n → length names < 2 ^ 64 →
      (slice_get (map name_bytes names) n.value ≡ Some None → ⊥) → e ≡ Text Syntax (stream_offset old) →
      Stops aig_causes (symbol_line all) old (found_of e)
  unfolding symbol_line
  letter_stops {e = e} x small taken is =
      let d = seen_digits x.passes in
      stops_at (chain_letter all) unread (found_of e) (stops_bad aig_causes take_kind (IsBadSymbol all) old t Syntax
      (found_of e) a.next (grind (arith, length-map, slice_get_within)) (λ g b. syntax_least g) (ap found_of is))

  module _ {s2 : Stream Seen} {n : Number} (x : NumberIs s1 s2 n) (small : length names < 2 ^ 64)
      (free : slice_get (map name_bytes names) n.value ≡ Some None) where
    within : n.value < length names
    within = search (rules, length-map, slice_get_within)

    abbrev k : Number
    k = (number_any x).0

    pub past_number : Left (symbol_line all) old (symbol_space all kind k) s2
    past_number =
        let value : decimal_value x.run ≡ n.value = omega (arith, x.value, within) in
        past (chain_number all kind) (past_letter (λ f b. (bad_symbol a.is (seen_digits x.passes) b).1
        (rw (value, a.same) free))) (number_any x).2

    module _ {s3 : Stream Seen} (m : Reads {F = AigCause} (byte 32) s2 tt s3) where
      pub past_space : Left (symbol_line all) old (symbol_name all kind k) s3
      past_space = past (chain_space all kind k) past_number m

      module _ {s4 : Stream Seen} {name : List ℕ} (r : Reads rest_of_line s3 name s4) where
        pub past_name : Left (symbol_line all) old (symbol_end all kind k name) s4
        past_name = past (chain_name all kind k) past_space r

        -- one more name is parsed, and set at its index in the list of names of the inputs, latches or outputs
        pub symbol_reads : {s5 : Stream Seen} {after : List (Option (Vec ℕ Global))} (v : Vec ℕ Global) →
            Reads newline s4 tt s5 → after ≡ set names n.value (Some v) → v.items ≡ name →
            Reads (symbol_line all) old (put_names all kind (map name_bytes after)) s5
        symbol_reads v l e f =
            let value : n.value ≡ k.value = omega (arith, (number_any x).1, within) in
            reads_last (λ _. add_name all kind k.value name) past_name l (search (rules, map-set))

-- ## Which line follows

letter_at : (t : Seen) → AtKind t → (is_kind (Some t.byte) ≡ true) × (kind : Kind) × (take_kind t ≡ Some kind)
letter_at t h = search rules

kind_byte : (t : Seen) → is_kind (Some t.byte) ≡ true → AtKind t
kind_byte t e = search (rules, or_cases, AtKind, eqb-true)

no_kind : (s : Stream Seen) → is_kind (next_byte s) ≡ false → Avoids AtKind (next_of s)
no_kind s e t n h = search (rules, letter_at)

enters_symbol : (names : NamesData) (s : Stream Seen) → is_kind (next_byte s) ≡ true →
    Enters (symbol_line names) (next_of s)
unfolding symbol_line
enters_symbol names s e = enters_then (letter names) (symbol_number names) (chain_letter names).joint (next_of s)
    (go (next_of s) e)
  where
    go : (o : Option Seen) → is_kind (option_map (λ (x : Seen). x.byte) o) ≡ true → Enters (letter names) o
    go None h = absurd cc
    go (Some t) h =
        let k = letter_at t (kind_byte t h) in enters_one take_kind (IsBadSymbol names) t (inl (k.1, k.2))

pub symbol_laws : (names : NamesData) → Laws Odd (symbol_line names) AtKind Nothing ⊥
symbol_laws names = (laws_symbol_line names).laws

pub names_fail : (names : NamesData) (s : Stream Seen) (o : Option (Found AigCause)) → is_kind (next_byte s) ≡ true →
    Stops aig_causes (symbol_line names) s o → Stops aig_causes (many symbol_line names) s o
names_fail names s o e m =
    many_fails symbol_line symbol_laws (λ t x y. x) aig_causes names s o (enters_symbol names s e) m

pub names_end : {names : NamesData} {s : Stream Seen} → is_kind (next_byte s) ≡ false →
    Reads (many symbol_line names) s names s
names_end {names} {s} e = many_ends symbol_line symbol_laws (λ t x y. x) names s (no_kind s e)

pub names_next : (first names : NamesData) {after : NamesData} (start : Stream Seen) {s new : Stream Seen} →
    Carries aig_causes (many symbol_line first) start (many symbol_line names) s → Reads (symbol_line names) s after new
    → Carries aig_causes (many symbol_line first) start (many symbol_line after) new
names_next first names {after} start c m =
    carries_many symbol_line symbol_laws (λ t x y. x) aig_causes {c = names} {d = after} c m

pub symbol_shrinks : (names : NamesData) {after : NamesData} {s new : Stream Seen} →
    Reads (symbol_line names) s after new → length new.pieces < length s.pieces
symbol_shrinks names m = reads_shrinks (λ w h. (symbol_laws names).null w h) m

pub symbol_refused : (names : NamesData) (s : Stream Seen) {e : AigFault} → (next_byte s ≡ Some 105 → ⊥) →
    (next_byte s ≡ Some 108 → ⊥) → (next_byte s ≡ Some 111 → ⊥) → e ≡ Text Syntax (stream_offset s)
    → Stops aig_causes (symbol_line names) s (found_of e)
symbol_refused names s i l o is = grind (arith, stops_here, symbol_laws)

-- if the next byte is i, l or o, it begins a line of the symbol table for an input, a latch or an output
pub letter_is : (s : Stream Seen) {b : ℕ} {kind : Kind} → next_byte s ≡ Some b →
    take_kind (record { byte = b; at = 0; behind = [] }) ≡ Some kind →
    (t : Seen) × (next_of s ≡ Some t) × (take_kind t ≡ Some kind)
letter_is s e h = let t = next_is (next_of s) e in (t.0, t.1, rw t.2 h)

-- a name consists of bytes other than newlines
pub all_plain : (xs : List ℕ) → AllOf is_inner xs → All (λ b. b ≢ 10) xs
all_plain [] h k d lt = absurd (omega arith)
all_plain (x ∷ xs) h zero d lt = λ e. let y : is_inner 10 ≡ true = ap is_inner (sym e) ∙ h.0 in cc
all_plain (x ∷ xs) h (suc k) d lt = all_plain xs h.1 k d (omega arith)

pub plain_name : {old new : Stream Seen} {name : List ℕ} → Reads rest_of_line old name new →
    (0 < length name) × All (λ b. b ≢ 10) name
unfolding rest_of_line
plain_name m = search (rules, length-map, all_plain)

-- ## The comment

pub comment_other : {s : Stream Seen} → (next_byte s ≡ Some 99 → ⊥) → Reads comment s tt s
unfolding comment
comment_other {s} none = reads_as (right_otherwise chain_c_line.whole.laws (laws_give Odd tt) (next_of s)
    (λ t n h. none (ap (option_map (λ (x : Seen). x.byte)) n ∙ ap Some h)) (λ z. z)) (reads_give s tt)

pub comment_none : {s : Stream Seen} → next_byte s ≡ None → Reads comment s tt s × (s.pieces ≡ [])
comment_none {s} e = (comment_other (λ h. none_is_some 99 (sym e ∙ h)), nothing_left s.pieces e)
  where
    nothing_left : (ps : List (Piece Seen)) → option_map (λ (x : Seen). x.byte) (first_of (signs ps)) ≡ None → ps ≡ []
    nothing_left [] e = refl
    nothing_left (p ∷ ps) e = absurd cc

any_text : (all : List Seen) → (times (length all) any_sign tt).IsText all tt
any_text [] = (refl, refl)
any_text (s ∷ all) =
    record { left = s ∷ []; right = all; value = tt; split = refl; is_left = (s, refl, refl); is_right = any_text all }

no_any_cause : (n : ℕ) (front : List Seen) (t : Seen) (f : AigCause) → (times n any_sign tt).IsCause front t f → ⊥
no_any_cause zero front t f c = c
no_any_cause (suc n) front t f (inl c) = c.1
no_any_cause (suc n) front t f (inr c) = no_any_cause n c.right t f c.is_cause

pub anything_reads : {s new : Stream Seen} → new.pieces ≡ [] → new.end ≡ s.end → Reads anything s tt new
unfolding anything
anything_reads {s} e end = (
  record { taken = s.pieces; split = sym (append-nil s.pieces) ∙ ap (λ x. s.pieces ++ x) (sym e); end = end },
  record {
    text = signs s.pieces;
    split = sym (append-nil (signs s.pieces)) ∙ ap (λ x. signs s.pieces ++ signs x) (sym e);
    is_text = (length (signs s.pieces), any_text (signs s.pieces));
    stops = subst (λ ps. StopsAt (many any_sign tt) (signs s.pieces) (first_of (signs ps))) (sym e) tt;
    clean = λ front rest t f k l c. no_any_cause c.0 front t f c.1;
  },
)

pub comment_reads : {s new : Stream Seen} → next_byte s ≡ Some 99 → new.pieces ≡ [] → new.end ≡ s.end →
    Reads comment s tt new × (new.pieces ≡ [])
unfolding comment byte
comment_reads {s} e left end =
    let t = next_is (next_of s) e in
    let first : Enters (byte 99) (next_of s) = search (rules, Enters, enters_one, byte_taken) in (
      reads_as (left_entered chain_c_line.whole.laws (laws_give Odd tt) (next_of s) (λ t h k. k)
          (enters_then (byte 99) (λ _. anything) chain_c_line.joint (next_of s) first))
          (reads_then chain_c_line.joint (byte_reads e refl) (anything_reads left end)),
      left,
    )
