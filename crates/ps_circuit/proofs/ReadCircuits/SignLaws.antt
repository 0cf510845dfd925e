-- The smallest parts of the AIGER grammar obey the grammar laws of the crate `ps_text`: single bytes, sets of bytes,
-- words, numbers, gaps and ends of lines.
-- - `Separates`: the byte is a space, a tab or a newline, which ends a number
-- - `AtBody`, `AtTail`: the byte can be the first after the header, or the first after the lines of numbers
-- - `numbers`, `optional`: the grammar laws of the crate `ps_text` for a number, or an optional field, and the text
--   after it
use Rattle.std.proofs.Common.{◌≡◌, ℕ, ◌⊎◌, Bool, true, false, refl, sym, ap, inl, inr, ◌∙◌, rules}
use Rattle.std.proofs.lemmas.Bool.{eqb-true}
use Rattle.ps_text.specs.Parts.{give, then_by, either, mapped}
use Rattle.ps_text.specs.Digits.{decimal_value}
use Rattle.ps_text.proofs.ParsedAnswers.Decisions.{judge_none}
use Rattle.ps_text.proofs.Combinators.Laws.{Nothing, Apart}
use Rattle.ps_circuit.specs.declared.number.Number.{Number}
use Rattle.ps_circuit.specs.declared.fault.AigCause.{AigCause}
use Rattle.ps_circuit.specs.Causes.{cause_number}
use Rattle.ps_text.specs.Bytes.{Seen, is_digit, is_space, is_inner, NoBadRun}
use Rattle.ps_circuit.specs.Signs.{Field, number_at, number, gap, rest_of_line, newline, line_end, more, by_more}
use Rattle.ps_text.proofs.BytesAndDigits.Bytes.Single.{At}
use Rattle.ps_text.proofs.BytesAndDigits.Bytes.Lawful.{byte_of, larger, chained, next, given, mapped_by, either_of}
use Rattle.ps_text.proofs.BytesAndDigits.Bytes.Lawful.{or_nothing, run_by}
use Rattle.ps_circuit.proofs.ReadCircuits.CircuitParts.{Lawful, Chain, Judges}

-- ## Sets of bytes

abbrev pub AtDigit : Seen → Type 0
AtDigit s = is_digit s.byte ≡ true

abbrev pub AtSpace : Seen → Type 0
AtSpace s = is_space s.byte ≡ true

abbrev pub AtInner : Seen → Type 0
AtInner s = is_inner s.byte ≡ true

abbrev pub Separates : Seen → Type 0
Separates s = AtSpace s ⊎ At 10 s

-- the byte is i, l or o, the letter with which a line of the symbol table begins
abbrev pub AtKind : Seen → Type 0
AtKind s = At 105 s ⊎ At 108 s ⊎ At 111 s

abbrev pub AtTail : Seen → Type 0
AtTail s = AtKind s ⊎ At 99 s

abbrev pub AtBody : Seen → Type 0
AtBody s = AtDigit s ⊎ AtTail s

-- a byte that passes a test is not equal to a byte that fails the test
test_at : (p : ℕ → Bool) {b : ℕ} (t : Seen) → t.byte ≡ b → p t.byte ≡ true → p b ≡ false → ⊥
test_at p {b} t e h k = let g : p b ≡ true = ap p (sym e) ∙ h in cc

pub space_newline : Apart AtSpace (At 10)
space_newline t h e = test_at is_space t e h refl

pub inner_newline : Apart AtInner (At 10)
inner_newline t h e = test_at is_inner t e h refl

space_is : (t : Seen) → AtSpace t → (t.byte ≡ 32) ⊎ (t.byte ≡ 9)
space_is t h = search (rules, eqb-true)

pub space_digit : Apart AtSpace AtDigit
space_digit t h d = search (rules, space_is, test_at)

pub digit_separates : Apart AtDigit Separates
digit_separates = search (rules, space_digit, test_at)

pub separates_digit : Apart Separates AtDigit
separates_digit t h d = digit_separates t d h

pub digit_space : Apart AtDigit (At 32)
digit_space t d e = test_at is_digit t e d refl

tail_space : (t : Seen) → AtTail t → AtSpace t → ⊥
tail_space t h k = search (rules, test_at)

tail_newline : (t : Seen) → AtTail t → At 10 t → ⊥
tail_newline t h k = search rules

pub separates_body : Apart Separates AtBody
separates_body = search (rules, separates_digit, tail_space, tail_newline)

pub kind_comment : Apart AtKind (At 99)
kind_comment = search rules

-- ## Numbers, gaps and ends of lines

pub laws_number : {Wrong : ℕ → AigCause → Type 0} → Judges Wrong → Lawful (number Wrong) AtDigit AtDigit ⊥
unfolding number
laws_number {Wrong} judge = run_by is_digit number_at (λ digits f. Wrong (decimal_value digits) f) 48 refl
    (λ digits. judge (decimal_value digits))

pub laws_gap : Lawful gap AtSpace AtSpace ⊥
unfolding gap
laws_gap = run_by is_space (λ at bytes. tt) NoBadRun 32 refl (λ bytes. judge_none cause_number)

pub laws_rest : Lawful rest_of_line AtInner AtInner ⊥
unfolding rest_of_line
laws_rest = run_by is_inner (λ at bytes. bytes) NoBadRun 32 refl (λ bytes. judge_none cause_number)

pub laws_newline : Lawful newline (At 10) Nothing ⊥
unfolding newline
laws_newline = byte_of 10

pub chain_line_end : Chain (either gap (give tt)) (λ _. newline) Separates Separates ⊥
chain_line_end = chained (or_nothing {More = AtSpace} tt laws_gap (λ t h. h) (λ t h. h)) (λ _. laws_newline)
    space_newline (λ t h. inl h) (λ t h. inr h.1) (λ t h. absurd h) (λ t h. absurd h.0) (λ n. n.1)

pub laws_line_end : Lawful line_end Separates Separates ⊥
unfolding line_end
laws_line_end = chain_line_end.whole

abbrev pub ends_here : Field Bool
ends_here = mapped (λ _. false) newline

abbrev pub behind_gap : Field Bool
behind_gap = either ends_here (give true)

pub laws_ends_here : Lawful ends_here (At 10) Nothing ⊥
laws_ends_here = mapped_by (λ _. false) laws_newline

abbrev pub gap_more : Field Bool
gap_more = then_by gap (λ _. behind_gap)

pub chain_gap_more : Chain gap (λ _. behind_gap) AtSpace Separates ⊥
chain_gap_more = chained laws_gap (λ _. or_nothing {More = At 10} true laws_ends_here (λ t h. h) (λ t h. absurd h))
    space_newline (λ t h. h) (λ t h. absurd h.0) (λ t h. inr h) (λ t h. inl h.1) (λ n. n.0)

pub laws_more : Lawful more Separates Separates ⊥
unfolding more
laws_more = either_of laws_ends_here chain_gap_more.whole (λ t e h. space_newline t h e) (λ t h. inr h) (λ t h. inl h)
    (λ t h. absurd h) (λ t h. h) (λ t h. absurd h.0)

-- a number and what follows it obey the grammar laws of the crate `ps_text`
pub numbers : {B : Type 0} {Q : Number → Field B} {Wrong : ℕ → AigCause → Type 0} {More : Seen → Type 0} →
    Judges Wrong → ((n : Number) → Lawful (Q n) Separates More ⊥) → Chain (number Wrong) Q AtDigit More ⊥
numbers judge q = next (laws_number judge) q digit_separates

-- an optional last field of a line, with a value that stands for a missing field, obeys the grammar laws of the crate
-- `ps_text`
pub optional : {V : Type 0} {P : Field V} → Lawful P AtDigit Separates ⊥ → (v : V) →
    Chain more (by_more P (give v)) Separates Separates ⊥
optional {P = P} l v = chained laws_more by (λ t h d. digit_separates t d h) (λ t h. h) (λ t h. absurd h.0) (λ t h. h)
    (λ t h. h.1) (λ n. n.0)
  where
    by : (comes : Bool) → Lawful (by_more P (give v) comes) AtDigit Separates (Unit {0})
    by true = larger l (λ t h. h) (λ t h. h) (λ n. tt)
    by false = larger (given v) (λ t h. absurd h) (λ t h. absurd h) (λ n. n)
