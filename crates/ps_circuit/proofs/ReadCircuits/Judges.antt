-- It is decidable which numbers and symbols of an AIGER text are errors.
use Rattle.std.proofs.Common.{◌≡◌, ℕ, suc, ◌+◌, ◌*◌, ◌^◌, ◌<◌, ◌≤◌, List, ◌++◌, length, slice_get, Option, None, Some}
use Rattle.std.proofs.Common.{refl, sym, ◌∙◌, rules}
use Rattle.std.proofs.lemmas.Bool.{cases_eq}
use Rattle.ps_text.specs.Digits.{decimal_value}
use Rattle.ps_text.specs.Runs.{AllOf, StopsBefore}
use Rattle.ps_text.proofs.ParsedAnswers.Outcomes.{Judged, good}
use Rattle.ps_text.proofs.ParsedAnswers.Decisions.{Decided, decide_as, decide_not, decide_both, decide_below, decide_in}
use Rattle.ps_text.proofs.ParsedAnswers.Decisions.{judge_none}
use Rattle.ps_text.proofs.ParsedAnswers.Decisions.{judge_cause, judge_one, judge_as}
use Rattle.ps_text.proofs.BytesAndDigits.ByteRuns.{same_run}
use Rattle.ps_text.proofs.Combinators.Simple.{none_is_some, same_some}
use Rattle.ps_circuit.specs.declared.fault.AigCause.{AigCause}
use Rattle.ps_circuit.specs.declared.fault.AigCause.TheVariants.{Syntax, Literal, UnsetLatch, Sections}
use Rattle.ps_circuit.specs.Causes.{cause_number}
use Rattle.ps_circuit.specs.Circuits.{IsDefinition}
use Rattle.ps_text.specs.Bytes.{Seen, is_digit}
use Rattle.ps_circuit.specs.Texts.{AnyNumber, WrongMost, WrongCount, WrongLiteral, WrongDefinition, WrongReset, Kind}
use Rattle.ps_circuit.specs.Texts.{NamesData, names_of, take_kind, IsBadSymbol}
use Rattle.ps_text.proofs.BytesAndDigits.Bytes.RunOutcomes.{Spanned, run_of, stops_bytes}
use Rattle.ps_circuit.proofs.ReadCircuits.CircuitParts.{Judges}

pub syntax_least : (g : AigCause) → cause_number Syntax ≤ cause_number g
syntax_least g = search rules

pub judge_any : Judges AnyNumber
judge_any n = judge_none cause_number

-- it is decidable whether the header's greatest variable M is an error
pub judge_most : Judges WrongMost
judge_most n = judge_cause cause_number Literal (decide_below (2 ^ 31) n)

pub judge_count : Judges WrongCount
judge_count n = judge_cause cause_number Sections (decide_not (cases_eq n 0))

-- it is decidable whether a literal is too large
pub judge_literal : (most : ℕ) → Judges (WrongLiteral most)
judge_literal most n = judge_cause cause_number Literal (decide_below (suc (2 * most + 1)) n)

pub decide_definition : (most n : ℕ) → Decided (IsDefinition most n)
decide_definition most n = search (rules, decide_as, decide_both, cases_eq, decide_below)

pub judge_definition : (most : ℕ) (defined : List ℕ) → Judges (WrongDefinition most defined)
judge_definition most defined n = search (rules, judge_one, judge_cause, decide_not, decide_definition, decide_in)

pub judge_reset : (latch : ℕ) → Judges (WrongReset latch)
judge_reset latch n = judge_one cause_number (judge_cause cause_number UnsetLatch (cases_eq n latch))
    (judge_as cause_number (λ f h. (h.0.0, h.0.1, h.1)) (λ f h. ((h.0, h.1), h.2))
    (judge_cause cause_number Literal (decide_both (decide_below 2 n) (decide_not (cases_eq n latch)))))

-- ## Symbols

-- `digits` is the longest run of digits, perhaps empty, with which the bytes after a given byte begin
pub record Digits (s : Seen) (digits : List ℕ) : Type 0 where
  pub rest : List ℕ
  pub split : s.behind ≡ digits ++ rest
  pub all : AllOf is_digit digits
  pub longest : StopsBefore is_digit rest

-- if the letter of a symbol is an error, at least one digit follows the letter, and the number that the digits spell
-- does not belong to an input, latch or output that still lacks a name
pub bad_symbol : {names : NamesData} {s : Seen} {kind : Kind} {digits : List ℕ} {f : AigCause} →
    take_kind s ≡ Some kind → Digits s digits → IsBadSymbol names s f →
    (0 < length digits) × (slice_get (names_of names kind) (decimal_value digits) ≡ Some None → ⊥)
bad_symbol {names} {s} {kind} {digits} letter d b = search (rules, same_some, same_run)

module _ (names : NamesData) where
  -- it is decidable whether an input, latch or output, given by its number, is missing or already has a name
  decide_free : (place : Option (Option (List ℕ))) → Decided (place ≡ Some None → ⊥)
  decide_free place = search (rules, none_is_some, same_some)

  pub judge_symbol : (s : Seen) → Judged cause_number (IsBadSymbol names s)
  judge_symbol s = by (take_kind s) refl (run_of s.behind)
    where
      by : (o : Option Kind) → take_kind s ≡ o → Spanned is_digit s.behind → Judged cause_number (IsBadSymbol names s)
      by None e d = good (λ f b. none_is_some b.kind (sym e ∙ b.letter))
      by (Some kind) e d =
          let longest = stops_bytes is_digit d.rest d.longest in
          judge_as cause_number (λ f h. search rules) (λ f b.
          (bad_symbol e (record { rest = d.rest; split = d.split; all = d.all; longest = longest }) b, b.cause))
          (judge_cause cause_number Syntax (search (rules, decide_both, decide_below, decide_free)))
