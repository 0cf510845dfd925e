-- Lemmas for the functions that parse the fields of a line in an AIGER text, including the cases in which these
-- functions fail.
use Rattle.std.proofs.Common.{◌≡◌, ℕ, ◌^◌, ◌<◌, ◌≤◌, Bool, true, false, eqb, List, [], length, Option, None, Some}
use Rattle.std.proofs.Common.{Result, Ok, sym, subst, refl, arith, rules}
use Rattle.std.specs.Prelude.{IfSome, IfNone}
use Rattle.std.specs.Option.{unwrap_or}
use Rattle.ps_text.specs.Answers.{Stream, signs, next_of}
use Rattle.ps_text.specs.Parts.{give, either}
use Rattle.ps_text.specs.Readers.{Reads, Stops}
use Rattle.ps_text.specs.Faults.{found_of}
use Rattle.ps_text.specs.declared.faults.Fault.TheVariants.{Text}
use Rattle.ps_text.specs.Bytes.{Seen, is_space, is_inner, NoBadRun}
use Rattle.ps_text.specs.Cursors.{next_byte, stream_offset, Passes}
use Rattle.ps_text.proofs.Combinators.Simple.{same_some, laws_give}
use Rattle.ps_text.proofs.Combinators.Covered.{Avoids, Enters, enters_read, enters_mapped}
use Rattle.ps_text.proofs.ParsedAnswers.Exits.{reads_give, then_meets}
use Rattle.ps_text.proofs.ParsedAnswers.Branches.{left_entered, left_otherwise, right_otherwise, reads_as}
use Rattle.ps_text.proofs.BytesAndDigits.Bytes.Single.{next_is, avoids, enters_byte}
use Rattle.ps_text.proofs.BytesAndDigits.Bytes.Runs.{run_reads, run_stops}
use Rattle.ps_text.proofs.BytesAndDigits.Bytes.Moves.{is_empty_true, is_empty_false, same_place, avoids_run}
use Rattle.ps_circuit.specs.declared.fault.AigCause.{AigCause}
use Rattle.ps_circuit.specs.declared.fault.AigCause.TheVariants.{Syntax}
use Rattle.ps_circuit.specs.Causes.{AigFault, cause_number}
use Rattle.ps_circuit.specs.Signs.{aig_causes, gap, rest_of_line, newline, line_end, more}
use Rattle.ps_circuit.specs.Inner.Cursors.{Tells, saturated}
use Rattle.ps_circuit.proofs.ReadCircuits.CircuitParts.{Odd, Left}
use Rattle.ps_text.proofs.BytesAndDigits.Bytes.Lefts.{unread, past, branch}
use Rattle.ps_circuit.proofs.ReadCircuits.SignLaws.{AtSpace, laws_gap, laws_ends_here, ends_here, gap_more}
use Rattle.ps_circuit.proofs.ReadCircuits.SignLaws.{chain_line_end}
use Rattle.ps_circuit.proofs.ReadCircuits.SignLaws.{chain_gap_more, space_newline}

pub gap_reads : {old new : Stream Seen} {r : List ℕ} → Passes is_space old new r → 0 < length r → Reads gap old tt new
unfolding gap
gap_reads {old} {new} {r} x some = run_reads is_space (λ at bytes. tt) NoBadRun x some (λ f h. h) refl

pub gap_stops : {old new : Stream Seen} {r : List ℕ} {e : AigFault} → Passes is_space old new r → r ≡ [] →
    e ≡ Text Syntax (stream_offset old) → Stops aig_causes gap old (found_of e)
unfolding gap
gap_stops {old} {new} x none is = subst (λ y. Stops aig_causes gap old (found_of y)) (sym is)
    (run_stops is_space (λ at bytes. tt) NoBadRun cause_number Syntax 32 refl (subst (Passes is_space old new) none x))

pub rest_reads : {old new : Stream Seen} {r : List ℕ} → Passes is_inner old new r → 0 < length r →
    Reads rest_of_line old r new
unfolding rest_of_line
rest_reads {old} {new} {r} x some = run_reads is_inner (λ at bytes. bytes) NoBadRun x some (λ f h. h) refl

pub rest_stops : {old new : Stream Seen} {r : List ℕ} {e : AigFault} → Passes is_inner old new r → r ≡ [] →
    e ≡ Text Syntax (stream_offset old) → Stops aig_causes rest_of_line old (found_of e)
unfolding rest_of_line
rest_stops {old} {new} x none is = subst (λ y. Stops aig_causes rest_of_line old (found_of y)) (sym is)
    (run_stops is_inner (λ at bytes. bytes) NoBadRun cause_number Syntax 32 refl
    (subst (Passes is_inner old new) none x))

spaces_read : {old new : Stream Seen} {r : List ℕ} → Passes is_space old new r → (b : Bool) → eqb (length r) 0 ≡ b →
    Reads (either gap (give tt)) old tt new
spaces_read {old} x true e =
    let none = is_empty_true (sym e) refl in
    let y : Passes is_space old _ [] = subst (Passes is_space old _) none x in
    subst (λ z. Reads (either gap (give tt)) old tt z) (sym (same_place x none))
    (reads_as (right_otherwise laws_gap.laws (laws_give Odd tt) (next_of old) (avoids_run y) (λ z. z))
    (reads_give old tt))
spaces_read {old} {new} {r} x false e =
    let m = gap_reads x (is_empty_false r (sym e) refl) in
    reads_as (left_entered laws_gap.laws (laws_give Odd tt) (next_of old) (λ t h k. k)
    (enters_read gap (signs old.pieces) (signs new.pieces) tt (λ w h. laws_gap.laws.null w h) m.1)) m

pub line_end_tells : {old mid : Stream Seen} (new : Stream Seen) {r : List ℕ} (result : Result (Unit {0}) AigFault) →
    Passes is_space old mid r → Tells (λ u. u) newline mid result new → Tells (λ u. u) line_end old result new
unfolding line_end
line_end_tells new {r} result x m =
    then_meets found_of aig_causes (λ u. u) new result chain_line_end.joint (spaces_read x (eqb (length r) 0) refl) m

-- ## A further field

avoids_space : (old : Stream Seen) → next_byte old ≡ Some 10 → Avoids AtSpace (next_of old)
avoids_space old e t n h = search (rules, next_is, same_some, space_newline)

enters_newline : (old : Stream Seen) → next_byte old ≡ Some 10 → Enters newline (next_of old)
unfolding newline
enters_newline old e = enters_byte AigCause 10 old e

module _ (old : Stream Seen) where
  pub at_line_end : next_byte old ≡ Some 10 → Left more old ends_here old
  unfolding more
  at_line_end e = branch unread (left_otherwise laws_ends_here.laws chain_gap_more.whole.laws (next_of old)
      (avoids_space old e) (λ z. z))

  pub at_gap : (next_byte old ≡ Some 10 → ⊥) → Left more old gap_more old
  unfolding more
  at_gap none = branch unread (right_otherwise laws_ends_here.laws chain_gap_more.whole.laws (next_of old)
      (avoids 10 old none) (λ z. z))

  module _ {mid : Stream Seen} (none : next_byte old ≡ Some 10 → ⊥) (g : Reads gap old tt mid) where
    pub past_gap_ends : next_byte mid ≡ Some 10 → Left more old ends_here mid
    past_gap_ends e = branch (past chain_gap_more (at_gap none) g)
        (grind (arith, left_entered, laws_give, enters_mapped, enters_newline))

    pub past_gap_more : (next_byte mid ≡ Some 10 → ⊥) → Reads more old true mid
    past_gap_more n = (branch (past chain_gap_more (at_gap none) g) (right_otherwise laws_ends_here.laws
        (laws_give Odd true) (next_of mid) (avoids 10 mid n) (λ z. z))).carries (Ok true) mid (reads_give mid true)

-- ## Values

-- the code stores every number that does not fit into 64 bits as the greatest number of 64 bits
pub value_saturated : (n : ℕ) (v : Option ℕ) {r : ℕ} → r ≡ unwrap_or v 18446744073709551615 → r < 2 ^ 64 →
    IfSome v (λ w. w ≡ n) → IfNone v (2 ^ 64 ≤ n) → r ≡ saturated n
value_saturated n None e small held large = omega (arith, e, large)
value_saturated n (Some w) e small held large = omega (arith, e, small, held)
