-- Lemmas for the functions that parse acceptance sets, leaves of labels, and leaves of acceptance conditions.
-- - `leaf_signs`: a leaf of a label is a single token
-- - `visit_unopened`, `visit_fails`, `visit_stays_open`, `visit_reads`: the results of parsing what follows `Inf` or
--   `Fin`
-- - `constant_serves`: an operand that does not begin with `Inf` or `Fin` is a constant
-- - `complement_meets`, `set_serves`: a set is parsed, with or without `!` before it
use Rattle.std.proofs.Common.{◌≡◌, Bool, true, false, [], codes, None, Some, Result, Ok, refl, arith}
use Rattle.ps_text.specs.Answers.{Stream, signs, next_of as there_of}
use Rattle.ps_text.specs.Parts.{NoBad, one, then_by}
use Rattle.ps_text.specs.Readers.{Reads, Meets}
use Rattle.ps_text.proofs.Combinators.Laws.{Joint}
use Rattle.ps_text.proofs.Combinators.Covered.{enters_read}
use Rattle.ps_text.proofs.ParsedAnswers.Exits.{reads_then, reads_mapped, then_meets}
use Rattle.ps_text.proofs.ParsedAnswers.Branches.{left_entered, right_entered}
use Rattle.ps_hoa.specs.Causes.{HoaFault, hoa_causes, found_of}
use Rattle.ps_hoa.specs.Grammar.Conditions.{SetData, constant_in, often_in, visits, set_in, BadSet, set, any_set}
use Rattle.ps_hoa.specs.Grammar.Conditions.{closed_set}
use Rattle.ps_hoa.specs.Grammar.Conditions.{often_or_not, visit, atom}
use Rattle.ps_hoa.specs.Grammar.Labels.{ScopeData, leaf_in, BadLeaf}
use Rattle.ps_hoa.specs.Grammar.Operands.{is_not, is_left, is_right, expect, before}
use Rattle.ps_hoa.specs.Scan.{next_of, behind_next}
use Rattle.ps_hoa.specs.Tokens.{Sign}
use Rattle.ps_hoa.specs.declared.fault.HoaCause.{HoaCause}
use Rattle.ps_hoa.specs.declared.tokens.Kind.TheVariants.{Word, Int, Not}
use Rattle.ps_hoa.proofs.Grammar.OperandLaws.{joint_expect}
use Rattle.ps_hoa.proofs.Grammar.InfixLaws.{laws_not, laws_left}
use Rattle.ps_hoa.proofs.Grammar.ConditionLaws.{laws_set, laws_complement, not_int, laws_often, laws_closed_set}
use Rattle.ps_hoa.proofs.Grammar.ConditionLaws.{joint_closed_set, joint_visit, laws_visit, laws_constant}
use Rattle.ps_hoa.proofs.Grammar.ConditionLaws.{constant_often}
use Rattle.ps_hoa.proofs.Reading.HoaExits.{Serves, serves_as, serves_meets, Leads, first, behind, under, instead}
use Rattle.ps_hoa.proofs.Reading.HoaExits.{entered}
use Rattle.ps_hoa.proofs.Reading.SingleTokens.{IsOfSigns, signs_of, reads_one}
use Rattle.ps_hoa.proofs.Reading.ExpectReading.{tests_not, expect_read, expect_begins, expect_elsewhere}

pub leaf_signs : (scope : ScopeData) → IsOfSigns (leaf_in scope.names) (BadLeaf scope)
leaf_signs scope = signs_of Int [] refl refl (λ f b. b)

pub constant_signs : IsOfSigns constant_in (NoBad {F = HoaCause})
constant_signs = signs_of Word (codes "t") refl refl (λ f b. b)

pub set_signs : (complemented : Bool) → IsOfSigns (set_in complemented) BadSet
set_signs complemented = signs_of Int [] refl refl (λ f b. b)

pub often_signs : IsOfSigns often_in (NoBad {F = HoaCause})
often_signs = signs_of Word (codes "Inf") refl refl (λ f b. b)

-- ## `Inf` and `Fin`

joint_set : (often : Bool) → Joint (expect is_left) (λ _. then_by any_set (closed_set often))
joint_set often = joint_expect is_left laws_left (laws_closed_set often)

module _ {old mid : Stream Sign} {often : Bool} (e : often_in (next_of old).sign ≡ Some often)
    (n : mid ≡ behind_next old) where
  often_read : Reads often_or_not old often mid
  often_read = reads_one (λ b. b) often_signs old mid (Ok often) (record { some = e; good = λ f b. b }) n

  served : Serves old visit atom
  served = serves_as old (right_entered laws_constant laws_visit (there_of old) constant_often
      (entered joint_visit old (enters_read often_or_not (signs old.pieces) (signs mid.pieces) often
      (λ w h. laws_often.null w h) often_read.1)))

  pub visit_unopened : Leads atom old (expect is_left) mid
  visit_unopened = instead served (behind joint_visit often_read (first (joint_set often)))

  module _ {next : Stream Sign} (l : Reads (expect is_left) mid tt next) where
    pub visit_fails : Leads atom old any_set next
    visit_fails =
        instead served (behind joint_visit often_read (behind (joint_set often) l (first (joint_closed_set often))))

    module _ {last : Stream Sign} {v : SetData} (m : Reads any_set next v last) where
      pub visit_stays_open : Leads atom old (expect is_right) last
      visit_stays_open = instead served (behind joint_visit often_read (behind (joint_set often) l
          (behind (joint_closed_set often) m (under (before (visits often v)) (expect is_right)))))

      pub visit_reads : {new : Stream Sign} → Reads (expect is_right) last tt new →
          Reads atom old (visits often v) new
      visit_reads q = served.reads _ _ (reads_then joint_visit often_read (reads_then (joint_set often) l
          (reads_then (joint_closed_set often) m (reads_mapped (before (visits often v)) q))))

-- if the next token is neither `Inf` nor `Fin`, an atom of a condition is a constant
pub constant_serves : (old : Stream Sign) → often_in (next_of old).sign ≡ None →
    Serves old (one constant_in NoBad) atom
constant_serves old e = serves_as old (grind (arith, laws_constant))

-- ## Sets

joint_not : Joint (expect is_not) (λ _. set true)
joint_not = joint_expect is_not laws_not (laws_set true)

pub complement_meets : {X : Type 0} (view : X → SetData) (old : Stream Sign) {mid : Stream Sign} (new : Stream Sign)
    (result : Result X HoaFault) → (next_of old).sign.kind ≡ Not → mid ≡ behind_next old →
    Meets found_of hoa_causes view (set true) mid result new → Meets found_of hoa_causes view any_set old result new
complement_meets view old new result e n m = serves_meets view new result (serves_as old (left_entered laws_complement
    (laws_set false) (there_of old) not_int (entered joint_not old (expect_begins tests_not old e))))
    (then_meets found_of hoa_causes view new result joint_not (expect_read tests_not e n) m)

pub set_serves : (old : Stream Sign) → ((next_of old).sign.kind ≡ Not → ⊥) → Serves old (set false) any_set
set_serves old differs = serves_as old (grind (arith, laws_set false, expect_elsewhere tests_not old differs))
