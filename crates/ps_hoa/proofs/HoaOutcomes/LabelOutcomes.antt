-- For each list of tokens, labels and acceptance conditions have an outcome: they are parsed, or they have a first
-- error.
-- - `has_signs`, `has_int`, `has_string`, `has_expect`, `has_loop`: parsing a token, a number, a string or a repetition
--   gives a value or a first error
-- - `has_infix`: parsing a row of operands gives a value or a first error
-- - `has_label`, `has_condition`: parsing a label or an acceptance condition gives a value or a first error
use Rattle.std.proofs.Common.{arith, Option, None, Some, ℕ, zero, suc, Bool, true, false, List}
use Rattle.ps_text.specs.Parts.{Part, one, many}
use Rattle.ps_text.specs.Outcomes.{HasOutcomes}
use Rattle.ps_text.proofs.Combinators.Laws.{Laws, Nothing, Apart}
use Rattle.ps_text.proofs.ParsedAnswers.Outcomes.{has_give, has_one, has_mapped, has_then, has_either, has_many}
use Rattle.ps_text.proofs.ParsedAnswers.Outcomes.{has_barred}
use Rattle.ps_text.proofs.Combinators.Simple.{laws_give, laws_mapped}
use Rattle.ps_hoa.specs.Inner.Signs.{IsLeaf}
use Rattle.ps_hoa.specs.Tokens.{Sign}
use Rattle.ps_hoa.specs.Causes.{hoa_causes}
use Rattle.ps_hoa.specs.Grammar.Operands.{is_not, is_and, is_or, is_left, is_right, expect, before, closed, inner}
use Rattle.ps_hoa.specs.Grammar.Operands.{single}
use Rattle.ps_hoa.specs.Grammar.Operands.{with_last, joined, further, operands, row, rows, InfixGrammar, holding}
use Rattle.ps_hoa.specs.Grammar.Operands.{IsTooDeep}
use Rattle.ps_hoa.specs.Grammar.Operands.{operand}
use Rattle.ps_hoa.specs.Grammar.Header.{int, string}
use Rattle.ps_hoa.specs.Grammar.Labels as labels
use Rattle.ps_hoa.specs.Grammar.Labels.{ScopeData}
use Rattle.ps_hoa.specs.Grammar.Conditions as conditions
use Rattle.ps_hoa.specs.Grammar.Conditions.{visits, any_set, visit, atom}
use Rattle.ps_hoa.specs.declared.infix.Connective.{Connective}
use Rattle.ps_hoa.specs.declared.infix.Connective.TheVariants as connectives
use Rattle.ps_hoa.specs.declared.fault.HoaCause.{HoaCause}
use Rattle.ps_hoa.specs.declared.tokens.Kind.{Kind}
use Rattle.ps_hoa.proofs.Grammar.OperandLaws.{Odd, Of, nothing_apart, laws_behind, joint_expect, joint_closed}
use Rattle.ps_hoa.proofs.Grammar.OperandLaws.{joint_operands, laws_held}
use Rattle.ps_hoa.proofs.Grammar.InfixLaws.{is_start, joint_bar, laws_not, laws_and, laws_or, laws_left, laws_right}
use Rattle.ps_hoa.proofs.Grammar.InfixLaws.{not_left, single_holds, apart_or, apart_right, laws_both, laws_rows}
use Rattle.ps_hoa.proofs.Grammar.InfixLaws.{laws_nested, laws_negation, laws_holding, laws_operand}
use Rattle.ps_hoa.proofs.Grammar.LabelLaws.{label_leaf}
use Rattle.ps_hoa.proofs.Grammar.ConditionLaws.{laws_set, not_int, laws_complement, laws_closed_set, joint_closed_set}
use Rattle.ps_hoa.proofs.Grammar.ConditionLaws.{joint_visit, laws_visit, laws_constant, constant_often}
use Rattle.ps_hoa.proofs.Grammar.ConditionLaws.{condition_leaf}
use Rattle.ps_hoa.proofs.Grammar.HeaderSigns.{signs_int, signs_string, signs_expect}
use Rattle.ps_hoa.proofs.Reading.LeafReading.{constant_signs, set_signs, often_signs}
use Rattle.ps_hoa.proofs.Reading.HoaExits.{Loop}
use Rattle.ps_hoa.proofs.Reading.LeafReading.{leaf_signs}
use Rattle.ps_hoa.proofs.Reading.ExpectReading.{Tests, tests_not, tests_and, tests_or, tests_left, tests_right}
use Rattle.ps_hoa.proofs.Reading.SingleTokens.{IsOfSigns}
use Rattle.ps_hoa.proofs.HoaOutcomes.Judging.{JudgesAll, no_bad, judge_above, judge_deep, judge_leaf, judge_set}

abbrev pub Has : {V : Type 0} → Part Sign V HoaCause → Type 0
Has part = HasOutcomes hoa_causes part

-- ## Single tokens, parentheses and rows

-- for each list of tokens, parsing a grammar of one token gives a value or a first error
pub has_signs : {V : Type 0} {take : Sign → Option V} {Bad : Sign → HoaCause → Type 0} → IsOfSigns take Bad →
    JudgesAll Bad → Has (one take Bad)
has_signs {take = take} {Bad = Bad} o judge = has_one hoa_causes take Bad o.sign o.value o.taken judge

pub has_int : (limit : ℕ) → Has (int limit)
has_int limit = has_signs (signs_int limit) (judge_above limit)

pub has_string : Has string
has_string = has_signs signs_string no_bad

pub has_expect : {test : Kind → Bool} {kind : Kind} → Tests test kind → Has (expect test)
has_expect {test} {kind} tests = has_signs (signs_expect test kind tests.is tests.proper) no_bad

pub has_loop : {C : Type 0} {item : C → Part Sign C HoaCause} {First : Sign → Type 0} → Loop item First →
    ((c : C) → Has (item c)) → (c : C) → Has (many item c)
has_loop {item = item} w = has_many hoa_causes item w.laws w.apart

has_closed : {V : Type 0} (v : V) → Has (closed v)
has_closed v = has_mapped hoa_causes (before v) (expect is_right) (has_expect tests_right)

module _ {V : Type 0} (sign : Kind → Bool) (operand : Part Sign V HoaCause) {First More : Sign → Type 0}
    (m : Laws Odd (expect sign) (Of sign) Nothing ⊥) (l : Laws Odd operand First More ⊥) (apart : Apart More (Of sign))
    (s : Has (expect sign)) (o : Has operand) where
  has_row : (join : List V → V) → Has (row sign join operand)
  has_row join = has_mapped hoa_causes (joined join) (operands sign operand)
      (has_then hoa_causes (joint_operands sign operand m l apart) (has_mapped hoa_causes single operand o)
      (has_many hoa_causes (λ ws. further sign operand ws)
      (λ ws. laws_behind sign m (laws_mapped (with_last ws) operand l)) apart
      (λ ws. has_then hoa_causes (joint_expect sign m (laws_mapped (with_last ws) operand l)) s
      (λ _. has_mapped hoa_causes (with_last ws) operand o))))

module _ {V : Type 0} {F : Sign → Type 0} (P : Part Sign V HoaCause) (together : Connective → List V → V)
    (l : Laws Odd P F Nothing ⊥) (p : Has P) where
  has_rows : Has (rows together connectives.Or P)
  has_rows = has_row is_or (rows together connectives.And P) laws_or (laws_both P together l) apart_or
      (has_expect tests_or)
      (has_row is_and P laws_and l (grind (arith, nothing_apart (Of is_and))) (has_expect tests_and) p
      (together connectives.And)) (together connectives.Or)

  has_nested : Has (inner (rows together connectives.Or P))
  has_nested = has_then hoa_causes (joint_expect is_left laws_left
      (laws_held laws_right (laws_rows P together l) apart_right)) (has_expect tests_left) (λ _. has_then hoa_causes
      (joint_closed laws_right (laws_rows P together l) apart_right) has_rows (λ v. has_closed v))

-- ## Operands

module _ {V : Type 0} (g : InfixGrammar V) (is : IsLeaf g.leaf) (leaf : Has g.leaf) where
  has_holding : (P : Part Sign V HoaCause) → Laws Odd P (Of is_start) Nothing ⊥ → Has P → (n : Option (V → V)) →
      Has (holding n P (inner (rows g.together connectives.Or P)))
  has_holding P l p None = has_nested P g.together l p
  has_holding P l p (Some negated) = has_either hoa_causes (laws_negation P g.together l negated)
      (laws_nested P g.together l) not_left
      (has_then hoa_causes (joint_expect is_not laws_not (laws_mapped negated P l))
      (has_expect tests_not) (λ _. has_mapped hoa_causes negated P p)) (has_nested P g.together l p)

  has_operand : (room : ℕ) → Has (operand g room)
  unfolding operand
  has_operand zero = has_then hoa_causes (joint_bar g.negated is) (has_barred hoa_causes (λ _. IsTooDeep g.negated)
      (laws_give Odd tt) (nothing_apart _) (λ _. judge_deep g.negated) (has_give hoa_causes tt)) (λ _. leaf)
  has_operand (suc room) = has_either hoa_causes is
      (laws_holding (operand g room) g.together (laws_operand g is room) g.negated) (single_holds g.negated) leaf
      (has_holding (operand g room) (laws_operand g is room) (has_operand room) g.negated)

  has_infix : (room : ℕ) → Has (rows g.together connectives.Or (operand g room))
  has_infix room = has_rows (operand g room) g.together (laws_operand g is room) (has_operand room)

pub has_label : (scope : ScopeData) (room : ℕ) → Has (labels.label scope room)
has_label scope =
    has_infix (labels.grammar scope) (label_leaf scope) (has_signs (leaf_signs scope) (judge_leaf scope))

-- ## Acceptance conditions

has_any_set : Has any_set
has_any_set = has_either hoa_causes laws_complement (laws_set false) not_int
    (has_then hoa_causes (joint_expect is_not laws_not (laws_set true)) (has_expect tests_not) (λ _.
    has_signs (set_signs true) judge_set)) (has_signs (set_signs false) judge_set)

has_visit : Has visit
has_visit = has_then hoa_causes joint_visit (has_signs often_signs no_bad) (λ often.
    has_then hoa_causes (joint_expect is_left laws_left (laws_closed_set often)) (has_expect tests_left) (λ _.
    has_then hoa_causes (joint_closed_set often) has_any_set (λ s. has_closed (visits often s))))

has_atom : Has atom
has_atom = has_either hoa_causes laws_constant laws_visit constant_often (has_signs constant_signs no_bad) has_visit

pub has_condition : (room : ℕ) → Has (conditions.condition room)
has_condition = has_infix conditions.grammar condition_leaf has_atom
