-- Lemmas for the functions that parse operands with connectives between them: rows of operands, and the forms of an
-- operand.
-- - `operand_row`: for each connective, its operands satisfy `Row`, the hypotheses of the lemmas about rows of operands
-- - `leaf_serves`, `too_deep`: the results for an operand that contains no other operand, and for an operand that is
--   nested too deep
-- - `not_reads`, `not_fails`, `negated_value`: the results for an operand after `!`, and its value
-- - `paren_reads`, `paren_fails`, `paren_stays_open`: the results for an operand in parentheses
use Rattle.std.proofs.Common.{◌≡◌, ℕ, zero, suc, ◌-◌, true, false, List, Option, None, Some, is_some, IfSome, refl}
use Rattle.std.proofs.Common.{option_map, sym, ap, subst, ◌∙◌, arith, rules}
use Rattle.ps_text.specs.Answers.{Stream, Piece, Found, next_of as there_of, offset_of}
use Rattle.ps_text.specs.Parts.{Part, either, mapped}
use Rattle.ps_text.specs.Readers.{Stops, Reads}
use Rattle.ps_text.proofs.Combinators.Barred.{reads_barred, stops_bar}
use Rattle.ps_text.proofs.Combinators.Laws.{Laws, Joint, Nothing}
use Rattle.ps_text.proofs.Combinators.Simple.{laws_give, laws_mapped}
use Rattle.ps_text.proofs.ParsedAnswers.Exits.{reads_give, reads_then, reads_mapped, stops_first, stops_behind}
use Rattle.ps_text.proofs.ParsedAnswers.Branches.{left_otherwise, right_otherwise}
use Rattle.ps_hoa.specs.Causes.{hoa_causes}
use Rattle.ps_hoa.specs.Inner.Signs.{is_single, IsLeaf}
use Rattle.ps_hoa.specs.Grammar.Operands.{is_not, is_right, expect, inner, kind_of, is_sign_of, between, rows}
use Rattle.ps_hoa.specs.Grammar.Operands.{InfixGrammar, holds, IsTooDeep, bar, negation, holding, operand}
use Rattle.ps_hoa.specs.Scan.{next_of, behind_next}
use Rattle.ps_hoa.specs.Tokens.{Sign}
use Rattle.ps_hoa.specs.declared.infix.Connective.{Connective}
use Rattle.ps_hoa.specs.declared.infix.Connective.TheVariants as connectives
use Rattle.ps_hoa.specs.declared.fault.HoaCause.{HoaCause}
use Rattle.ps_hoa.specs.declared.fault.HoaCause.TheVariants.{Limit}
use Rattle.ps_hoa.specs.declared.tokens.Kind.{Kind}
use Rattle.ps_hoa.specs.declared.tokens.Kind.TheVariants.{Not, LeftParen}
use Rattle.ps_hoa.proofs.Grammar.HeaderSigns.{least_same}
use Rattle.ps_hoa.proofs.Grammar.OperandLaws.{Odd, Of, false_true, nothing_apart, joint_expect}
use Rattle.ps_hoa.proofs.Grammar.InfixLaws.{is_start, AndMore, AndOrMore, joint_bar, laws_not, laws_and, laws_or}
use Rattle.ps_hoa.proofs.Grammar.InfixLaws.{laws_both, laws_rows, laws_nested, laws_negation, laws_holding}
use Rattle.ps_hoa.proofs.Grammar.InfixLaws.{laws_operand}
use Rattle.ps_hoa.proofs.Grammar.InfixLaws.{single_holds, apart_or, apart_right}
use Rattle.ps_hoa.proofs.Reading.HoaExits.{Serves, serves_as, itself, serves_both, Leads, behind, under, instead}
use Rattle.ps_hoa.proofs.Reading.HoaExits.{value_is}
use Rattle.ps_hoa.proofs.Reading.ExpectReading.{avoids_kind, tests_not, tests_and, tests_or, tests_left, expect_read}
use Rattle.ps_hoa.proofs.Reading.ExpectReading.{inner_reads}
use Rattle.ps_hoa.proofs.Reading.ExpectReading.{expect_elsewhere, inner_fails, inner_stays_open}
use Rattle.ps_hoa.proofs.Reading.NextSign.{next_there, next_same}
use Rattle.ps_hoa.proofs.Reading.RowReading.{Row}

-- the tokens that can continue an operand of the connective: none if the connective is `&`, and only `&` if it is `|`
abbrev pub Behind : Connective → Sign → Type 0
Behind connectives.And = Nothing
Behind connectives.Or = AndMore

-- ## An operand that contains another one

-- an operand that contains another operand is in parentheses, unless it begins with `!`
other_holds : {V : Type 0} (n : Option (V → V)) (kind : Kind) → holds n kind ≡ true → (kind ≡ Not → ⊥) →
    kind ≡ LeftParen
other_holds n kind h differs = grind arith

abbrev held : {V : Type 0} → (Connective → List V → V) → Part Sign V HoaCause → Part Sign V HoaCause
held together P = inner (rows together connectives.Or P)

-- the value of an operand with `!` before it
pub negated_value : {V W : Type 0} (meaning : W → V) (h : Option (V → V)) (v : V) {o : Option W} {w : W} →
    option_map meaning o ≡ option_map (λ negated. negated v) h → o ≡ Some w →
    IfSome h (λ negated. meaning w ≡ negated v)
negated_value meaning None v e is = tt
negated_value meaning (Some negated) v e is = cc

module _ {V : Type 0} (P : Part Sign V HoaCause) (together : Connective → List V → V)
    (l : Laws Odd P (Of is_start) Nothing ⊥) where
  joint_not : (negated : V → V) → Joint (expect is_not) (λ _. mapped negated P)
  joint_not negated = joint_expect is_not laws_not (laws_mapped negated P l)

  paren_serves : {old : Stream Sign} (n : Option (V → V)) → (next_of old).sign.kind ≡ LeftParen →
      Serves old (held together P) (holding n P (held together P))
  paren_serves None e = itself
  paren_serves {old} (Some negated) e = serves_as old (right_otherwise (laws_negation P together l negated)
      (laws_nested P together l) (there_of old) (expect_elsewhere tests_not old (λ k. cc)) (λ b. b))

  module _ {old mid : Stream Sign} (e : (next_of old).sign.kind ≡ Not) (n : mid ≡ behind_next old) where
    not_serves : (negated : V → V) → Serves old (negation negated P) (either (negation negated P) (held together P))
    not_serves negated = serves_as old (left_otherwise (laws_negation P together l negated)
        (laws_nested P together l) (there_of old) (expect_elsewhere tests_left old (λ k. cc)) (λ b. b))

    holding_reads : (h : Option (V → V)) → is_some h ≡ true → {new : Stream Sign} {v w : V} → Reads P mid v new →
        IfSome h (λ negated. w ≡ negated v) → Reads (holding h P (held together P)) old w new
    holding_reads None s m is = absurd (false_true s)
    holding_reads (Some negated) s m is = value_is (sym is) ((not_serves negated).reads _ _
        (reads_then (joint_not negated) (expect_read tests_not e n) (reads_mapped negated m)))

    holding_fails : (h : Option (V → V)) → is_some h ≡ true → Leads (holding h P (held together P)) old P mid
    holding_fails None s = absurd (false_true s)
    holding_fails (Some negated) s = instead (not_serves negated)
        (behind (joint_not negated) (expect_read tests_not e n) (under negated P))

-- ## The operands of a grammar

module _ {V : Type 0} (g : InfixGrammar V) (is : IsLeaf g.leaf) where
  laws : (room : ℕ) → Laws Odd (operand g room) (Of is_start) Nothing ⊥
  laws = laws_operand g is

  row_laws : (room : ℕ) → Laws Odd (rows g.together connectives.Or (operand g room)) (Of is_start) AndOrMore ⊥
  row_laws room = laws_rows (operand g room) g.together (laws room)

  pub operand_row : (room : ℕ) (c : Connective) →
      Row (is_sign_of c) (kind_of c) (between g.together c (operand g room)) (Of is_start) (Behind c)
  operand_row room connectives.And = search (rules, tests_and, laws_and, nothing_apart, laws room)
  operand_row room connectives.Or =
      grind (arith, tests_or, laws_or, laws_both (operand g room) g.together (laws room), apart_or)

  bar_read : (old : Stream Sign) → holds g.negated (next_of old).sign.kind ≡ false → Reads (bar g.negated) old tt old
  bar_read old other = reads_barred (λ _. IsTooDeep g.negated) (laws_give Odd tt) (nothing_apart _) (λ t f e b.
      false_true (sym other ∙ ap (λ (s : Sign). holds g.negated s.kind) (next_same old t e) ∙ b.0)) (reads_give old tt)

  -- if the next token begins no operand that contains another one, each result of parsing a leaf (an operand that
  -- contains no other) is a result of parsing an operand
  pub leaf_serves : (room : ℕ) (old : Stream Sign) {p : Piece Sign} → p ≡ next_of old →
      holds g.negated p.sign.kind ≡ false → Serves old g.leaf (operand g room)
  unfolding operand
  leaf_serves zero old at other = record {
    reads =
        λ v new m. reads_then (joint_bar g.negated is) (bar_read old
        (ap (λ q. holds g.negated q.sign.kind) (sym at) ∙ other)) m;
    stops =
        λ o s. stops_behind hoa_causes (joint_bar g.negated is) (bar_read old
        (ap (λ q. holds g.negated q.sign.kind) (sym at) ∙ other)) o s;
  }
  leaf_serves (suc room) old at other = serves_as old
      (left_otherwise is (laws_holding (operand g room) g.together (laws room) g.negated) (there_of old)
      (avoids_kind (holds g.negated) old
      (λ i. false_true (sym other ∙ ap (λ q. holds g.negated q.sign.kind) at ∙ i))) (λ b. b))

  -- the next token begins an operand that contains another operand, after `!` or in parentheses
  module _ (room : ℕ) (old : Stream Sign) {p : Piece Sign} (at : p ≡ next_of old)
      (h : holds g.negated p.sign.kind ≡ true) where
    kind_there : (next_of old).sign.kind ≡ p.sign.kind
    kind_there = ap (λ q. q.sign.kind) (sym at)

    begins : holds g.negated (next_of old).sign.kind ≡ true
    begins = ap (holds g.negated) kind_there ∙ h

    pub too_deep : room ≡ 0 → (o : Option (Found HoaCause)) →
        o ≡ Some (record { cause = Limit; offset = offset_of old.pieces old.end }) →
        Stops hoa_causes (operand g room) old o
    unfolding operand
    too_deep none o e = subst (λ k. Stops hoa_causes (operand g k) old o) (sym none)
        (stops_first hoa_causes (joint_bar g.negated is) old o (stops_bar (λ _. IsTooDeep g.negated) (laws_give Odd tt)
        (nothing_apart _) hoa_causes (reads_give old tt) (next_of old).sign Limit o
        (next_there old (λ f. false_true (ap (holds g.negated) (sym f) ∙ begins))) (begins, refl)
        (λ c b. least_same Limit c b.1) e))

    module _ (some : room ≡ 0 → ⊥) where
      holding_serves : Serves old
          (holding g.negated (operand g (room - 1)) (held g.together (operand g (room - 1)))) (operand g room)
      unfolding operand
      holding_serves = let one_less : suc (room - 1) ≡ room = omega arith in
          subst (λ k. Serves old (holding g.negated (operand g (room - 1)) (held g.together (operand g (room - 1))))
          (operand g k)) one_less (serves_as old (right_otherwise is
          (laws_holding (operand g (room - 1)) g.together (laws (room - 1)) g.negated) (there_of old)
          (avoids_kind is_single old (λ i. single_holds g.negated (next_of old).sign i begins)) (λ b. b)))

      module _ {mid : Stream Sign} (n : mid ≡ behind_next old) where
        module _ (e : p.sign.kind ≡ Not) where
          pub not_reads : {new : Stream Sign} {v w : V} → Reads (operand g (room - 1)) mid v new →
              IfSome g.negated (λ negated. w ≡ negated v) → Reads (operand g room) old w new
          not_reads m is_w = holding_serves.reads _ _ (holding_reads (operand g (room - 1)) g.together
              (laws (room - 1)) (kind_there ∙ e) n g.negated (ap (holds g.negated) (sym e) ∙ h) m is_w)

          pub not_fails : Leads (operand g room) old (operand g (room - 1)) mid
          not_fails =
              instead holding_serves (holding_fails (operand g (room - 1)) g.together (laws (room - 1))
              (kind_there ∙ e) n
              g.negated (ap (holds g.negated) (sym e) ∙ h))

        module _ (differs : p.sign.kind ≡ Not → ⊥) where
          e : (next_of old).sign.kind ≡ LeftParen
          e = kind_there ∙ other_holds g.negated p.sign.kind h differs

          served : Serves old (held g.together (operand g (room - 1))) (operand g room)
          served = serves_both (paren_serves (operand g (room - 1)) g.together (laws (room - 1)) g.negated e)
              holding_serves

          pub paren_reads : {next new : Stream Sign} {v : V} →
              Reads (rows g.together connectives.Or (operand g (room - 1))) mid v next →
              Reads (expect is_right) next tt new → Reads (operand g room) old v new
          paren_reads m q =
              served.reads _ _ (inner_reads (row_laws (room - 1)) apart_right (expect_read tests_left e n) m q)

          pub paren_fails : Leads (operand g room) old (rows g.together connectives.Or (operand g (room - 1))) mid
          paren_fails = instead served (inner_fails (row_laws (room - 1)) apart_right (expect_read tests_left e n))

          pub paren_stays_open : {next : Stream Sign} {v : V} →
              Reads (rows g.together connectives.Or (operand g (room - 1))) mid v next →
              Leads (operand g room) old (expect is_right) next
          paren_stays_open m =
              instead served (inner_stays_open (row_laws (room - 1)) apart_right (expect_read tests_left e n) m)
