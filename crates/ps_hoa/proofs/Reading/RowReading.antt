-- The loop that parses operands with a connective between them.
-- - `IsRow sign operand old vs now`: the operands with the values `vs` were parsed from `old` to `now`
-- - `Row sign operand`: the hypotheses of the lemmas about rows of operands
-- - `first_fails`, `first_alone`: the result if the first operand has an error, and the result if it is the only
--   operand
-- - `row_starts`, `row_more`, `row_shrinks`: the invariant of the loop holds, and its measure falls
-- - `row_fails`, `row_done`: the result if a later operand has an error, and the result when the loop ends
use Rattle.std.proofs.Common.{◌≡◌, ℕ, ◌+◌, ◌<◌, Bool, true, List, [], ◌∷◌, length, refl, sym, subst}
use Rattle.std.proofs.Common.{arith, length-append, rules}
use Rattle.ps_text.specs.Answers.{Stream}
use Rattle.ps_text.specs.Parts.{Part, many}
use Rattle.ps_text.specs.Readers.{Reads, Carries}
use Rattle.ps_text.proofs.Combinators.Laws.{Laws, Nothing, Apart}
use Rattle.ps_text.proofs.ParsedAnswers.Branches.{reads_shrinks}
use Rattle.ps_hoa.specs.Causes.{hoa_causes}
use Rattle.ps_hoa.specs.Grammar.Operands.{expect, single, with_last, joined, further, operands, row}
use Rattle.ps_hoa.specs.Scan.{next_of, behind_next}
use Rattle.ps_hoa.specs.Tokens.{Sign}
use Rattle.ps_hoa.specs.declared.infix.Connective.{Connective}
use Rattle.ps_hoa.specs.declared.infix.Connective.TheVariants as connectives
use Rattle.ps_hoa.specs.declared.fault.HoaCause.{HoaCause}
use Rattle.ps_hoa.specs.declared.tokens.Kind.{Kind}
use Rattle.ps_hoa.proofs.Grammar.OperandLaws as rows
use Rattle.ps_hoa.proofs.Grammar.OperandLaws.{Odd, Of, row_alone, row_begins, row_goes_on, row_stops, row_ends}
use Rattle.ps_hoa.proofs.Reading.HoaExits.{Leads}
use Rattle.ps_hoa.proofs.Reading.ExpectReading.{Tests, expect_read, expect_elsewhere, behind_shrinks}

-- the part of the recursion's measure that depends on the connective
abbrev pub binding : Connective → ℕ
binding connectives.And = 1
binding connectives.Or = 3

pub record Row {V : Type 0} (sign : Kind → Bool) (kind : Kind) (operand : Part Sign V HoaCause)
    (First More : Sign → Type 0) : Type 0 where
  pub tests : Tests sign kind
  pub expect_laws : Laws Odd (expect sign) (Of sign) Nothing ⊥
  pub laws : Laws Odd operand First More ⊥
  pub apart : Apart More (Of sign)

-- the invariant of the loop: some operands were parsed, and if there was only one, the next token is the connective
pub record IsRow {V : Type 0} (sign : Kind → Bool) (operand : Part Sign V HoaCause) (old : Stream Sign) (vs : List V)
    (now : Stream Sign) : Type 0 where
  pub carries : Carries hoa_causes (operands sign operand) old (many (λ ws. further sign operand ws) vs) now
  pub some : 0 < length vs
  pub several : length vs ≡ 1 → sign (next_of now).sign.kind ≡ true

module _ {V : Type 0} {sign : Kind → Bool} {kind : Kind} {operand : Part Sign V HoaCause} {First More : Sign → Type 0}
    (w : Row sign kind operand First More) where
  pub first_fails : (join : List V → V) {old : Stream Sign} → Leads (row sign join operand) old operand old
  first_fails join {old} = record { stops = rows.row_fails sign operand w.expect_laws w.laws w.apart join old }

  pub first_alone : (join : List V → V) {old now : Stream Sign} {v : V} → Reads operand old v now →
      ((next_of now).sign.kind ≡ kind → ⊥) → Reads (row sign join operand) old v now
  first_alone join {now = now} r differs = search (rules, row_alone, expect_elsewhere)

  pub row_starts : {old now : Stream Sign} {v : V} {vs : List V} → Reads operand old v now →
      (next_of now).sign.kind ≡ kind → vs ≡ single v → IsRow sign operand old vs now
  row_starts {old} {now} r e is = subst (λ us. IsRow sign operand old us now) (sym is)
      (grind (arith, row_begins sign operand w.expect_laws w.laws w.apart r))

  module _ {old now : Stream Sign} {vs : List V} (i : IsRow sign operand old vs now) where
    pub row_done : (join : List V → V) → ((next_of now).sign.kind ≡ kind → ⊥) →
        Reads (row sign join operand) old (join vs) now
    row_done join differs = subst (λ v. Reads (row sign join operand) old v now) (all vs
        (λ one. differs (w.tests.is.1 _ (i.several one))))
        (row_ends sign operand w.expect_laws w.laws w.apart join i.carries (expect_elsewhere w.tests now differs))
      where
        all : (us : List V) → (length us ≡ 1 → ⊥) → joined join us ≡ join us
        all [] several = refl
        all (u ∷ []) several = absurd (several refl)
        all (u ∷ x ∷ us) several = refl

    module _ (e : (next_of now).sign.kind ≡ kind) {mid : Stream Sign} (n : mid ≡ behind_next now) where
      pub row_more : {new : Stream Sign} {ws : List V} {v : V} → Reads operand mid v new → ws ≡ with_last vs v →
          IsRow sign operand old ws new
      row_more {new} {v = v} r is =
          let long : length (with_last vs v) ≡ length vs + 1 = length-append vs (v ∷ []) in
          let some = i.some in
          subst (λ us. IsRow sign operand old us new) (sym is)
          (grind (arith, row_goes_on sign operand w.expect_laws w.laws w.apart i.carries (expect_read w.tests e n) r))

      pub row_fails : (join : List V → V) → Leads (row sign join operand) old operand mid
      row_fails join = search (rules, row_stops, expect_read)

  pub row_shrinks : (now : Stream Sign) {mid new : Stream Sign} {v : V} → mid ≡ behind_next now →
      Reads operand mid v new → length new.pieces < length now.pieces
  row_shrinks now {mid} {new} n r =
      let b : length new.pieces < length mid.pieces = reads_shrinks (λ v h. w.laws.null v h) r in
      omega (arith, behind_shrinks now mid n)
