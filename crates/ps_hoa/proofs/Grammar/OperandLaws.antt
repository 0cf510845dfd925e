-- Proofs of `Laws` for single tokens, operands in parentheses, and rows of operands: which tokens can begin them, and
-- which can continue them. The second half of this file is about the loop that parses operands with connectives between
-- them: its invariant, and each way in which the parsing function can return.
-- - `Known`, `Tight`: the laws of a grammar, stated with sets of kinds of tokens
-- - `laws_behind`, `laws_held`, `laws_row`: proofs of `Laws` for a token and the part after it, for a part and the `)`
--   after it, and for a row of operands
-- - `joint_expect`, `joint_closed`, `joint_operands`: `Joint` for a token and the part after it, for a part and the `)`
--   after it, and for the first operand and the further operands
-- - `row_fails`, `row_alone`, `row_begins`, `row_goes_on`, `row_stops`, `row_ends`: the loop over the operands goes on,
--   stops at an error, or ends
use Rattle.std.proofs.Common.{arith, ◌≡◌, Bool, true, false, cond, List, Option, None, Some, inl}
use Rattle.ps_text.specs.Answers.{Stream, Found, next_of, signs}
use Rattle.ps_text.specs.Parts.{Part, then_by, many, mapped}
use Rattle.ps_text.specs.Readers.{Stops, Reads, Carries}
use Rattle.ps_text.proofs.Combinators.Following.{laws_next, laws_tight}
use Rattle.ps_text.proofs.Combinators.Combined.{both_within, joint_tight}
use Rattle.ps_text.proofs.Combinators.Laws.{Laws, Joint, Nothing, Or, Apart, weaker}
use Rattle.ps_text.proofs.Combinators.Joined.{joint}
use Rattle.ps_text.proofs.Combinators.Simple.{none_is_some, laws_mapped, laws_then}
use Rattle.ps_text.proofs.Combinators.Covered.{Avoids, enters_read, enters_then}
use Rattle.ps_text.proofs.Combinators.Repeated.{laws_many}
use Rattle.ps_text.proofs.ParsedAnswers.Exits.{reads_mapped, reads_then, stops_mapped, stops_first, stops_behind}
use Rattle.ps_text.proofs.ParsedAnswers.Exits.{carries_start}
use Rattle.ps_text.proofs.ParsedAnswers.Exits.{carries_then, carries_reads, carries_stops}
use Rattle.ps_text.proofs.ParsedAnswers.Branches.{many_ends, many_fails, carries_many}
use Rattle.ps_text.proofs.ParsedAnswers.Whole.{Own}
use Rattle.ps_hoa.specs.Tokens.{Sign}
use Rattle.ps_hoa.specs.Causes.{hoa_causes}
use Rattle.ps_hoa.specs.Grammar.Operands.{is_right, expect_in, expect, closed, single, with_last, joined, further}
use Rattle.ps_hoa.specs.Grammar.Operands.{operands}
use Rattle.ps_hoa.specs.Grammar.Operands.{row}
use Rattle.ps_hoa.specs.declared.fault.HoaCause.{HoaCause}
use Rattle.ps_hoa.specs.declared.tokens.Kind.{Kind}

-- tokens that are errors wherever they occur, so that no grammar accepts them
abbrev pub Odd : Sign → Type 0
Odd = Own hoa_causes

-- tokens of a kind that passes a test
abbrev pub Of : (Kind → Bool) → Sign → Type 0
Of test sign = test sign.kind ≡ true

-- `Laws` of a grammar, stated with sets of kinds of tokens: the kinds that begin its texts, the kinds that can continue
-- them, and whether the empty text is one of its texts. A grammar that satisfies `Tight` has no empty text, and no
-- token can continue its texts.
abbrev pub Known : {V : Type 0} → Part Sign V HoaCause → (Kind → Bool) → (Kind → Bool) → Type 0 → Type 0
Known part first more null = Laws Odd part (Of first) (Of more) null

abbrev pub Tight : {V : Type 0} → Part Sign V HoaCause → (Kind → Bool) → Type 0
Tight part first = Laws Odd part (Of first) Nothing ⊥

-- false is not true
pub false_true : false ≡ true → ⊥
false_true e = let x : false ≡ true = e in cc

pub was_true : (b : Bool) (v : Unit {0}) → cond b (Some tt) None ≡ Some v → b ≡ true
was_true b v e = grind (arith, none_is_some)

pub taken_expect : (test : Kind → Bool) (sign : Sign) (v : Unit {0}) → expect_in test sign ≡ Some v → Of test sign
taken_expect test sign v e = was_true (test sign.kind) v e

-- if one of two sets of tokens is empty, no token is in both
pub nothing_apart : (A : Sign → Type 0) → Apart Nothing A
nothing_apart A t h k = h

-- `Joint` and `Laws` for a token with any grammar after it, and for any grammar with the token `)` after it
module _ {V : Type 0} (test : Kind → Bool) {P : Part Sign V HoaCause} {First More : Sign → Type 0}
    (m : Tight (expect test) test) where
  pub joint_expect : {Null : Type 0} → Laws Odd P First More Null → Joint (expect test) (λ _. P)
  joint_expect l = joint_tight m (λ _. l)

  pub laws_behind : Laws Odd P First More ⊥ → Laws Odd (then_by (expect test) (λ _. P)) (Of test) More ⊥
  laws_behind l = laws_tight m (λ _. l)

module _ {V : Type 0} {P : Part Sign V HoaCause} {First More : Sign → Type 0}
    (r : Tight (expect is_right) is_right) where
  pub joint_closed : {Null : Type 0} → Laws Odd P First More Null → Apart More (Of is_right) → Joint P (λ v. closed v)
  joint_closed l a = joint l (λ v. laws_mapped _ _ r) a

  pub laws_held : Laws Odd P First More ⊥ → Apart More (Of is_right) →
      Laws Odd (then_by P (λ v. closed v)) First Nothing ⊥
  laws_held l a = laws_next l (λ v. laws_mapped _ _ r) a

module _ {V : Type 0} (sign : Kind → Bool) (operand : Part Sign V HoaCause) {First More : Sign → Type 0}
    (m : Tight (expect sign) sign) (l : Laws Odd operand First More ⊥) (apart : Apart More (Of sign)) where
  abbrev item : List V → Part Sign (List V) HoaCause
  item vs = further sign operand vs

  laws_item : (vs : List V) → Laws Odd (item vs) (Of sign) More ⊥
  laws_item vs = laws_behind sign m (laws_mapped _ _ l)

  pub joint_operands : Joint (mapped single operand) (λ vs. many (λ ws. further sign operand ws) vs)
  joint_operands = joint (laws_mapped _ _ l) (laws_many item laws_item apart) apart

  pub laws_row : (join : List V → V) → Laws Odd (row sign join operand) First (Or More (Of sign)) ⊥
  laws_row join = laws_mapped _ _ (weaker (laws_then (laws_mapped _ _ l) (laws_many item laws_item apart) apart)
      (both_within (λ t h. h) (λ t h. absurd h.0)) (both_within (λ t h. h) (λ t h. inl h.1)) (λ n. n.0))

  -- if the first operand has an error, this is the first error of the whole row of operands
  pub row_fails : (join : List V → V) (old : Stream Sign) (o : Option (Found HoaCause)) →
      Stops hoa_causes operand old o → Stops hoa_causes (row sign join operand) old o
  row_fails join old o s = grind (arith, stops_mapped, stops_first, joint_operands)

  -- if no connective follows the first operand, the row of operands consists of this operand
  pub row_alone : (join : List V → V) {old new : Stream Sign} {v : V} → Reads operand old v new →
      Avoids (Of sign) (next_of new) → Reads (row sign join operand) old v new
  row_alone join {new = new} {v = v} r a = reads_mapped (joined join)
      (reads_then joint_operands (reads_mapped single r) (many_ends item laws_item apart (single v) new a))

  -- the invariant of the loop that parses a row of operands, after some operands were parsed
  abbrev pub InRow : Stream Sign → List V → Stream Sign → Type 0
  InRow old vs now = Carries hoa_causes (operands sign operand) old (many (λ ws. further sign operand ws) vs) now

  pub row_begins : {old now : Stream Sign} {v : V} → Reads operand old v now → InRow old (single v) now
  row_begins {old = old} r = carries_then hoa_causes joint_operands
      (carries_start hoa_causes (operands sign operand) old) (reads_mapped single r)

  joint_item : (vs : List V) → Joint (expect sign) (λ _. mapped (with_last vs) operand)
  joint_item vs = joint_expect sign m (laws_mapped _ _ l)

  pub row_goes_on : {old now mid new : Stream Sign} {vs : List V} {v : V} → InRow old vs now →
      Reads (expect sign) now tt mid → Reads operand mid v new → InRow old (with_last vs v) new
  row_goes_on {vs = vs} k r n =
      carries_many item laws_item apart hoa_causes k (reads_then (joint_item vs) r (reads_mapped (with_last vs) n))

  -- if a further operand has an error, this is the first error of the whole row of operands
  pub row_stops : (join : List V → V) {old now mid : Stream Sign} {vs : List V} (o : Option (Found HoaCause)) →
      InRow old vs now → Reads (expect sign) now tt mid → Stops hoa_causes operand mid o →
      Stops hoa_causes (row sign join operand) old o
  row_stops join {old} {now} {mid} {vs} o k r s = stops_mapped hoa_causes (joined join) (operands sign operand) old o
      (carries_stops hoa_causes (operands sign operand) (many item vs) old now o k (many_fails item laws_item apart
      hoa_causes vs now o (enters_then (expect sign) (λ _. mapped (with_last vs) operand) (joint_item vs) (next_of now)
      (enters_read (expect sign) (signs now.pieces) (signs mid.pieces) tt (λ w h. m.null w h) r.1))
      (stops_behind hoa_causes (joint_item vs) r o (stops_mapped hoa_causes (with_last vs) operand mid o s))))

  -- if no connective follows, the row consists of the operands that were parsed so far
  pub row_ends : (join : List V → V) {old now : Stream Sign} {vs : List V} → InRow old vs now →
      Avoids (Of sign) (next_of now) → Reads (row sign join operand) old (joined join vs) now
  row_ends join {now = now} {vs = vs} k a =
      reads_mapped (joined join) (carries_reads hoa_causes k (many_ends item laws_item apart vs now a))
