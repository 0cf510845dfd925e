-- Lemmas for two kinds of functions: those that read a single token, and those that parse a part in parentheses.
-- - `Tests test kind`: the given kind is the only one that passes the test
-- - `sign_begins`, `avoids_kind`: the next token begins a text of the grammar of one token (`sign_begins`), or is not
--   in a set of tokens (`avoids_kind`)
-- - `expect_read`, `expect_begins`, `expect_elsewhere`: a next token of the expected kind is parsed, and begins the
--   grammar; a next token of another kind does not pass the test for the expected kind
-- - `tests_not` to `tests_string`: each of the tests `is_not` to `is_string` accepts exactly one kind of tokens
-- - `inner_reads`, `inner_fails`, `inner_stays_open`: the results of parsing a part in parentheses, after the `(` was
--   parsed
use Rattle.std.proofs.Common.{◌≡◌, ◌≤◌, Bool, true, cond, length, Option, None, Some, Ok, refl, sym, ap, subst, ◌∙◌}
use Rattle.std.proofs.Common.{inl, rules}
use Rattle.ps_text.specs.Answers.{Stream, next_of as there_of}
use Rattle.ps_text.specs.Parts.{Part, one, then_by, either}
use Rattle.ps_text.specs.Readers.{Reads}
use Rattle.ps_text.proofs.Combinators.Laws.{Laws, Joint, Apart}
use Rattle.ps_text.proofs.Combinators.Covered.{Enters, Avoids, enters_one}
use Rattle.ps_text.proofs.ParsedAnswers.Exits.{reads_then, reads_mapped}
use Rattle.ps_hoa.specs.Grammar.Body.{is_left_brace, is_right_brace, is_left_bracket, is_right_bracket}
use Rattle.ps_hoa.specs.Grammar.Operands.{is_not, is_and, is_or, is_left, is_right, expect_in, expect, inner, before}
use Rattle.ps_hoa.specs.Grammar.Operands.{closed}
use Rattle.ps_hoa.specs.Scan.{next_of, behind_next}
use Rattle.ps_hoa.specs.Tokens.{Sign}
use Rattle.ps_hoa.specs.declared.fault.HoaCause.{HoaCause}
use Rattle.ps_hoa.specs.declared.tokens.Kind.{Kind}
use Rattle.ps_hoa.specs.declared.tokens.Kind.TheVariants.{Finish, Not, And, Or, LeftParen, RightParen, Int, Text}
use Rattle.ps_hoa.specs.declared.tokens.Kind.TheVariants.{LeftBrace, RightBrace, LeftBracket, RightBracket}
use Rattle.ps_hoa.specs.Inner.Signs.{IsTestOf}
use Rattle.ps_hoa.proofs.Grammar.ConditionLaws.{is_int}
use Rattle.ps_hoa.proofs.Grammar.HeaderSigns.{signs_expect}
use Rattle.ps_hoa.proofs.Grammar.KindSets.{test_of}
use Rattle.ps_hoa.proofs.Grammar.InfixLaws.{laws_left, laws_right}
use Rattle.ps_hoa.proofs.Grammar.OperandLaws.{Odd, Of, joint_expect, joint_closed, laws_held}
use Rattle.ps_hoa.proofs.Grammar.TokenLaws.{is_string}
use Rattle.ps_hoa.proofs.Reading.HoaExits.{Leads, first, behind, under}
use Rattle.ps_hoa.proofs.Reading.NextSign.{next_there, next_same}
use Rattle.ps_hoa.proofs.Reading.SingleTokens.{reads_one}

pub record Tests (test : Kind → Bool) (kind : Kind) : Type 0 where
  pub is : IsTestOf test kind
  pub proper : kind ≡ Finish → ⊥

-- a token that the grammar of one token accepts begins a text of this grammar
pub sign_begins : {V : Type 0} (take : Sign → Option V) (Bad : Sign → HoaCause → Type 0) (s : Stream Sign) {v : V} →
    ((next_of s).sign.kind ≡ Finish → ⊥) → take (next_of s).sign ≡ Some v → Enters (one take Bad) (there_of s)
sign_begins take Bad s {v} proper e =
    subst (Enters (one take Bad)) (sym (next_there s proper)) (enters_one take Bad (next_of s).sign (inl (v, e)))

-- if the test of a set of kinds rejects the kind of the next token, the token is not in the set
pub avoids_kind : (test : Kind → Bool) (s : Stream Sign) → (test (next_of s).sign.kind ≡ true → ⊥) →
    Avoids (Of test) (there_of s)
avoids_kind test s h t e k = h (ap (λ (u : Sign). test u.kind) (next_same s t e) ∙ k)

module _ {test : Kind → Bool} {kind : Kind} (tests : Tests test kind) where
  pub taken_there : (sign : Sign) → sign.kind ≡ kind → expect_in test sign ≡ Some tt
  taken_there sign e = ap (λ (b : Bool). cond b (Some tt) None) (ap test e ∙ tests.is.0)

  pub expect_read : {old new : Stream Sign} → (next_of old).sign.kind ≡ kind → new ≡ behind_next old →
      Reads (expect test) old tt new
  expect_read {old = old} {new = new} e n = reads_one (λ u. u) (signs_expect test kind tests.is tests.proper) old new
      (Ok tt) (record { some = taken_there (next_of old).sign e; good = λ f b. b }) n

  pub expect_begins : (s : Stream Sign) → (next_of s).sign.kind ≡ kind → Enters (expect test) (there_of s)
  expect_begins s e = search (rules, sign_begins, taken_there)

  pub expect_elsewhere : (stream : Stream Sign) → ((next_of stream).sign.kind ≡ kind → ⊥) →
      Avoids (Of test) (there_of stream)
  expect_elsewhere s differs = avoids_kind test s (λ h. differs (tests.is.1 (next_of s).sign.kind h))

-- moving past a token does not increase the number of remaining tokens
pub behind_shrinks : (s new : Stream Sign) → new ≡ behind_next s → length new.pieces ≤ length s.pieces
behind_shrinks s new e = search rules

pub tests_not : Tests is_not Not
tests_not = record { is = test_of is_not Not refl refl; proper = λ e. cc }

pub tests_and : Tests is_and And
tests_and = record { is = test_of is_and And refl refl; proper = λ e. cc }

pub tests_or : Tests is_or Or
tests_or = record { is = test_of is_or Or refl refl; proper = λ e. cc }

pub tests_left : Tests is_left LeftParen
tests_left = record { is = test_of is_left LeftParen refl refl; proper = λ e. cc }

pub tests_right : Tests is_right RightParen
tests_right = record { is = test_of is_right RightParen refl refl; proper = λ e. cc }

pub tests_left_brace : Tests is_left_brace LeftBrace
tests_left_brace = record { is = test_of is_left_brace LeftBrace refl refl; proper = λ e. cc }

pub tests_right_brace : Tests is_right_brace RightBrace
tests_right_brace = record { is = test_of is_right_brace RightBrace refl refl; proper = λ e. cc }

-- `is_left_bracket` accepts exactly the kind `LeftBracket`
pub tests_left_bracket : Tests is_left_bracket LeftBracket
tests_left_bracket = record { is = test_of is_left_bracket LeftBracket refl refl; proper = λ e. cc }

pub tests_right_bracket : Tests is_right_bracket RightBracket
tests_right_bracket = record { is = test_of is_right_bracket RightBracket refl refl; proper = λ e. cc }

pub tests_int : Tests is_int Int
tests_int = record { is = test_of is_int Int refl refl; proper = λ e. cc }

pub tests_string : Tests is_string Text
tests_string = record { is = test_of is_string Text refl refl; proper = λ e. cc }

-- a token that begins the first alternative of `either` begins the whole grammar
pub enters_left : {V : Type 0} (P Q : Part Sign V HoaCause) (there : Option Sign) → Enters P there →
    Enters (either P Q) there
enters_left P Q there h = search rules

pub enters_right : {V : Type 0} (P Q : Part Sign V HoaCause) (there : Option Sign) → Enters Q there →
    Enters (either P Q) there
enters_right P Q there h = search rules

-- ## Parentheses

module _ {V : Type 0} {P : Part Sign V HoaCause} {First More : Sign → Type 0} (l : Laws Odd P First More ⊥)
    (apart : Apart More (Of is_right)) where
  joint_left : Joint (expect is_left) (λ _. then_by P (λ v. closed v))
  joint_left = joint_expect is_left laws_left (laws_held laws_right l apart)

  joint_right : Joint P (λ v. closed v)
  joint_right = joint_closed laws_right l apart

  pub inner_reads : {old mid next new : Stream Sign} {v : V} → Reads (expect is_left) old tt mid → Reads P mid v next →
      Reads (expect is_right) next tt new → Reads (inner P) old v new
  inner_reads {v = v} r m n = reads_then joint_left r (reads_then joint_right m (reads_mapped (before v) n))

  pub inner_fails : {old mid : Stream Sign} → Reads (expect is_left) old tt mid → Leads (inner P) old P mid
  inner_fails r = behind joint_left r (first joint_right)

  pub inner_stays_open : {old mid next : Stream Sign} {v : V} → Reads (expect is_left) old tt mid → Reads P mid v next →
      Leads (inner P) old (expect is_right) next
  inner_stays_open {v = v} r m = behind joint_left r (behind joint_right m (under (before v) (expect is_right)))
