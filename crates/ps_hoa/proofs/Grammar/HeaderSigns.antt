-- The parts of a header that consist of a single token.
-- - `reads_token`: a function whose result is right for the next token meets the contract of parsing a single token
-- - `signs_expect` to `signs_body`: each grammar of a single token accepts some token, and the end of the text is
--   neither accepted nor an error
-- - `takes_refused`, `takes_bad`: the contract `Takes` holds for the fault of a token that is not allowed here, and for
--   the fault of a token with an error
-- - `of_taken`: if a property holds for each value that the token can have when it is accepted, it holds for the value
--   that a function returns for the token
use Rattle.std.proofs.Common.{◌≡◌, ℕ, ◌≤◌, Bool, cond, List, [], codes, Option, None, Some, Result, Ok, Err, IfOk}
use Rattle.std.proofs.Common.{false, refl, sym, ap, inl, inr, arith}
use Rattle.ps_text.specs.Answers.{Piece, Stream}
use Rattle.ps_text.specs.Parts.{one, NoBad, refusal_of}
use Rattle.ps_text.specs.Readers.{Meets}
use Rattle.ps_hoa.specs.Causes.{cause_number, hoa_causes, found_of, HoaFault}
use Rattle.ps_hoa.specs.Inner.Flaws.{body_in}
use Rattle.ps_hoa.specs.Grammar.ItemNames.{item_named}
use Rattle.ps_hoa.specs.Grammar.Header.{HeaderData, item_in, IsBadItem, int_in, IsAbove, string_in, IsBadName}
use Rattle.ps_hoa.specs.Grammar.Header.{IsBadAlias, IsBadBody, is_name_among}
use Rattle.ps_hoa.specs.Inner.Items.{alias_name_in, read_over_in}
use Rattle.ps_hoa.specs.Grammar.Operands.{expect_in, number_limit}
use Rattle.ps_hoa.specs.Inner.Reads.{IsTaken, Takes}
use Rattle.ps_hoa.specs.Scan.{next_of, behind_next}
use Rattle.ps_hoa.specs.Inner.Signs.{IsTestOf}
use Rattle.ps_hoa.specs.Tokens.{Sign}
use Rattle.ps_hoa.specs.declared.fault.HoaCause.{HoaCause}
use Rattle.ps_hoa.specs.declared.fault.HoaCause.TheVariants.{Limit, Name}
use Rattle.ps_text.specs.declared.faults.Fault.TheVariants.{Text as Fault}
use Rattle.ps_hoa.specs.declared.header.items.Item.TheVariants as items
use Rattle.ps_hoa.specs.declared.tokens.Kind.{Kind}
use Rattle.ps_hoa.specs.declared.tokens.Kind.TheVariants.{Header, Int, Text, Word, AliasName, Body, Finish}
use Rattle.ps_hoa.proofs.Reading.SingleTokens.{IsOfSigns, reads_one}

pub reads_token : {V X : Type 0} (view : X → V) {take : Sign → Option V} {Bad : Sign → HoaCause → Type 0} →
    IsOfSigns take Bad → (piece : Piece Sign) (old new : Stream Sign) (result : Result X HoaFault) →
    Takes view take Bad piece result → piece ≡ next_of old → new ≡ behind_next old →
    Meets found_of hoa_causes view (one take Bad) old result new
reads_token view {take} {Bad} o piece old new r t e n = grind (arith, reads_one)

-- `expect_in` rejects a token of any kind but the expected one
pub expect_none : (test : Kind → Bool) (kind : Kind) (sign : Sign) → IsTestOf test kind → (sign.kind ≡ kind → ⊥) →
    expect_in test sign ≡ None
expect_none test kind sign is differs = grind arith

-- proves `IsOfSigns` from the kind, the text and the value of one token that the grammar accepts
signs : {V : Type 0} {take : Sign → Option V} {Bad : Sign → HoaCause → Type 0} (kind : Kind) (text : List ℕ) (v : V) →
    take (record { kind = kind; text = text }) ≡ Some v → take (record { kind = Finish; text = [] }) ≡ None →
    ((f : HoaCause) → Bad (record { kind = Finish; text = [] }) f → ⊥) → IsOfSigns take Bad
signs kind text v e n g = record { sign = record { kind = kind; text = text }; value = v; taken = e; end = n; good = g }

-- a test for one kind of token, other than `Finish`, accepts some token and rejects the end of the text
pub signs_expect : (test : Kind → Bool) (kind : Kind) → IsTestOf test kind → (kind ≡ Finish → ⊥) →
    IsOfSigns (expect_in test) NoBad
signs_expect test kind is differs = signs kind [] tt (ap (λ (b : Bool). cond b (Some tt) None) is.0)
    (expect_none test kind (record { kind = Finish; text = [] }) is (λ e. differs (sym e))) (λ f b. b)

pub signs_item : (h : HeaderData) → IsOfSigns item_in (IsBadItem h)
unfolding item_named
signs_item h = signs Header (codes "a:") items.Other refl refl (λ f b. b.1 refl)

pub signs_int : (limit : ℕ) → IsOfSigns int_in (IsAbove limit)
signs_int limit = signs Int [] _ refl refl (λ f b. b.1 refl)

pub signs_string : IsOfSigns string_in NoBad
signs_string = signs Text [] _ refl refl (λ f b. b)

pub signs_new_name : (names : List (List ℕ)) → IsOfSigns string_in (IsBadName names)
signs_new_name names = signs Text [] _ refl refl (λ f b. b.1 refl)

pub signs_alias : (names : List (List ℕ)) → IsOfSigns alias_name_in (IsBadAlias names)
signs_alias names = signs AliasName [] _ refl refl (λ f b. b.1 refl)

pub signs_read_over : (h : HeaderData) → IsOfSigns (read_over_in h) (IsAbove number_limit)
signs_read_over h = signs Word [] h refl refl (λ f b. b.1 refl)

pub signs_body : (h : HeaderData) → IsOfSigns (body_in h) (IsBadBody h)
signs_body h = signs Body [] h refl refl (λ f b. cc)

-- ## The result for one token

module _ {V X : Type 0} (view : X → V) (take : Sign → Option V) (Bad : Sign → HoaCause → Type 0) (piece : Piece Sign)
    (e : HoaFault) where
  pub takes_refused : take piece.sign ≡ None → ((g : HoaCause) → Bad piece.sign g → ⊥) →
      e ≡ Fault (refusal_of hoa_causes (Some piece.sign)) piece.start → Takes view take Bad piece (Err e)
  takes_refused none good is = rw is (refl, inr (record { none = none; good = good; cause = refl }))

  pub takes_bad : (f : HoaCause) → Bad piece.sign f → ((g : HoaCause) → Bad piece.sign g →
      cause_number f ≤ cause_number g) → e ≡ Fault f piece.start → Takes view take Bad piece (Err e)
  takes_bad f bad least is = rw is (refl, inl (record { stands = bad; least = least }))

-- if a token can have only one error, this error is the one with the smallest number
pub least_same : (f g : HoaCause) → g ≡ f → cause_number f ≤ cause_number g
least_same f g e = rw e (omega arith)

-- ## The value of one token

-- if P holds for each value that the token can have when it is accepted, P holds for the value of `result`, unless
-- `result` is an error
pub of_taken : {V X : Type 0} {view : X → V} {take : Sign → Option V} {Bad : Sign → HoaCause → Type 0}
    (piece : Piece Sign) (result : Result X HoaFault) (P : X → Type 0) →
    ((x : X) → IsTaken take Bad piece.sign (view x) → P x) → Takes view take Bad piece result → IfOk result P
of_taken piece (Ok x) P holds t = holds x t
of_taken piece (Err e) P holds t = tt

pub int_within : (limit n : ℕ) (s : Sign) → IsTaken int_in (IsAbove limit) s n → n ≤ limit
int_within limit n s t = grind (arith, t.some, t.good Limit)

pub name_new : (names : List (List ℕ)) (name : List ℕ) (s : Sign) → IsTaken string_in (IsBadName names) s name →
    is_name_among name names ≡ false
name_new names name s t = grind (arith, t.some, t.good Name)
