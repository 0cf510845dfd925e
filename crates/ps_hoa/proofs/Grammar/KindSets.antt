-- Lemmas about sets of kinds of tokens, and proofs that grammars of a single token satisfy `Laws`. Each lemma about
-- sets has a premise `Each`, which `refl` proves by trying all kinds of tokens.
-- - `within`, `within_both`, `apart`: one set is a subset of another, two sets are subsets of a third, or two sets have
--   no kind of tokens in common
-- - `test_of`: a set that contains the given kind and no other satisfies `IsTestOf`
-- - `plain`: no token whose kind is in the set is an error by itself
-- - `laws_sign`: the grammar of a token whose kind is in a set satisfies `Laws`
-- - `laws_value`: `Laws` for a token whose kind is in a set, and which has no error unless it has a value
-- - `laws_expect`: `Laws` for a token whose kind is in a set, and which has no value
-- - `laws_behind_option`: `Laws` for a grammar in which an optional part is followed by another part
use Rattle.std.proofs.Common.{rules, ◌≡◌, ℕ, zero, suc, ◌<◌, Bool, true, not, cond, List, [], ◌∷◌, length, get_or}
use Rattle.std.proofs.Common.{Option, None, Some, is_some, sym, ap, subst, ◌∙◌, arith, ◌&&◌, ◌||◌}
use Rattle.std.proofs.lemmas.Bool.{and_parts, or_left, or_right}
use denote.Enum.Bare.{sameb, same_true}
use denote.Enum.Declared.{tag_of}
use Rattle.ps_text.specs.Parts.{Part, one, then_by}
use Rattle.ps_text.proofs.Combinators.Laws.{Or, Within, Apart, weaker}
use Rattle.ps_text.proofs.Combinators.Combined.{both_within, laws_first}
use Rattle.ps_text.proofs.Combinators.Simple.{Taken, BadSign, none_is_some, laws_then}
use Rattle.ps_hoa.specs.Causes.{own_cause}
use Rattle.ps_hoa.specs.Inner.Signs.{IsTestOf}
use Rattle.ps_hoa.specs.Grammar.Operands.{expect_in, expect}
use Rattle.ps_hoa.specs.Tokens.{Sign}
use Rattle.ps_hoa.specs.contracts.tokens.Kind.{the_type}
use Rattle.ps_hoa.specs.declared.fault.HoaCause.{HoaCause}
use Rattle.ps_hoa.specs.declared.tokens.Kind.{Kind}
use Rattle.ps_hoa.specs.declared.tokens.Kind.TheVariants.{Header, HeaderAgain, Word, AliasName, Int, ZeroRun, Text, Not}
use Rattle.ps_hoa.specs.declared.tokens.Kind.TheVariants.{And, Or as OrSign, LeftParen, RightParen, LeftBracket}
use Rattle.ps_hoa.specs.declared.tokens.Kind.TheVariants.{RightBracket, LeftBrace, RightBrace, Body, End, Abort}
use Rattle.ps_hoa.specs.declared.tokens.Kind.TheVariants.{OpenComment, Odd as OddSign, Behind, Finish}
use Rattle.ps_hoa.proofs.Grammar.OperandLaws.{Odd, Of, false_true, Tight, Known}

abbrev kinds : List Kind
kinds = Header ∷ HeaderAgain ∷ Word ∷ AliasName ∷ Int ∷ ZeroRun ∷ Text ∷ Not ∷ And ∷ OrSign ∷ LeftParen ∷ RightParen ∷
    LeftBracket ∷ RightBracket ∷ LeftBrace ∷ RightBrace ∷ Body ∷ End ∷ Abort ∷ OpenComment ∷ OddSign ∷ Behind ∷
    Finish ∷ []

abbrev all : (Kind → Bool) → List Kind → Bool
all p [] = true
all p (k ∷ ks) = p k && all p ks

abbrev pub Each : (Kind → Bool) → Type 0
Each p = all p kinds ≡ true

chosen : (b c d : Bool) → cond b c d ≡ true → b ≡ true → c ≡ true
chosen b c d e h = grind (arith, false_true)

at : (p : Kind → Bool) (ks : List Kind) (n : ℕ) → n < length ks → all p ks ≡ true → p (get_or ks n Finish) ≡ true
at p [] n l e = absurd (omega (arith, l))
at p (k ∷ ks) zero l e = (and_parts (p k) (all p ks) e).0
at p (k ∷ ks) (suc n) l e = at p ks n (omega (arith, l)) (and_parts (p k) (all p ks) e).1

-- a kind's index in the list `kinds` is its tag, which is the number of its variant
place : (k : Kind) → (tag_of the_type k < length kinds) × (get_or kinds (tag_of the_type k) Finish ≡ k)
place k = grind arith

each : (p : Kind → Bool) → Each p → (k : Kind) → p k ≡ true
each p e k = subst (λ x. p x ≡ true) (place k).1 (at p kinds (tag_of the_type k) (place k).0 e)

-- ## Sets of kinds

abbrev pub union : (Kind → Bool) → (Kind → Bool) → Kind → Bool
union p q k = p k || q k

abbrev pub inside : (Kind → Bool) → (Kind → Bool) → Kind → Bool
inside p q k = cond (p k) (q k) true

abbrev pub beside : (Kind → Bool) → (Kind → Bool) → Kind → Bool
beside p q k = cond (p k) (not (q k)) true

pub within : (p q : Kind → Bool) → Each (inside p q) → Within (Of p) (Of q)
within p q e t h = chosen (p t.kind) (q t.kind) true (each (inside p q) e t.kind) h

pub within_both : (p q r : Kind → Bool) → Each (inside p r) → Each (inside q r) → Within (Or (Of p) (Of q)) (Of r)
within_both p q r e f = both_within (within p r e) (within q r f)

pub apart : (p q : Kind → Bool) → Each (beside p q) → Apart (Of p) (Of q)
apart p q e t h k = false_true (sym (ap not k) ∙ within p (λ x. not (q x)) e t h)

pub test_of : (p : Kind → Bool) (kind : Kind) → p kind ≡ true → Each (λ k. cond (p k) (sameb the_type k kind) true) →
    IsTestOf p kind
test_of p kind is e = (
  is,
  λ k h. same_true the_type tt k kind
      (chosen (p k) (sameb the_type k kind) true (each (λ x. cond (p x) (sameb the_type x kind) true) e k) h),
)

-- ## One symbol

-- no token of a kind in the set is an error by itself, whatever its bytes; `take` gives no value to a token of any
-- other kind
abbrev pub AreSigns : {V : Type 0} → (Kind → Bool) → (Sign → Option V) → Type 0
AreSigns p take = (text : List ℕ) → Each (λ k. cond (p k) (not (is_some (own_cause k text)))
    (not (is_some (take (record { kind = k; text = text })))))

no_some : {V : Type 0} (o : Option V) (v : V) → not (is_some o) ≡ true → o ≡ Some v → ⊥
no_some o v e h = grind (arith, none_is_some, false_true)

pub plain : (p : Kind → Bool) → ((text : List ℕ) → Each (inside p (λ k. not (is_some (own_cause k text))))) →
    Apart (Of p) Odd
plain p e t h o = no_some (own_cause t.kind t.text) o.0
    (within p (λ k. not (is_some (own_cause k t.text))) (e t.text) t h) o.1

module _ {V : Type 0} (p : Kind → Bool) (take : Sign → Option V) (are : AreSigns p take) (t : Sign) where
  tried : cond (p t.kind) (not (is_some (own_cause t.kind t.text))) (not (is_some (take t))) ≡ true
  tried = each (λ k. cond (p k) (not (is_some (own_cause k t.text)))
      (not (is_some (take (record { kind = k; text = t.text }))))) (are t.text) t.kind

  has_kind : (take t ≡ None → ⊥) → Of p t
  has_kind h = grind (arith, is_some, tried, false_true)

  pub taken : Taken take t → Of p t
  taken h = has_kind (λ n. none_is_some h.0 (sym n ∙ h.1))

  is_right_by_itself : Of p t → Odd t → ⊥
  is_right_by_itself h o = no_some (own_cause t.kind t.text) o.0 (chosen (p t.kind) _ _ tried h) o.1

module _ {V : Type 0} {take : Sign → Option V} {Bad : Sign → HoaCause → Type 0} (p : Kind → Bool) (kind : Kind)
    (text : List ℕ) (v : V) (e : take (record { kind = kind; text = text }) ≡ Some v) (are : AreSigns p take) where
  pub laws_sign : Within (BadSign Bad) (Of p) → Tight (one take Bad) p
  laws_sign bad = search (rules, laws_first, is_right_by_itself, taken)

  pub laws_value : ((t : Sign) (f : HoaCause) → Bad t f → take t ≡ None → ⊥) → Tight (one take Bad) p
  laws_value bad = laws_sign (λ t h. has_kind p take are t (bad t h.0 h.1))

-- a token begins an optional part P followed by Q if it begins P, or if it begins Q
pub laws_behind_option : {A V : Type 0} {P : Part Sign A HoaCause} {Q : A → Part Sign V HoaCause} {Null : Type 0}
    (p q m : Kind → Bool) → Known P p p (Unit {0}) → ((a : A) → Known (Q a) q m Null) → Each (beside p q) →
    Each (inside p m) → Known (then_by P Q) (union p q) m Null
laws_behind_option p q m l r e f = weaker (laws_then l r (apart p q e)) (grind (arith, both_within, or_left, or_right))
    (both_within (λ t h. h) (λ t h. within p m f t h.1)) (λ n. n.1)

pub laws_expect : (p : Kind → Bool) (kind : Kind) → p kind ≡ true → AreSigns p (expect_in p) → Tight (expect p) p
laws_expect p kind e are = laws_sign p kind [] tt (ap (λ (b : Bool). cond b (Some tt) None) e) are (λ t h. absurd h.1)
