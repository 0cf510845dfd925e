-- Lemmas about moving forward by one byte in a string, and from token to token.
use Rattle.std.proofs.Common.{◌≡◌, ◌≢◌, ℕ, suc, zero, ◌+◌, ◌-◌, ◌<◌, ◌≤◌, Bool, true, false, List, [], ◌∷◌, rules}
use Rattle.std.proofs.Common.{length, get_or, take, drop, refl, ap, arith, add-one, nat_eq}
use Rattle.std.specs.Prelude.{None, Some}
use Rattle.std.proofs.Math.Seq.{drop-cons}
use Rattle.std.proofs.lemmas.List.{drop_all, drop-drop}
use Rattle.ps_text.proofs.NestedComments.{plus, plus-one_more}
use Rattle.ps_text.specs.Answers.{Piece}
use Rattle.ps_hoa.specs.Tokens.{Sign}
use Rattle.ps_hoa.specs.declared.tokens.Kind.{Kind}
use Rattle.ps_hoa.specs.declared.tokens.Step.{Step}
use Rattle.ps_hoa.specs.declared.tokens.Step.TheVariants.{Skip, Found}
use Rattle.ps_hoa.proofs.Lexing.TokenSteps.{differ}
use Rattle.ps_hoa.specs.Scan.{quoted_len, lex, lex_behind, scan_step}

pub quoted_skip : (bs : List ℕ) (at : ℕ) → at < length bs → plus at (quoted_len (drop at bs) true) ≡ plus (at + 1)
    (quoted_len (drop (at + 1) bs) false)
unfolding quoted_len
quoted_skip bs at h =
    rw (drop-cons bs at 0 h, add-one at) (rw add-one at (plus-one_more at (quoted_len (drop (suc at) bs) false)))

pub quoted_ends : (bs : List ℕ) (at : ℕ) → at < length bs → get_or bs at 0 ≡ 34 →
    plus at (quoted_len (drop at bs) false) ≡ Some (at + 1)
unfolding quoted_len
quoted_ends bs at h is = rw (drop-cons bs at 0 h, is) refl

pub quoted_on : (bs : List ℕ) (at : ℕ) → at < length bs → get_or bs at 0 ≢ 34 →
    plus at (quoted_len (drop at bs) false) ≡ plus (at + 1) (quoted_len (drop (at + 1) bs) (nat_eq (get_or bs at 0) 92))
unfolding quoted_len
quoted_on bs at h is = search (rules, drop-cons, differ, plus-one_more)

pub quoted_past : (bs : List ℕ) (skip : Bool) (at : ℕ) → length bs ≤ at → plus at (quoted_len (drop at bs) skip) ≡ None
unfolding quoted_len
quoted_past bs skip at h = rw (drop_all at bs h) refl

-- ## The list of tokens

pub lex_skips : (bytes : List ℕ) (n at : ℕ) → lex_behind bytes n at ≡ lex_behind (drop n bytes) 0 (at + n)
unfolding lex_behind
lex_skips [] zero at = refl
lex_skips [] (suc n) at = refl
lex_skips (b ∷ bs) zero at = let e : at ≡ at + 0 = omega arith in ap (λ (k : ℕ). lex_behind (b ∷ bs) 0 k) e
lex_skips (b ∷ bs) (suc n) at = grind (arith, lex_skips bs n (at + 1))

-- the list of tokens of a text, given what the scan finds at the first byte
abbrev lex_by : ℕ → List ℕ → ℕ → Step → List (Piece Sign)
lex_by b bs at s = elim s [
  | Skip n ↦ lex_behind bs (n - 1) (at + 1)
  | Found kind n ↦ record { sign = record { kind = kind; text = take n (b ∷ bs) }; start = at } ∷ lex_behind bs
      (n - 1) (at + 1)
]

lex_is : (b : ℕ) (bs : List ℕ) (at : ℕ) → lex at (b ∷ bs) ≡ lex_by b bs at (scan_step (b ∷ bs))
unfolding lex_behind
lex_is b bs at = refl

pub nothing_begins : (n : ℕ) → scan_step [] ≡ Skip n → ⊥
unfolding scan_step
nothing_begins n is = cc

pub lex_nothing : (at : ℕ) → lex at [] ≡ []
unfolding lex_behind
lex_nothing at = refl

-- after blanks are skipped, the rest of the text has the same tokens
pub lex_skip : (bytes : List ℕ) (n at : ℕ) → scan_step bytes ≡ Skip n → 0 < n →
    lex at bytes ≡ lex (at + n) (drop n bytes)
lex_skip bytes n at h k = search (rules, nothing_begins, lex_is, lex_skips)

pub lex_token : (bytes : List ℕ) (kind : Kind) (n at : ℕ) → 0 < length bytes → scan_step bytes ≡ Found kind n → 0 < n →
    lex at bytes ≡ record { sign = record { kind = kind; text = take n bytes }; start = at } ∷ lex
    (at + n) (drop n bytes)
lex_token bytes kind n at h k m = search (rules, lex_is, lex_skips)

-- one iteration of a loop that skips blanks and comments
pub lex_step : (source : List ℕ) (from at n : ℕ) → scan_step (drop at source) ≡ Skip n → 0 < n →
    lex at (drop at source) ≡ lex from (drop from source) → lex (at + n) (drop (at + n) source) ≡ lex from
    (drop from source)
lex_step source from at n is some so_far = grind (arith, drop-drop n at source, lex_skip (drop at source) n at is some)
