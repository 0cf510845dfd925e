-- Lemmas about moving forward by one byte in a comment.
use Rattle.std.proofs.Common.{◌≡◌, ℕ, suc, zero, ◌+◌, ◌-◌, ◌<◌, ◌≤◌, ◌&&◌, Bool, true, false, List, [], ◌∷◌, rules}
use Rattle.std.proofs.Common.{length, get_or, drop, refl, ap, sym, ◌∙◌, arith, add-one, nat_eq}
use Rattle.std.specs.Prelude.{Option, None, Some}
use Rattle.std.proofs.Math.Seq.{drop-cons}
use Rattle.std.proofs.lemmas.List.{drop_all}
use Rattle.ps_text.specs.Comments.{one_more, comment_len, head_or_zero}

-- the sum of a number and an optional number, or `None` if the optional number is `None`
abbrev pub plus : ℕ → Option ℕ → Option ℕ
plus k None = None
plus k (Some n) = Some (k + n)

pub plus-one_more : (k : ℕ) (o : Option ℕ) → plus k (one_more o) ≡ plus (k + 1) o
plus-one_more k o = search rules

pub plus_zero : (o : Option ℕ) → plus 0 o ≡ o
plus_zero o = search rules

head-drop : (bs : List ℕ) (at : ℕ) → head_or_zero (drop at bs) ≡ get_or bs at 0
head-drop [] zero = refl
head-drop [] (suc at) = refl
head-drop (b ∷ bs) zero = refl
head-drop (b ∷ bs) (suc at) = head-drop bs at

-- the next byte
next-is : (bs : List ℕ) (at : ℕ) → head_or_zero (drop (suc at) bs) ≡ get_or bs (at + 1) 0
next-is bs at = head-drop bs (suc at) ∙ ap (λ (k : ℕ). get_or bs k 0) (sym (add-one at))

pub comment_skip : (bs : List ℕ) (at depth : ℕ) → at < length bs →
    plus at (comment_len (drop at bs) true depth) ≡ plus (at + 1) (comment_len (drop (at + 1) bs) false depth)
unfolding comment_len
comment_skip bs at depth h =
    rw (drop-cons bs at 0 h, add-one at) (rw add-one at (plus-one_more at (comment_len (drop (suc at) bs) false depth)))

abbrev pub is_pair : List ℕ → ℕ → ℕ → ℕ → Bool
is_pair bs at a b = nat_eq (get_or bs at 0) a && nat_eq (get_or bs (at + 1) 0) b

pub comment_ends : (bs : List ℕ) (at : ℕ) → at < length bs → is_pair bs at 42 47 ≡ true →
    plus at (comment_len (drop at bs) false 0) ≡ Some (at + 2)
unfolding comment_len
comment_ends bs at h close = rw (drop-cons bs at 0 h, next-is bs at, close) refl

pub comment_closes : (bs : List ℕ) (at depth : ℕ) → at < length bs → 0 < depth → is_pair bs at 42 47 ≡ true →
    plus at (comment_len (drop at bs) false depth) ≡ plus (at + 1) (comment_len (drop (at + 1) bs) true (depth - 1))
unfolding comment_len
comment_closes bs at zero h some close = absurd (omega arith)
comment_closes bs at (suc depth) h some close = let same : suc depth - 1 ≡ depth = omega arith in
    rw (drop-cons bs at 0 h, next-is bs at, close, add-one at, same)
    (rw add-one at (plus-one_more at (comment_len (drop (suc at) bs) true depth)))

pub comment_opens : (bs : List ℕ) (at depth : ℕ) → at < length bs → is_pair bs at 42 47 ≡ false →
    is_pair bs at 47 42 ≡ true →
    plus at (comment_len (drop at bs) false depth) ≡ plus (at + 1) (comment_len (drop (at + 1) bs) true (depth + 1))
unfolding comment_len
comment_opens bs at depth h close begin = grind (
  arith,
  drop-cons bs at 0 h,
  next-is bs at,
  add-one at,
  add-one depth,
  plus-one_more at (comment_len (drop (suc at) bs) true (suc depth)),
)

pub comment_on : (bs : List ℕ) (at depth : ℕ) → at < length bs → is_pair bs at 42 47 ≡ false →
    is_pair bs at 47 42 ≡ false →
    plus at (comment_len (drop at bs) false depth) ≡ plus (at + 1) (comment_len (drop (at + 1) bs) false depth)
unfolding comment_len
comment_on bs at depth h close begin = rw (drop-cons bs at 0 h, next-is bs at, close, begin, add-one at)
    (rw add-one at (plus-one_more at (comment_len (drop (suc at) bs) false depth)))

pub comment_past : (bs : List ℕ) (skip : Bool) (at depth : ℕ) → length bs ≤ at →
    plus at (comment_len (drop at bs) skip depth) ≡ None
unfolding comment_len
comment_past bs skip at depth h = rw (drop_all at bs h) refl
