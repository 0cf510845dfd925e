-- If a list is split into two parts in two ways, the two first parts are equal, or the longer one begins with the
-- shorter one.
-- - `Compared`, `compared`: of two splits of a list, the first is at an earlier position than the second, at the same
--   position, or at a later one
-- - `Placed`, `placed`: if a list is split into `left` and `mid`, each symbol of the list is in `left` or in `mid`
-- - `inside_of`: a symbol at a smaller index than the first half's length is in the first half
-- - `all_taken_all`: if a list has at most v entries, a fact about its first v entries holds for all of its entries
use Rattle.std.proofs.Common.{◌≡◌, ℕ, suc, ◌+◌, ◌<◌, ◌≤◌, List, [], ◌∷◌, ◌++◌, length, take, drop, refl, sym, ap, subst}
use Rattle.std.proofs.Common.{◌∙◌, arith, append-nil, length-append, Some, rules}
use Rattle.std.specs.List.{All}
use Rattle.std.proofs.lemmas.List.{take_all}
use Rattle.ps_text.specs.Answers.{first_of}

pub data Compared {T : Type 0} (a b c d : List T) : Type 0 where
  shorter : (t : T) (middle : List T) → c ≡ a ++ t ∷ middle → b ≡ t ∷ (middle ++ d) → Compared a b c d
  same : a ≡ c → b ≡ d → Compared a b c d
  longer : (t : T) (middle : List T) → a ≡ c ++ t ∷ middle → d ≡ t ∷ (middle ++ b) → Compared a b c d

-- equal lists have equal first entries
pub same_head : {T : Type 0} (entry other : T) (xs ys : List T) → entry ∷ xs ≡ other ∷ ys → entry ≡ other
same_head s t xs ys e = cc

pub same_tail : {T : Type 0} (s t : T) (xs ys : List T) → s ∷ xs ≡ t ∷ ys → xs ≡ ys
same_tail s t xs ys e = cc

more_compared : {T : Type 0} (s t : T) (a b c d : List T) → s ≡ t → Compared a b c d → Compared (s ∷ a) b (t ∷ c) d
more_compared s t a b c d h (shorter u m e f) = shorter u m (cc) f
more_compared s t a b c d h (same e f) = same (cc) f
more_compared s t a b c d h (longer u m e f) = longer u m (cc) f

pub compared : {T : Type 0} (a b c d : List T) → a ++ b ≡ c ++ d → Compared a b c d
compared [] b [] d e = same refl e
compared [] b (t ∷ c) d e = shorter t c refl e
compared (s ∷ a) b [] d e = longer s a refl (sym e)
compared (s ∷ a) b (t ∷ c) d e = more_compared s t a b c d (cc) (compared a b c d (cc))

pub length_more : {T : Type 0} (a m : List T) (t : T) → length (a ++ t ∷ m) ≡ length a + suc (length m)
length_more a m t = length-append a (t ∷ m)

-- two splits of a list at the same position are equal
pub same_split : {T : Type 0} (a b c d : List T) → a ++ b ≡ c ++ d → length a ≡ length c → (a ≡ c) × (b ≡ d)
same_split {T} a b c d e l = search (rules, compared, length_more)

-- a symbol of a list that is split in two is in the first half, or after it
pub data Placed {T : Type 0} (left mid front rest : List T) (t : T) : Type 0 where
  inside : (m : List T) → left ≡ front ++ t ∷ m → Placed left mid front rest t
  behind : (y : List T) → front ≡ left ++ y → mid ≡ y ++ t ∷ rest → Placed left mid front rest t

pub placed : {T : Type 0} (left mid front rest : List T) (t : T) → left ++ mid ≡ front ++ t ∷ rest →
    Placed left mid front rest t
placed {T} left mid front rest t e = go (compared left mid front (t ∷ rest) e)
  where
    go : Compared left mid front (t ∷ rest) → Placed left mid front rest t
    go (same x y) = behind [] (sym x ∙ sym (append-nil left)) y
    go (shorter s m x y) = behind (s ∷ m) x y
    go (longer s m x y) = inside m (cc)

pub inside_of : {T : Type 0} {all left : List T} (mid front rest : List T) (t : T) → all ≡ left ++ mid →
    all ≡ front ++ t ∷ rest → length front < length left → (m : List T) × (left ≡ front ++ t ∷ m)
inside_of {T} {all} {left} mid front rest t e f l = go (placed left mid front rest t (sym e ∙ f))
  where
    go : Placed left mid front rest t → (m : List T) × (left ≡ front ++ t ∷ m)
    go (inside m x) = (m, x)
    go (behind y x z) = absurd (omega (arith, l, length-append left y, ap length x))

-- a list whose first symbol is t is t followed by the rest of the list
pub head_of : {T : Type 0} (ts : List T) {t : T} → first_of ts ≡ Some t → ts ≡ t ∷ drop 1 ts
head_of ts e = search rules

pub all_taken_all : {X : Type 0} (P : X → Type 0) (xs : List X) (v : ℕ) → length xs ≤ v → All P (take v xs) → All P xs
all_taken_all P xs v le h = subst (All P) (take_all v xs le) h
