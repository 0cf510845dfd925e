-- Equal lists of bits have equal numbers, and other lists have other numbers.
use Rattle.std.proofs.Common.{◌≡◌, ℕ, ◌+◌, ◌-◌, ◌*◌, ◌<◌, ◌≤◌, ◌&&◌, Bool, true, false, List, [], ◌∷◌, ◌++◌, Some}
use Rattle.std.proofs.Common.{inl, inr, refl, ap, sym, ◌∙◌, arith, rules, Result, Ok, Err, drop, get_or, length, nat_eq}
use Rattle.std.specs.Prelude.{slice_get}
use Rattle.std.proofs.lemmas.Bool.{eq-eqb, eqb-true}
use Rattle.std.proofs.lemmas.List.{append-nil, append_assoc, drop_more}
use Rattle.std.proofs.lemmas.Option.{get_or_from_slice_get, slice_get-get_or, slice_get_within}
use Rattle.ps_diagram.proofs.NodeTables.Cells.{true_is_not_false}
use Rattle.ps_diagram.proofs.ClassesOfLetters.Distinct.{at_end, at_last, at_left}
use Rattle.ps_diagram.proofs.NodeTables.Keys.{and_both}
use Rattle.ps_keys.specs.Keys.{IsPlacedKey, LacksFrom, PlacesKey}
use Rattle.ps_simulate.proofs.NamingLemmas.{some_same}
use Rattle.ps_product.specs.Words.{AreOnce, HasGrown, IsNextRead, IsNumberOfBits, IsRead, digit}
use Rattle.ps_product.specs.declared.words.Read.{Read}

-- ## Lists that grow

pub grown_none : {X : Type 0} (xs : List X) → HasGrown xs xs
grown_none xs = record { more = []; is = sym (append-nil xs) }

pub grown_on : {X : Type 0} {xs ys zs : List X} → HasGrown xs ys → HasGrown ys zs → HasGrown xs zs
grown_on {xs = xs} g h = record {
  more = g.more ++ h.more;
  is = h.is ∙ ap (λ l. l ++ h.more) g.is ∙ append_assoc xs g.more h.more;
}

pub still_there : {X : Type 0} {xs ys : List X} (i : ℕ) {x : X} → HasGrown xs ys → slice_get xs i ≡ Some x →
    slice_get ys i ≡ Some x
still_there {xs = xs} i g at = rw g.is (at_left xs g.more i at)

-- a list to which an element that it lacks is appended has no element twice
pub once_more : {X : Type 0} (xs : List X) (x : X) → AreOnce xs → ((i : ℕ) → slice_get xs i ≡ Some x → ⊥) →
    AreOnce (xs ++ x ∷ [])
once_more xs x once lacks i j y a b = elim (at_last xs x i a) [
  | inl old_i ↦ elim (at_last xs x j b) [
    | inl old_j ↦ once i j y old_i old_j
    | inr new_j ↦ absurd (lacks i (old_i ∙ ap (λ z. Some z) new_j.0))
  ]
  | inr new_i ↦ elim (at_last xs x j b) [
    | inl old_j ↦ absurd (lacks j (old_j ∙ ap (λ z. Some z) new_i.0))
    | inr new_j ↦ new_i.1 ∙ sym new_j.1
  ]
]

-- ## Keys that are placed

module _ {K : Type 0} (eq : K → K → Bool) (same : (a b : K) → eq a b ≡ true → a ≡ b) (own : (a : K) → eq a a ≡ true)
  where
    pub lacking : (xs : List K) (key : K) → LacksFrom eq xs 0 key → (i : ℕ) → slice_get xs i ≡ Some key → ⊥
    lacking xs key lacks i at =
        let other = lacks i key (omega arith) (slice_get_within xs i key at) in
        let here : get_or xs i key ≡ key = get_or_from_slice_get xs i key key at in
        true_is_not_false (sym (own key) ∙ ap (λ (k : K). eq k key) (sym here) ∙ other)

    pub placed : (old new : List K) (key : K) (place : ℕ) → IsPlacedKey eq old new key place → AreOnce old →
        AreOnce new × HasGrown old new × (slice_get new place ≡ Some key)
    placed old new key place p once = elim p [
      | inl known ↦ rw known.0 (
        once,
        grown_none old,
        slice_get-get_or old place key known.1 ∙ ap (λ k. Some k) (same _ _ (known.2 key)),
      )
      | inr fresh ↦ rw (fresh.0, fresh.1) (
        once_more old key once (lacking old key fresh.2),
        record { more = key ∷ []; is = refl },
        at_end old key,
      )
    ]

    pub places : {E : Type 0} (old new : List K) (key : K) (result : Result ℕ E) → PlacesKey eq old new key result →
        AreOnce old → AreOnce new × HasGrown old new
    places old new key (Ok place) p once = let r = placed old new key place p.0 once in (r.0, r.1)
    places old new key (Err e) p once = rw p.1 (once, grown_none old)

abbrev pub pair_eq : ℕ × ℕ → ℕ × ℕ → Bool
pair_eq a b = nat_eq a.0 b.0 && nat_eq a.1 b.1

pub pair_own : (a : ℕ × ℕ) → pair_eq a a ≡ true
pair_own (x, y) = rw (eq-eqb x x refl, eq-eqb y y refl) refl

abbrev pub triple_eq : ℕ × ℕ × ℕ → ℕ × ℕ × ℕ → Bool
triple_eq a b = nat_eq a.0 b.0 && nat_eq a.1 b.1 && nat_eq a.2 b.2

pub triple_same : (a b : ℕ × ℕ × ℕ) → triple_eq a b ≡ true → a ≡ b
triple_same (x, y, z) (a, b, c) e = search (rules, and_both, eqb-true)

pub triple_own : (a : ℕ × ℕ × ℕ) → triple_eq a a ≡ true
triple_own (x, y, z) = rw (eq-eqb x x refl, eq-eqb y y refl, eq-eqb z z refl) refl

-- ## What has been read

same_read : (x y : Read) → x.row ≡ y.row → x.word ≡ y.word → x ≡ y
same_read x y a b = λ i. record { row = a i; word = b i }

digit_same : (a b : Bool) (m n : ℕ) → 2 * m + digit a ≡ 2 * n + digit b → (a ≡ b) × (m ≡ n)
digit_same true true m n e = (refl, omega (arith, e))
digit_same false false m n e = (refl, omega (arith, e))
digit_same true false m n e = absurd (omega (arith, e))
digit_same false true m n e = absurd (omega (arith, e))

pub read_kept : {old new : List (ℕ × ℕ)} (bits : List Bool) (x : Read) → HasGrown old new → IsRead old bits x →
    IsRead new bits x
read_kept [] x g h = h
read_kept (b ∷ bits) x g h = (
  h.0,
  read_kept bits h.0 g h.1,
  elim h.2 [ inl room ↦ inl room | inr full ↦ inr (full.0, full.1, still_there full.1 g full.2, full.3, full.4) ],
)

pub number_kept : {old new : List (ℕ × ℕ)} (bits : List Bool) (place : ℕ) → HasGrown old new →
    IsNumberOfBits old bits place → IsNumberOfBits new bits place
number_kept bits place g h = (h.0, read_kept bits h.0 g h.1, still_there place g h.2)

pub read_next : {old new : List (ℕ × ℕ)} (bits : List Bool) (left : ℕ) (b : Bool) (x y : Read) → 0 < left →
    left ≤ length bits → b ≡ get_or bits (left - 1) false → HasGrown old new → IsRead old (drop left bits) x →
    IsNextRead new b x y → IsRead new (drop (left - 1) bits) y
read_next bits left b x y some within here g h next =
    let last : left - 1 + 1 ≡ left = omega (arith, some) in
    rw (drop_more bits (left - 1) false (omega (arith, some, within)), last, ← here)
    (x, read_kept (drop left bits) x g h, next)

module _ (words : List (ℕ × ℕ)) where
  read_some : (bits : List Bool) (x : Read) → IsRead words bits x → 1 ≤ x.word
  read_some [] x h = omega (arith, h.1)
  read_some (b ∷ bits) x h =
      let some = read_some bits h.0 h.1 in
      elim h.2 [ inl room ↦ omega (arith, some, room.2) | inr full ↦ omega (arith, full.4) ]

  read_more : (b : Bool) (bits : List Bool) (x : Read) → IsRead words (b ∷ bits) x → 2 ≤ x.word
  read_more b bits x h =
      let some = read_some bits h.0 h.1 in
      elim h.2 [ inl room ↦ omega (arith, some, room.2) | inr full ↦ omega (arith, full.4) ]

  -- a word without bits is the first one
  read_first : (bits : List Bool) (x : Read) → IsRead words bits x → x.word ≡ 1 → x.row ≡ 0
  read_first [] x h e = h.0
  read_first (b ∷ bits) x h e = absurd (omega (arith, read_more b bits x h, e))

  -- a full word and one with room for a bit differ after that bit
  differ : (a b : Bool) (bits : List Bool) (y x : Read) → IsRead words bits y → x.row ≡ y.row →
      x.word ≡ 2 * y.word + digit a → (place : ℕ) → x.row ≡ place + 1 → x.word ≡ 2 + digit b → ⊥
  differ a b bits y x h row word place next last =
      let one = (digit_same a b y.word 1 (sym word ∙ last)).1 in
      omega (arith, read_first bits y h one, row, next)

  pub read_injective : (xs ys : List Bool) (x : Read) → IsRead words xs x → IsRead words ys x → xs ≡ ys
  read_injective [] [] x h k = refl
  read_injective [] (b ∷ bs) x h k = absurd (omega (arith, h.1, read_more b bs x k))
  read_injective (a ∷ xs) [] x h k = absurd (omega (arith, k.1, read_more a xs x h))
  read_injective (a ∷ xs) (b ∷ ys) x h k =
      let y = h.0 in
      let z = k.0 in
      elim h.2 [
        | inl one ↦ elim k.2 [
          | inl other ↦
              let r = digit_same a b y.word z.word (sym one.2 ∙ other.2) in
              let same : y ≡ z = same_read y z (sym one.1 ∙ other.1) r.1 in
              let rest : xs ≡ ys = read_injective xs ys y h.1 (rw same k.1) in
              let first = r.0 in
              cc
          | inr other ↦ absurd (differ a b xs y x h.1 one.1 one.2 other.1 other.3 other.4)
        ]
        | inr one ↦ elim k.2 [
          | inl other ↦ absurd (differ b a ys z x k.1 other.1 other.2 one.1 one.3 one.4)
          | inr other ↦
              let place : one.1 ≡ other.1 = omega (arith, one.3, other.3) in
              let at : Some (y.word, y.row) ≡ Some (z.word, z.row) =
              sym one.2 ∙ ap (slice_get words) place ∙ other.2 in
              let pair : (y.word, y.row) ≡ (z.word, z.row) = some_same _ _ at in
              let same : y ≡ z =
              same_read y z (ap (λ (p : ℕ × ℕ). p.1) pair) (ap (λ (p : ℕ × ℕ). p.0) pair) in
              let rest : xs ≡ ys = read_injective xs ys y h.1 (rw same k.1) in
              let first = (digit_same a b 1 1 (sym one.4 ∙ other.4)).0 in
              cc
        ]
      ]

  module _ (once : AreOnce words) where
    read_one : (bits : List Bool) (x y : Read) → IsRead words bits x → IsRead words bits y → x ≡ y
    read_one [] x y h k = same_read x y (h.0 ∙ sym k.0) (h.1 ∙ sym k.1)
    read_one (b ∷ bits) x y h k =
        let same : h.0 ≡ k.0 = read_one bits h.0 k.0 h.1 k.1 in
        let next : IsNextRead words b k.0 x = rw same at h.2 in
        elim next [
          | inl one ↦ elim k.2 [
            | inl other ↦ same_read x y (one.1 ∙ sym other.1) (one.2 ∙ sym other.2)
            | inr other ↦ absurd (omega (arith, one.0, other.0))
          ]
          | inr one ↦ elim k.2 [
            | inl other ↦ absurd (omega (arith, one.0, other.0))
            | inr other ↦
                let place : one.1 ≡ other.1 = once one.1 other.1 _ one.2 other.2 in
                same_read x y (one.3 ∙ ap (λ n. n + 1) place ∙ sym other.3) (one.4 ∙ sym other.4)
          ]
        ]

    -- a list of bits has one number
    pub number_one : (bits : List Bool) (m n : ℕ) → IsNumberOfBits words bits m → IsNumberOfBits words bits n → m ≡ n
    number_one bits m n h k =
        let same : h.0 ≡ k.0 = read_one bits h.0 k.0 h.1 k.1 in
        once m n _ h.2 (rw (← same) at k.2)

  -- only one list of bits has a number
  pub number_injective : (xs ys : List Bool) (n : ℕ) → IsNumberOfBits words xs n → IsNumberOfBits words ys n → xs ≡ ys
  number_injective xs ys n h k =
      let pair : (h.0.word, h.0.row) ≡ (k.0.word, k.0.row) = some_same _ _ (sym h.2 ∙ k.2) in
      let same : h.0 ≡ k.0 = same_read h.0 k.0 (ap (λ (p : ℕ × ℕ). p.1) pair) (ap (λ (p : ℕ × ℕ). p.0) pair) in
      read_injective xs ys h.0 h.1 (rw same k.1)
