-- Sets of vertices that are stored in machine words, and how a change of a word changes the set.
use Rattle.std.proofs.Common.{◌≡◌, ◌≢◌, ℕ, zero, suc, ◌+◌, ◌-◌, ◌*◌, ◌/◌, ◌%◌, ◌^◌, ◌<◌, ◌≤◌, Bool, true, rules, false}
use Rattle.std.proofs.Common.{not, cond, ◌==◌, ◌&&◌, List, [], ◌∷◌, ◌++◌, map, length, take, get_or, set, max}
use Rattle.std.proofs.Common.{length-set, add-zero, w64, refl, sym, ap, ap₂, ◌∙◌, subst, arith}
use Rattle.std.specs.Prelude.{◌||◌, replicate, count_by, count_ones}
use Prim.Native.Nat.{min}
use Rattle.std.specs.Int.{bit_at, bit_not}
use Rattle.std.specs.Int.Bits.{bit_and, bit_or}
use Rattle.std.specs.List.{fold, range_with_len, sum_by}
use Rattle.std.specs.Simd.Lanes.{mask_l}
use Rattle.std.proofs.lemmas.Bool.{cases_lt, cases_eq}
use Rattle.std.proofs.lemmas.Grind.{get_or-set_at, get_or_default_zero}
use Rattle.std.proofs.lemmas.List.{get_or-set_other, get_or_past, take_all}
use Rattle.std.proofs.lemmas.List.FromFn.{get_or-map-range_with_len, length-map-range_with_len, fill_by_all}
use Rattle.std.proofs.lemmas.List.Sums.{sum_by-cons, sum_by-append, sum_by_more, count_by-le-length}
use Rattle.std.proofs.lemmas.Nat.{div-mul-add, mod-mul-add}
use Rattle.std.proofs.lemmas.Nat.Bits.{bit_at-lt, bit_at_and, bit_at_or, bit_at_not, bit_at-zero, bit_at_ones}
use Rattle.std.proofs.lemmas.Nat.Bits.{bit_at_ones_above, bit_at_set_same, bit_at_set_other, bit_at_clear_same}
use Rattle.std.proofs.lemmas.Nat.Bits.{bit_at_clear_other, ones_shr, shr_and_one, same_from_bits_below}
use Rattle.std.proofs.lemmas.Simd.{get_or-replicate, length-replicate, mask_l-lt, bit_mask_l, ones-mask_l}
use Rattle.ps_game.specs.Regions.{has}
use Rattle.ps_game.specs.Words.{bit_in, members, ArePacked}

length-members : (places : ℕ) (words : List ℕ) → length (members places words) ≡ places
unfolding members
length-members places words = length-map-range_with_len (bit_in words) 0 places

has-inside : (places : ℕ) (words : List ℕ) (v : ℕ) → v < places → has (members places words) v ≡ bit_in words v
unfolding members
has-inside places words v lt = get_or-map-range_with_len (bit_in words) 0 places v v false lt (omega arith)

-- a list of truth values represents the same set as the words, if each value equals the bit of the vertex at the
-- value's index
members_are : (places : ℕ) (words : List ℕ) (region : List Bool) → length region ≡ places →
    ((v : ℕ) → v < places → get_or region v false ≡ bit_in words v) → members places words ≡ region
unfolding members
members_are places words region long each = sym (fill_by_all (bit_in words) region places false long each)

-- a bit with an index past the last word counts as not set
bit_past : (words : List ℕ) (v : ℕ) → length words ≤ v / 64 → bit_in words v ≡ false
bit_past words v past = rw (get_or_past words (v / 64) 0 past, bit_at-zero (v % 64))

-- the words represent the set, and no further words and no further bits are used (`ArePacked`)
pub record AreWords (places : ℕ) (words : List ℕ) (region : List Bool) : Type 0 where
  pub packed : ArePacked places words
  pub are : members places words ≡ region

-- ---- the empty set

pub empty_is : (places n : ℕ) → members places (replicate n 0) ≡ replicate places false
empty_is places n = members_are places (replicate n 0) (replicate places false) (length-replicate places false)
    (λ v lt. search (rules, get_or-replicate, cases_lt, bit_at-zero, bit_past, length-replicate))

-- ---- the full set

ones_bit : (n v : ℕ) → v / 64 < n → bit_in (replicate n (2 ^ 64 - 1)) v ≡ true
ones_bit n v lt = rw (get_or-replicate n (v / 64) (2 ^ 64 - 1) 0 lt, bit_at_ones 64 (v % 64) (omega arith))

full_words : (places : ℕ) (words : List ℕ) → places < 2 ^ 64 → places ≤ 64 * length words →
    64 * length words < places + 64 → ((v : ℕ) → v < places → bit_in words v ≡ true) →
    ((v : ℕ) → places ≤ v → bit_in words v ≡ false) → AreWords places words (replicate places true)
full_words places words few enough no_more all none_past = record {
  packed = record { few = few; enough = enough; no_more = no_more; none_past = none_past };
  are = members_are places words (replicate places true) (length-replicate places true)
      (λ v lt. get_or-replicate places v true false lt ∙ sym (all v lt));
}

-- if `places` is a multiple of 64, words with all bits set represent the set of all vertices
pub full_whole : (places n : ℕ) → places < 2 ^ 64 → places % 64 ≡ 0 → n ≡ places / 64 →
    AreWords places (replicate n (2 ^ 64 - 1)) (replicate places true)
full_whole places n few none is = search (rules, length-replicate, full_words, ones_bit, bit_past)

-- if `places` is not a multiple of 64, the last word of the set of all vertices has only the bits of the remaining
-- vertices
pub full_part : (places n : ℕ) → places < 2 ^ 64 → 0 < places % 64 → n ≡ places / 64 + 1 →
    AreWords places (set (replicate n (2 ^ 64 - 1)) (places / 64) ((2 ^ 64 - 1) / 2 ^ (64 - places % 64)))
    (replicate places true)
full_part places n few some is =
    let ones = replicate n (2 ^ 64 - 1) in
    let rest = places % 64 in
    let last = (2 ^ 64 - 1) / 2 ^ (64 - rest) in
    let words = set ones (places / 64) last in
    let many : length ones ≡ n = length-replicate n (2 ^ 64 - 1) in
    let long : length words ≡ n = length-set ones (places / 64) last ∙ many in
    let e : 64 - (64 - rest) ≡ rest = omega arith in
    let last_is : last ≡ 2 ^ rest - 1 = ones_shr 64 (64 - rest) (omega arith) ∙ ap (λ k. 2 ^ k - 1) e in
    let in_last : (v : ℕ) → v / 64 ≡ places / 64 → bit_in words v ≡ (bit_at (2 ^ rest - 1) (v % 64) == 1) =
    λ v same. rw (get_or-set_at ones (places / 64) (v / 64) last 0 same (omega arith), last_is) in
    full_words places words few (omega arith) (omega arith)
    (λ v lt. search (rules, cases_eq, bit_at_ones, get_or-set_other, ones_bit))
    (λ v past. search (rules, cases_eq, bit_at_ones_above, bit_past))

-- ---- one bit

-- the words `after` have the same bits as the words `before`, except that the bit of the vertex v is b
record IsChanged (before after : List ℕ) (v : ℕ) (b : Bool) : Type 0 where
  long : length after ≡ length before
  here : bit_in after v ≡ b
  elsewhere : (u : ℕ) → u ≢ v → bit_in after u ≡ bit_in before u

-- if one word is replaced by a word w whose bit for v is b and whose other bits are the same, the bit of v becomes b,
-- and no other bit changes
one_word : (words : List ℕ) (v w : ℕ) (b : Bool) → v / 64 < length words → (bit_at w (v % 64) == 1) ≡ b →
    ((i : ℕ) → i < 64 → i ≢ v % 64 → bit_at w i ≡ bit_at (get_or words (v / 64) 0) i) →
    IsChanged words (set words (v / 64) w) v b
one_word words v w b within is others = search (rules, get_or-set_at, cases_eq, get_or-set_other)

module _ {places : ℕ} {words : List ℕ} {region : List Bool} (packed : ArePacked places words)
    (is : members places words ≡ region) where
  -- the list of truth values that stands for the set has `places` entries
  pub places_are : length region ≡ places
  places_are = ap length (sym is) ∙ length-members places words

  -- no bit past the last vertex is set, so every number is in the set if and only if its bit is set
  has-bit : (v : ℕ) → has region v ≡ bit_in words v
  has-bit v = search (rules, cases_lt, has-inside, get_or_past, places_are)

  word_there : {v : ℕ} → v < length region → v / 64 < length words
  word_there lt = omega (arith, places_are, packed.enough)

  -- a shift and a mask read whether a vertex is in the set
  pub bit_read : {v w : ℕ} → v < length region → w ≡ get_or words (v / 64) w →
      (bit_and (w / 2 ^ (v % 64)) 1 == 1) ≡ has region v
  bit_read {v = v} {w = w} lt read = search (rules, shr_and_one, get_or_default_zero, word_there, has-bit)

  changed : {after : List ℕ} {v : ℕ} {b : Bool} → v < length region → IsChanged words after v b →
      AreWords places after (set region v b)
  changed {after = after} {v = v} {b = b} lt change =
      let long = places_are in
      record {
        packed = search (rules, change.long, change.elsewhere);
        are = members_are places after (set region v b) (length-set region v b ∙ long)
            (λ u less. grind (arith, cases_eq, get_or-set_at, get_or-set_other, has-bit));
      }

  pub bit_set : {v w : ℕ} → v < length region → w ≡ get_or words (v / 64) w →
      AreWords places (set words (v / 64) (bit_or w (1 * 2 ^ (v % 64) % 2 ^ 64))) (set region v true)
  bit_set {v = v} {w = w} lt read = changed lt (one_word words v _ true (word_there lt)
      (ap (λ n. n == 1) (bit_at_set_same w64 w (v % 64) (omega arith))) (λ i below other. grind (
        arith,
        bit_at_set_other w64 w (v % 64) (omega arith) i other,
        get_or_default_zero words (v / 64) w (word_there lt),
      )))

  pub bit_cleared : {v w : ℕ} → v < length region → w ≡ get_or words (v / 64) w →
      AreWords places (set words (v / 64) (bit_and w (bit_not w64 (1 * 2 ^ (v % 64) % 2 ^ 64)))) (set region v false)
  bit_cleared {v = v} {w = w} lt read = changed lt (one_word words v _ false (word_there lt) (ap (λ n. n == 1)
      (bit_at_clear_same w64 w (v % 64) (omega arith))) (λ i below other. grind (
        arith,
        bit_at_clear_other w64 w (v % 64) (omega arith) i below other,
        get_or_default_zero words (v / 64) w (word_there lt),
      )))

-- ---- the bits of the union and the difference of two sets

either : (x y : ℕ) → x < 2 → y < 2 → (max x y == 1) ≡ ((x == 1) || (y == 1))
either x y h k = search rules

first_only : (x y : ℕ) → x < 2 → y < 2 → (min x (1 - y) == 1) ≡ ((x == 1) && not (y == 1))
first_only x y h k = search rules

-- `new` represents the set that a Boolean operation (`rule`) forms from two sets, vertex by vertex
pub record IsMade (places : ℕ) (new : List ℕ) (region other : List Bool) (rule : Bool → Bool → Bool) : Type 0 where
  pub packed : ArePacked places new
  pub as_many : length (members places new) ≡ length region
  pub rules : (v : ℕ) → has (members places new) v ≡ rule (has region v) (has other v)

module _ {places others_places : ℕ} {words others : List ℕ} {region other : List Bool} (packed : ArePacked places words)
    (is : members places words ≡ region) (other_packed : ArePacked others_places others)
    (other_is : members others_places others ≡ other) (same : length other ≡ length region) where
  -- two sets that have the same bound `places` on their vertices are stored in equally many words
  pub same_words : length others ≡ length words
  same_words = omega (arith, places_are packed is, places_are other_packed other_is)

  -- `old` and `lent` are the words of the two sets that are combined
  module _ {old lent new : List ℕ} (from : old ≡ words) (also : lent ≡ others) (long : length new ≡ length old) where
    made : (rule : Bool → Bool → Bool) → rule false false ≡ false →
        ((v : ℕ) → bit_in new v ≡ rule (bit_in old v) (bit_in lent v)) → IsMade places new region other rule
    made rule none each =
        let lengths = ap length from in
        let past_others = λ (v : ℕ) (past : places ≤ v). other_packed.none_past v (search (rules, places_are)) in
        let bits : (v : ℕ) → bit_in new v ≡ rule (bit_in words v) (bit_in others v) = search rules in
        let whole : ArePacked places new = search rules in
        record {
          packed = whole;
          as_many = length-members places new ∙ sym (places_are packed is);
          rules = λ v. has-bit whole refl v ∙ bits v
              ∙ sym (ap₂ rule (has-bit packed is v) (has-bit other_packed other_is v));
        }

    pub union_made : ((k : ℕ) → get_or new k 0 ≡ bit_or (get_or old k 0) (get_or lent k 0)) →
        IsMade places new region other (λ a b. a || b)
    union_made each = made (λ a b. a || b) refl (λ v. search (rules, bit_at_or, either, bit_at-lt))

    pub difference_made : ((k : ℕ) → get_or lent k 0 < 2 ^ 64) →
        ((k : ℕ) → get_or new k 0 ≡ bit_and (get_or old k 0) (bit_not w64 (get_or lent k 0))) →
        IsMade places new region other (λ a b. a && not b)
    difference_made fits each = made (λ a b. a && not b) refl (λ v.
        let x = get_or old (v / 64) 0 in
        let y = get_or lent (v / 64) 0 in
        let i = v % 64 in
        rw (each (v / 64), bit_at_and x (bit_not w64 y) i, bit_at_not w64 y i (fits (v / 64)) (omega arith))
        (first_only (bit_at x i) (bit_at y i) (bit_at-lt x i) (bit_at-lt y i)))

-- ---- the number of vertices

counted_map : (p : ℕ → Bool) (xs : List ℕ) (a : ℕ) → fold (λ s m. s + cond m 1 0) a (map p xs) ≡ fold
    (λ s x. s + cond (p x) 1 0) a xs
counted_map p [] a = refl
counted_map p (x ∷ xs) a = counted_map p xs (a + cond (p x) 1 0)

range_split : (a m n : ℕ) → range_with_len a (m + n) ≡ range_with_len a m ++ range_with_len (a + m) n
range_split a zero n = ap₂ range_with_len (sym (add-zero a)) (let e : 0 + n ≡ n = omega arith in e)
range_split a (suc m) n =
    let e : suc m + n ≡ suc (m + n) = omega arith in
    grind (arith, range_split (a + 1) m n)

none_counted : (p : ℕ → Bool) (n m : ℕ) → ((v : ℕ) → n ≤ v → p v ≡ false) → count_by p (range_with_len n m) ≡ 0
none_counted p n zero none = refl
none_counted p n (suc m) none = sum_by-cons (λ v. cond (p v) 1 0) n (range_with_len (n + 1) m)
    ∙ ap₂ (λ b k. cond b 1 0 + k) (none n (omega arith)) (none_counted p (n + 1) m (λ v past. none v (omega arith)))

bit_again : (x : ℕ) → x < 2 → cond (x == 1) 1 0 ≡ x
bit_again x h = search rules

-- the number of vertices in the set among the 64 vertices of one word is the number of bits that are set in this word
word_counted : (words : List ℕ) (k : ℕ) → get_or words k 0 < 2 ^ 64 →
    count_by (bit_in words) (range_with_len (k * 64) 64) ≡ count_ones (get_or words k 0)
word_counted words k fits =
    let places = range_with_len (k * 64) 64 in
    let bits = map (bit_in words) places in
    let long : length bits ≡ 64 = length-map-range_with_len (bit_in words) (k * 64) 64 in
    sym (ones-mask_l (bit_in words) places) ∙ ap count_ones (same_from_bits_below 64 (mask_l bits) (get_or words k 0)
    (subst (λ n. mask_l bits < 2 ^ n) long (mask_l-lt bits)) fits (λ i lt. grind (
      arith,
      bit_mask_l bits i,
      get_or-map-range_with_len (bit_in words) (k * 64) 64 i (k * 64 + i) false lt refl,
      div-mul-add k 64 i lt,
      mod-mul-add k 64 i lt,
      bit_again (bit_at (get_or words k 0) i) (bit_at-lt (get_or words k 0) i),
    )))

-- the number of vertices in the set among the vertices of the first k words is the number of bits that are set in these
-- words
words_counted : (words : List ℕ) → ((k : ℕ) → get_or words k 0 < 2 ^ 64) → (k : ℕ) → k ≤ length words
    → count_by (bit_in words) (range_with_len 0 (k * 64)) ≡ sum_by count_ones (take k words)
words_counted words fits zero le = refl
words_counted words fits (suc k) le =
    let test : ℕ → ℕ = λ v. cond (bit_in words v) 1 0 in
    let e : suc k * 64 ≡ k * 64 + 64 = omega arith in
    let f : 0 + k * 64 ≡ k * 64 = omega arith in
    let g : k + 1 ≡ suc k = omega arith in
    ap (λ n. count_by (bit_in words) (range_with_len 0 n)) e ∙ ap (count_by (bit_in words)) (range_split 0 (k * 64) 64)
    ∙ sum_by-append test (range_with_len 0 (k * 64)) (range_with_len (0 + k * 64) 64)
    ∙ ap₂ ◌+◌ (words_counted words fits k (omega arith)) (ap (λ n. count_by (bit_in words) (range_with_len n 64)) f
    ∙ word_counted words k (fits k))
    ∙ sym (sum_by_more count_ones words k 0 (omega arith)) ∙ ap (λ n. sum_by count_ones (take n words)) g

-- `lent` has the words of a set, and each word fits 64 bits
module _ {places : ℕ} {words lent : List ℕ} {region : List Bool} (packed : ArePacked places words)
    (is : members places words ≡ region) (from : lent ≡ words) (fits : (k : ℕ) → get_or lent k 0 < 2 ^ 64) where
  pub count_is : count_by (λ member. member) region ≡ sum_by count_ones lent
  unfolding members
  count_is =
      let p = bit_in words in
      let test : ℕ → ℕ = λ v. cond (p v) 1 0 in
      let many = length words in
      let rest = many * 64 - places in
      let e : many * 64 ≡ places + rest = omega (arith, packed.enough) in
      let whole : count_by p (range_with_len 0 (many * 64)) ≡ sum_by count_ones words =
      words_counted words (rw from at fits) many (omega arith)
      ∙ ap (sum_by count_ones) (take_all many words (omega arith)) in
      let split : count_by p (range_with_len 0 (many * 64)) ≡ count_by p (range_with_len 0 places) +
      count_by p (range_with_len (0 + places) rest) = search (rules, range_split, sum_by-append) in
      let none : count_by p (range_with_len (0 + places) rest) ≡ 0 = search (rules, none_counted) in
      rw (← is, from) (counted_map p (range_with_len 0 places) 0 ∙ omega (arith, whole, split, none))

  pub count_fits : sum_by count_ones lent < 2 ^ 64
  count_fits = search (rules, count_is, count_by-le-length, places_are)

  -- all words of a set are 0 if and only if the set is empty
  pub clear_has_none : ((k : ℕ) → get_or lent k 0 ≡ 0) → (v : ℕ) → has region v ≡ false
  clear_has_none clear v = has-bit packed is v ∙ rw (← from, clear (v / 64), bit_at-zero (v % 64))

  pub none_is_clear : ((v : ℕ) → has region v ≡ false) → (k : ℕ) → get_or lent k 0 ≡ 0
  none_is_clear none k = same_from_bits_below 64 (get_or lent k 0) 0 (fits k) (omega arith) (λ i lt. grind (
    arith,
    has-bit packed is (k * 64 + i),
    bit_at-lt (get_or lent k 0) i,
    div-mul-add k 64 i lt,
    mod-mul-add k 64 i lt,
    bit_at-zero i,
  ))
