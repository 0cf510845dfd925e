-- A write to one bit of a row leaves all other bits of the rows as they are.
use Rattle.std.proofs.Common.{◌≡◌, ◌≢◌, ℕ, ◌+◌, ◌*◌, ◌/◌, ◌%◌, ◌^◌, ◌<◌, ◌≤◌, ◌==◌, ◌⊎◌, Bool, true, false, List}
use Rattle.std.proofs.Common.{length, get_or}
use Rattle.std.proofs.Common.{set, suc, w64, sym, ap, ◌∙◌, arith, rules, inl, inr}
use Rattle.std.specs.Int.{bit_at, bit_not}
use Rattle.std.specs.Int.Bits.{bit_and, bit_or}
use Rattle.std.proofs.Math.Nat.{mul-le-mul_right, suc-mul}
use Rattle.std.proofs.lemmas.Bool.{cases_eq}
use Rattle.std.proofs.lemmas.Grind.{get_or-set_at, get_or_default_zero}
use Rattle.std.proofs.lemmas.List.{get_or-set_other}
use Rattle.std.proofs.lemmas.Nat.{div-mul-add, mod-mul-add}
use Rattle.std.proofs.lemmas.Nat.Bits.{bit_at_set_same, bit_at_set_other, bit_at_clear_same, bit_at_clear_other}
use Rattle.ps_formula.specs.declared.rows.Rows.{Rows}
use Rattle.ps_formula.specs.Inner.Rows.{SetsTruth, bit_in}

-- the words `after` have the same bits as the words `before`, except that one bit is b
pub record IsChanged (before after : List ℕ) (place : ℕ) (b : Bool) : Type 0 where
  pub here : bit_in after place ≡ b
  pub elsewhere : (u : ℕ) → u ≢ place → bit_in after u ≡ bit_in before u

one_word : (words : List ℕ) (v w : ℕ) (b : Bool) → v / 64 < length words → (bit_at w (v % 64) == 1) ≡ b →
    ((i : ℕ) → i < 64 → i ≢ v % 64 → bit_at w i ≡ bit_at (get_or words (v / 64) 0) i) →
    IsChanged words (set words (v / 64) w) v b
one_word words v w b within is others = search (rules, get_or-set_at, cases_eq, get_or-set_other)

pub bit_set : (words : List ℕ) (v w : ℕ) → v / 64 < length words → w ≡ get_or words (v / 64) w →
    IsChanged words (set words (v / 64) (bit_or w (1 * 2 ^ (v % 64) % 2 ^ 64))) v true
bit_set words v w within read = one_word words v _ true within
    (ap (λ n. n == 1) (bit_at_set_same w64 w (v % 64) (omega arith))) (λ i below other. grind (
      arith,
      bit_at_set_other w64 w (v % 64) (omega arith) i other,
      get_or_default_zero words (v / 64) w within,
    ))

pub bit_cleared : (words : List ℕ) (v w : ℕ) → v / 64 < length words → w ≡ get_or words (v / 64) w →
    IsChanged words (set words (v / 64) (bit_and w (bit_not w64 (1 * 2 ^ (v % 64) % 2 ^ 64)))) v false
bit_cleared words v w within read = one_word words v _ false within
    (ap (λ n. n == 1) (bit_at_clear_same w64 w (v % 64) (omega arith))) (λ i below other. grind (
      arith,
      bit_at_clear_other w64 w (v % 64) (omega arith) i below other,
      get_or_default_zero words (v / 64) w within,
    ))

-- the word of each bit of the rows is there
pub word_within : (rows : Rows) (row at : ℕ) → row < rows.count → at < rows.width →
    (row * rows.width + at) / 64 < length rows.words.items
word_within rows row at below low =
    let many : suc row * rows.width ≤ rows.count * rows.width = mul-le-mul_right rows.width below in
    let room : rows.count * rows.width ≤ 64 * length rows.words.items = rows.room in
    omega (arith, suc-mul row rows.width)

-- each pair of a row and an index has a bit of its own
apart : (width k i row at : ℕ) → i < width → at < width → (k ≢ row) ⊎ (i ≢ at) → k * width + i ≢ row * width + at
apart width k i row at low high other same =
    let rows : k ≡ row = sym (div-mul-add k width i low) ∙ ap (λ n. n / width) same ∙ div-mul-add row width at high in
    let indices : i ≡ at = sym (mod-mul-add k width i low) ∙ ap (λ n. n % width) same ∙ mod-mul-add row width at high in
    elim other [ inl differs ↦ differs rows | inr differs ↦ differs indices ]

pub truth_set : (old new : Rows) (row at : ℕ) (truth : Bool) → new.count ≡ old.count → new.stem ≡ old.stem →
    new.width ≡ old.width → at < old.width →
    IsChanged old.words.items new.words.items (row * old.width + at) truth → SetsTruth old row at truth new
truth_set old new row at truth count stem width low change = record {
  count = count;
  stem = stem;
  width = width;
  here = rw width change.here;
  others = λ k i within other.
      rw width (change.elsewhere (k * old.width + i) (apart old.width k i row at within low other));
}
