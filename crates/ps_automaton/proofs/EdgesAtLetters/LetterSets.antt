-- How sets of letters are computed: for a proposition, letter by letter; for a label, operand by operand; for the lists
-- of sets, one proposition or alias after another.
use Rattle.std.proofs.Common.{◌≡◌, ℕ, ◌+◌, ◌*◌, ◌^◌, ◌/◌, ◌%◌, ◌<◌, ◌≤◌, inl, inr, Bool, true, false, cond}
use Rattle.std.proofs.Common.{arith, bit_and, bit_or, refl, List, ◌∷◌, drop, ap, length, get_or, add-one, drop-cons}
use Rattle.std.proofs.Common.{◌++◌, [], ◌∙◌, length-append, map, sym}
use Rattle.std.proofs.lemmas.List.{get_or_append_left, get_or_push, map-append}
use Rattle.std.specs.Prelude.{◌||◌, ◌&&◌}
use Rattle.std.proofs.lemmas.Bool.{cases_lt}
use Rattle.std.proofs.lemmas.Nat.Bits.{bit_at_ones, bit_at-zero}
use Rattle.ps_hoa.specs.Files.{FileData}
use Rattle.ps_label.specs.Expression.{Expression, expression, operands_in, more}
use Rattle.ps_label.specs.Truth.{all_true, any_true, expressions, is_in, label_truth, truth, truths_behind}
use Rattle.ps_label.specs.declared.label.Label.{Label}
use Rattle.ps_automaton.specs.Inner.LetterSets.{ArePropositionSets, AreWordSets, IsSetOf, membership}
use Rattle.ps_automaton.specs.declared.letter_sets.WordSets.{WordSets}
use Rattle.ps_automaton.proofs.ChainsOfSets.Bits.{in_and, in_or, in_with}

-- ## The letters at which a proposition is true

-- the first `letter` letters were visited: those at which proposition p is true are in the set
pub record AreVisited (p first letter set : ℕ) : Type 0 where
  pub visited : (k : ℕ) → k < letter → is_in k set ≡ is_in p (first + k)
  pub others : (k : ℕ) → letter ≤ k → is_in k set ≡ false

pub letter_with : {p first letter set next : ℕ} → letter < 64 → next ≡ bit_or set (1 * 2 ^ letter % 2 ^ 64) →
    is_in p (first + letter) ≡ true → AreVisited p first letter set → AreVisited p first (letter + 1) next
letter_with {p} {first} {letter} {set} {next} small is there was = record {
  visited = λ k within. rw (is, in_with k set letter small) (elim (cases_lt k letter) [
    | inl low ↦ (let old = was.visited k low in grind arith)
    | inr high ↦ (let old = was.others k high in let same : k ≡ letter = omega arith in rw same (grind arith))
  ]);
  others = λ k high. rw (is, in_with k set letter small) (let old = was.others k (omega arith) in grind arith);
}

pub letter_without : {p first letter set : ℕ} → is_in p (first + letter) ≡ false → AreVisited p first letter set →
    AreVisited p first (letter + 1) set
letter_without {p} {first} {letter} {set} there was = record {
  visited = λ k within. elim (cases_lt k letter) [
    | inl low ↦ was.visited k low
    | inr high ↦ (let old = was.others k high in let same : k ≡ letter = omega arith in rw same (grind arith))
  ];
  others = λ k high. was.others k (omega arith);
}

-- ## The letters at which a label is true

-- the set without letters, and the set of all letters below 64
pub in_none : (k : ℕ) → is_in k 0 ≡ false
in_none k = grind (arith, bit_at-zero k)

pub in_all : (k : ℕ) → k < 64 → is_in k 18446744073709551615 ≡ true
in_all k small = let one = bit_at_ones 64 k small in grind (arith, one)

pub from_drop : {X : Type 0} (items : List X) (k : ℕ) {item : X} (d : X) → k < length items → item ≡ get_or items k d →
    drop k items ≡ item ∷ drop (k + 1) items
from_drop items k {item} d within is = rw (is, add-one) (drop-cons items k d within)

-- operands, given as labels or as the numbers of literals, of which `of` gives the expressions
module _ {X : Type 0} (of : X → Expression) (known : List Bool) (bit letter set operand_set : ℕ) (items : List X)
    (k : ℕ) {item : X} (from : drop k items ≡ item ∷ drop (k + 1) items)
    (same : is_in bit operand_set ≡ truth known letter (of item)) where
  from_item : operands_in (map of (drop k items)) ≡ more (of item) (operands_in (map of (drop (k + 1) items)))
  from_item = ap (λ (ls : List X). operands_in (map of ls)) from

  -- a conjunction keeps its truth value if its next operand is dropped, and the set is intersected with the letters at
  -- which this operand is true
  pub all_with : cond (is_in bit (bit_and set operand_set))
      (all_true known letter (operands_in (map of (drop (k + 1) items)))) false ≡ cond (is_in bit set)
      (all_true known letter (operands_in (map of (drop k items)))) false
  all_with = rw (from_item, in_and bit set operand_set, same)
      (both (is_in bit set) (truth known letter (of item)) _)
    where
      both : (a b c : Bool) → cond (a && b) c false ≡ cond a (cond b c false) false
      both true b c = refl
      both false b c = refl

  -- a disjunction keeps its truth value if its next operand is dropped, and the set is united with the letters at
  -- which this operand is true
  pub any_with : cond (is_in bit (bit_or set operand_set)) true
      (any_true known letter (operands_in (map of (drop (k + 1) items)))) ≡ cond (is_in bit set) true
      (any_true known letter (operands_in (map of (drop k items))))
  any_with = rw (from_item, in_or bit set operand_set, same)
      (either (is_in bit set) (truth known letter (of item)) _)
    where
      either : (a b c : Bool) → cond (a || b) true c ≡ cond a true (cond b true c)
      either true b c = refl
      either false b c = refl

-- ## The sets of propositions and aliases

pub proposition_with : (first : ℕ) (sets : List ℕ) (set : ℕ) → ArePropositionSets first sets →
    ((letter : ℕ) → letter < 64 → is_in letter set ≡ is_in (length sets) (first + letter)) →
    ArePropositionSets first (sets ++ set ∷ [])
proposition_with first sets set were is p letter within small = elim (cases_lt p (length sets)) [
  | inl low ↦ ap (is_in letter) (get_or_append_left sets (set ∷ []) 0 p low) ∙ were p letter low small
  | inr high ↦ (
      let longer = length-append sets (set ∷ []) in
      let last : length sets ≡ p = omega (arith, within, longer) in
      ap (is_in letter) (get_or_push sets set 0 p last) ∙ is letter small ∙ ap (λ n. is_in n (first + letter)) last)
]

pub alias_with : (bit letter : ℕ) (sets : List ℕ) (set : ℕ) (items : List Label) (k : ℕ) {item : Label} →
    drop k items ≡ item ∷ drop (k + 1) items →
    is_in bit set ≡ truth (membership bit sets) letter (expression item) →
    truths_behind (membership bit (sets ++ set ∷ [])) letter (expressions (drop (k + 1) items)) ≡
    truths_behind (membership bit sets) letter (expressions (drop k items))
alias_with bit letter sets set items k {item} from same =
    rw (from, map-append (λ set. is_in bit set) sets (set ∷ []), same) refl

-- ## Sets of letters, mask by mask

-- the first `count` masks of the set have the letters at which the expression is true
abbrev pub HaveTruths : FileData → Expression → ℕ → List ℕ → Type 0
HaveTruths file e count set = (k letter : ℕ) → k < count → letter < 64 →
    is_in letter (get_or set k 0) ≡ label_truth file.aliases (64 * k + letter) e

-- a mask that is computed for a label from the masks of the propositions and aliases
pub mask_is : {file : FileData} {first : ℕ} {sets : WordSets} → AreWordSets file first sets → (mask : ℕ)
    (e : Expression) → ((first letter : ℕ) → ArePropositionSets first sets.propositions.items → letter < 64 →
    is_in letter mask ≡ truth (membership letter sets.aliases.items) (first + letter) e) → (letter : ℕ) → letter < 64 →
    is_in letter mask ≡ label_truth file.aliases (first + letter) e
unfolding label_truth
mask_is {file} {first} {sets} a mask e is letter small =
    is first letter a.propositions small
    ∙ ap (λ (known : List Bool). truth known (first + letter) e) (a.aliases letter small)

pub truths_more : (file : FileData) (e : Expression) (set : List ℕ) {more : List ℕ} {count : ℕ} (mask : ℕ) →
    length set ≡ count → more ≡ set ++ mask ∷ [] →
    ((letter : ℕ) → letter < 64 → is_in letter mask ≡ label_truth file.aliases (64 * count + letter) e) →
    HaveTruths file e count set → HaveTruths file e (count + 1) more
truths_more file e set {more} {count} mask size is last have k letter within small = elim (cases_lt k count) [
  | inl low ↦ rw (is, get_or_append_left set (mask ∷ []) 0 k (omega (arith, low, size))) (have k letter low small)
  | inr high ↦
      let here : k ≡ count = omega arith in
      let there : k ≡ length set = omega (arith, here, size) in
      rw (is, get_or_push set mask 0 k (sym there), here) (last letter small)
]

pub set_is : {file : FileData} {e : Expression} (set : List ℕ) → 2 ^ length file.names ≤ 64 * length set →
    HaveTruths file e (length set) set → IsSetOf file e set
set_is {file} {e} set enough have = record {
  enough = enough;
  truths = λ letter low.
      let whole : 64 * (letter / 64) + letter % 64 ≡ letter = omega arith in
      rw (← ap (λ n. label_truth file.aliases n e) whole)
      (have (letter / 64) (letter % 64) (omega arith) (omega arith));
}
