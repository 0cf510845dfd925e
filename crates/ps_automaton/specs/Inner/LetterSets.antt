-- Sets of letters, as lists of bit masks of 64 letters each: the letter 64 * w + k is in the set if bit k of the mask
-- with the index w is 1. (For private functions.)
use Rattle.std.specs.Prelude.{◌≡◌, ℕ, ◌+◌, ◌*◌, ◌/◌, ◌%◌, ◌^◌, ◌<◌, ◌≤◌, Bool, true, false, List, length, map, Option}
use Rattle.std.specs.Prelude.{Some, None, option_map, slice_get, slice_index, slice_index_or, unwrap_or}
use Rattle.ps_label.specs.Expression.{Expression}
use Rattle.ps_label.specs.Truth.{is_in, alias_truths, label_truth}
use Rattle.ps_hoa.specs.Files.{FileData}
use Rattle.ps_automaton.specs.declared.letter_sets.LetterSets.{LetterSets}
use Rattle.ps_automaton.specs.declared.letter_sets.WordSets.{WordSets}
use Rattle.ps_automaton.specs.declared.targets.Target.{Target}

-- the mask at the index p has those of the 64 letters from `first` on at which proposition p is true
abbrev pub ArePropositionSets : ℕ → List ℕ → Type 0
ArePropositionSets first sets =
    (p letter : ℕ) → p < length sets → letter < 64 → is_in letter (slice_index sets p) ≡ is_in p (first + letter)

-- for each mask, whether the bit is 1
abbrev pub membership : ℕ → List ℕ → List Bool
membership letter sets = map (λ set. is_in letter set) sets

-- the mask of each alias has those of the 64 letters from `first` on at which the alias is true
abbrev pub AreAliasSets : ℕ → List Expression → List ℕ → Type 0
AreAliasSets first aliases sets =
    (letter : ℕ) → letter < 64 → membership letter sets ≡ alias_truths aliases (first + letter)

-- for each proposition and each alias of the file, the mask of those of the 64 letters from `first` on at which it is
-- true
pub record AreWordSets (file : FileData) (first : ℕ) (sets : WordSets) : Type 0 where
  pub one_each : length sets.propositions.items ≡ length file.names
  pub one_for_each : length sets.aliases.items ≡ length file.aliases
  pub propositions : ArePropositionSets first sets.propositions.items
  pub aliases : AreAliasSets first file.aliases sets.aliases.items

-- the file has at most 10 propositions; for each proposition and each alias, `sets` has the set of letters at which it
-- is true
pub record AreLetterSets (file : FileData) (sets : LetterSets) : Type 0 where
  pub few : length file.names ≤ 10
  pub enough : 2 ^ length file.names ≤ 64 * length sets.words.items
  pub each : (k : ℕ) (word : WordSets) → slice_get sets.words.items k ≡ Some word → AreWordSets file (64 * k) word

-- whether a letter is in a set of letters
abbrev pub in_words : ℕ → List ℕ → Bool
in_words letter set = is_in (letter % 64) (slice_index set (letter / 64))

-- the set has the letters of the file at which the expression is true
pub record IsSetOf (file : FileData) (e : Expression) (set : List ℕ) : Type 0 where
  pub enough : 2 ^ length file.names ≤ 64 * length set
  pub truths : (letter : ℕ) → letter < 64 * length set → in_words letter set ≡ label_truth file.aliases letter e

-- ## The first edge at each letter

-- How one more edge changes the first edge at a letter, given as an index or None. `taken` states whether the edge with
-- the index `place` is taken at the letter. If an earlier edge is also taken at this letter, the index does not
-- change, and both edges have the same target.
abbrev pub IsAdded : List Target → ℕ → Bool → Option ℕ → Option ℕ → Type 0
IsAdded targets place false old new = new ≡ old
IsAdded targets place true None new = new ≡ Some place
IsAdded targets place true (Some first) new = (new ≡ Some first) × (slice_get targets first ≡ slice_get targets place)

-- the entry of the list `places` for an edge, given by its index; 0 if there is no edge
abbrev pub entry_for : List ℕ → Option ℕ → ℕ
entry_for places edge = unwrap_or (option_map (λ k. slice_index places k) edge) 0

-- the first edge at a letter
abbrev pub edge_at : List (Option ℕ) → ℕ → Option ℕ
edge_at edges letter = slice_index_or edges letter None
