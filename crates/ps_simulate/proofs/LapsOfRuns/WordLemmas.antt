-- The word of a circuit that reads a stem once and then a lap repeatedly.
-- - `repeats_by`: the letters of the word are those of a run to the first repetition
-- - `word_is`: the letters of a run to the first repetition, cut where the repeated reading of the lap begins, are a
--   word
-- - `some_in_lap`, `few_in_stem`, `few_in_lap`: the word's lap has a letter, and each letter has no bit but those of the
--   propositions
use Rattle.std.proofs.Common.{◌≡◌, ◌∙◌, ℕ, ◌+◌, ◌*◌, ◌^◌, ◌<◌, ◌++◌, Bool, List, length, take, drop, All, Vec}
use Rattle.std.proofs.Common.{ap, arith, length-append}
use Rattle.std.specs.Global.{Global}
use Rattle.std.proofs.lemmas.List.{length-map, length-take-le, take-append-drop, get_or-append-add}
use Rattle.std.proofs.Math.ListN.{get_or-append}
use Rattle.ps_circuit.specs.Circuits.{CircuitData}
use Rattle.ps_simulate.specs.Stimuli.{letters_of}
use Rattle.ps_simulate.specs.Words.{TraceWordData}
use Rattle.ps_simulate.specs.Lassos.{IsWordOf}
use Rattle.ps_simulate.specs.LassoRuns.{RepeatsBy}
use Rattle.ps_simulate.proofs.LapsOfRuns.LassoLemmas.{few_letters, lap_within}

-- ## A run to the first repetition

pub word_is : {names : List (List ℕ)} {c : CircuitData} {stem lap : List (List Bool)} {i : ℕ} {letters : List ℕ}
    (word : TraceWordData) → RepeatsBy names c stem lap i letters
    → word.stem ≡ take (length stem + i * length lap) letters → word.lap ≡ drop (length stem + i * length lap) letters →
    IsWordOf names c stem lap word
word_is {stem} {lap} {i} {letters} word h front back =
    let n = length stem + i * length lap in
    record {
      i = i;
      j = h.j;
      trace = h.trace;
      repeats = h.repeats;
      are_letters = rw (front, back, take-append-drop n letters) h.are_letters;
      stem_is = ap length front ∙ length-take-le n letters (omega (arith, lap_within h));
    }

-- the lemma `word_is` for words that the code stores in a `Vec`
pub word_is_items : {names : List (List ℕ)} {c : CircuitData} (stem lap : List (Vec Bool Global)) {i : ℕ}
    {letters : List ℕ} (word : TraceWordData) → RepeatsBy names c (letters_of stem) (letters_of lap) i letters
    → word.stem ≡ take (length stem + i * length lap) letters → word.lap ≡ drop (length stem + i * length lap) letters →
    IsWordOf names c (letters_of stem) (letters_of lap) word
word_is_items stem lap {i} word h front back = word_is word h
    (rw ((length-map stem (λ (l : Vec Bool Global). l.items)), (length-map lap (λ (l : Vec Bool Global). l.items)))
    front)
    (rw ((length-map stem (λ (l : Vec Bool Global). l.items)), (length-map lap (λ (l : Vec Bool Global). l.items)))
    back)

-- ## The letters of a word

module _ {names : List (List ℕ)} {c : CircuitData} {stem lap : List (List Bool)} {word : TraceWordData}
    (h : IsWordOf names c stem lap word) where
  pub repeats_by : RepeatsBy names c stem lap h.i (word.stem ++ word.lap)
  repeats_by = record { j = h.j; trace = h.trace; repeats = h.repeats; are_letters = h.are_letters }

  pub some_in_lap : 0 < length word.lap
  some_in_lap = omega (arith, lap_within repeats_by, h.stem_is, h.repeats.has_letter, length-append word.stem word.lap)

  few : All (λ letter. letter < 2 ^ length names) (word.stem ++ word.lap)
  few = few_letters names c h.trace (word.stem ++ word.lap) h.are_letters

  pub few_in_stem : All (λ letter. letter < 2 ^ length names) word.stem
  few_in_stem k d lt = rw (get_or-append word.stem word.lap d k lt) at
      (few k d (omega (arith, length-append word.stem word.lap)))

  pub few_in_lap : All (λ letter. letter < 2 ^ length names) word.lap
  few_in_lap k d lt = rw (get_or-append-add word.stem word.lap k d) at
      (few (length word.stem + k) d (omega (arith, length-append word.stem word.lap)))
