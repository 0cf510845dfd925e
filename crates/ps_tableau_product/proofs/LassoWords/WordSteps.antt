-- The steps and the letters along the word of a lasso trace, and lists of entries that follow one another.
-- - `entries_from e i n`: the entries of e at the n indices from i on
-- - `moment word i`: the step of the trace at an index
use Rattle.std.proofs.Common.{◌≡◌, ℕ, zero, suc, ◌+◌, ◌-◌, ◌<◌, ◌≤◌, Bool, List, [], ◌∷◌, length, get_or}
use Rattle.std.proofs.Common.{refl, sym, ap, subst, ◌∙◌, arith}
use Rattle.std.specs.Prelude.{Contains}
use Rattle.std.proofs.lemmas.List.{length-map}
use Rattle.ps_label.specs.Words.{lasso_word}
use Rattle.ps_circuit.specs.Circuits.{CircuitData}
use Rattle.ps_circuit.specs.Values.{GoesOn, Moment, Steps, bit_of, resets}
use Rattle.ps_simulate.specs.Lassos.{AreLetters, IsLetterOf}
use Rattle.ps_simulate.proofs.LapsOfRuns.LassoLemmas.{length_letters}
use Rattle.ps_traces.specs.Traces.{IsLassoWord}
use Rattle.ps_tableau_product.proofs.LassoWords.LassoWalks.{Walks, along, along_both, goes, starts}

-- ## Entries one after another

abbrev pub entries_from : {X : Type 0} → (ℕ → X) → ℕ → ℕ → List X
entries_from e i zero = []
entries_from e i (suc n) = e i ∷ entries_from e (suc i) n

pub length-entries_from : {X : Type 0} (e : ℕ → X) (i n : ℕ) → length (entries_from e i n) ≡ n
length-entries_from e i zero = refl
length-entries_from e i (suc n) = ap suc (length-entries_from e (suc i) n)

pub entry_at : {X : Type 0} (e : ℕ → X) (i n k j : ℕ) (d : X) → k < n → i + k ≡ j →
    get_or (entries_from e i n) k d ≡ e j
entry_at e i zero k j d low far = absurd (omega arith)
entry_at e i (suc n) zero j d low far = ap e (omega arith)
entry_at e i (suc n) (suc k) j d low far = entry_at e (suc i) n k j d (omega arith) (omega arith)

pub among : {X : Type 0} (e : ℕ → X) (i n j : ℕ) → i ≤ j → j < i + n → Contains (entries_from e i n) (e j)
among e i n j low high =
    let many = length-entries_from e i n in
    (j - i, omega arith, entry_at e i n (j - i) j (e j) (omega arith) (omega arith))

-- ## Steps and letters

abbrev pub no_moment : Moment
no_moment = record { latches = []; inputs = []; outputs = [] }

abbrev StepsTo : CircuitData → Moment → List Bool → Type 0
StepsTo c m latches = Steps c m.latches m.inputs m.outputs latches

walk_of : (c : CircuitData) (from to : List Bool) (ms : List Moment) → GoesOn c from ms to →
    Walks (λ (m : Moment). m.latches) (StepsTo c) from ms to
walk_of c from to [] on = on
walk_of c from to (m ∷ ms) (next, at, steps, rest) = (
  next,
  at,
  subst (λ (l : List Bool). Steps c l m.inputs m.outputs next) (sym at) steps,
  walk_of c next to ms rest,
)

letter_in : (names : List (List ℕ)) (c : CircuitData) (ms : List Moment) (letters : List ℕ) →
    AreLetters names c ms letters → (k : ℕ) → k < length ms →
    IsLetterOf names c (get_or ms k no_moment) (get_or letters k 0)
letter_in names c [] letters are k low = absurd (omega arith)
letter_in names c (m ∷ ms) [] are k low = absurd are
letter_in names c (m ∷ ms) (l ∷ ls) are zero low = are.0
letter_in names c (m ∷ ms) (l ∷ ls) are (suc k) low = letter_in names c ms ls are.1 k (omega arith)

module _ {names : List (List ℕ)} {c : CircuitData} {stem lap : List ℕ} (word : IsLassoWord names c stem lap) where
  abbrev pub moment : ℕ → Moment
  moment = along no_moment word.stem_moments word.lap_moments

  there : Walks (λ (m : Moment). m.latches) (StepsTo c) (resets c) word.stem_moments word.trace.back
  there = walk_of c (resets c) word.trace.back word.stem_moments word.trace.goes_there

  again : Walks (λ (m : Moment). m.latches) (StepsTo c) word.trace.back word.lap_moments word.trace.back
  again = walk_of c word.trace.back word.trace.back word.lap_moments word.trace.comes_back

  pub steps_at : (i : ℕ) → Steps c (moment i).latches (moment i).inputs (moment i).outputs (moment (suc i)).latches
  steps_at = goes (λ (m : Moment). m.latches) (StepsTo c) no_moment (resets c) word.trace.back word.stem_moments
      word.lap_moments there again word.trace.some

  pub begins_with : (moment 0).latches ≡ resets c
  begins_with = starts (λ (m : Moment). m.latches) (StepsTo c) no_moment (resets c) word.trace.back word.stem_moments
      word.lap_moments there again word.trace.some

  pub letter_there : (i : ℕ) → IsLetterOf names c (moment i) (lasso_word stem lap i)
  letter_there = along_both (λ (m : Moment) (n : ℕ). IsLetterOf names c m n) no_moment 0 word.stem_moments
      word.lap_moments stem lap (sym (length_letters names c word.stem_moments stem word.stem_letters))
      (sym (length_letters names c word.lap_moments lap word.lap_letters)) word.trace.some
      (letter_in names c word.stem_moments stem word.stem_letters)
      (letter_in names c word.lap_moments lap word.lap_letters)

  pub latches_held : (i : ℕ) → length (moment i).latches ≡ length c.latches
  latches_held zero = ap length begins_with ∙ length-map c.latches (λ l. l.reset)
  latches_held (suc i) =
      let s = steps_at i in ap length s.next_are ∙ length-map c.latches (λ l. bit_of s.values l.next)

  pub some_letter : 0 < length lap
  some_letter = omega (arith, length_letters names c word.lap_moments lap word.lap_letters, word.trace.some)
