-- Lasso traces that read one stimulus have one infinite word.
-- - `unrolled_to`: the trace, as far as an index and further
-- - `same_letters`: traces from the same latches that read the same inputs have the same letters
-- - `same_word`: the words of two lasso traces that read one stimulus are equal
use Rattle.std.proofs.Common.{◌≡◌, ◌∙◌, ℕ, zero, suc, ◌+◌, ◌<◌, ◌≤◌, Bool, List, [], ◌∷◌, ◌++◌, length, get_or}
use Rattle.std.proofs.Common.{refl, sym, ap, subst, arith, length-append}
use Rattle.std.proofs.lemmas.List.{length-map, map-append}
use Rattle.ps_label.specs.Words.{lasso_word}
use Rattle.ps_circuit.specs.Circuits.{CircuitData, IsCircuit}
use Rattle.ps_circuit.specs.Values.{Moment, GoesOn, HasOneValues, resets}
use Rattle.ps_simulate.specs.Lassos.{AreLetters, IsLetterOf}
use Rattle.ps_simulate.specs.Stimuli.{StimulusData}
use Rattle.ps_simulate.specs.Symbols.{HasSymbols}
use Rattle.ps_simulate.specs.declared.role.Role.{Role}
use Rattle.ps_simulate.proofs.LapsOfRuns.LassoLemmas.{AreLetters-append, GoesOn-append, length_letters}
use Rattle.ps_simulate.proofs.UniqueVerdicts.OneLetter.{one_letters}
use Rattle.ps_simulate.proofs.UniqueVerdicts.OneTrace.{firsts_agree}
use Rattle.ps_traces.specs.Inputs.{inputs_of}
use Rattle.ps_verify.specs.Stimulated.{IsWordOn, input_at}
use Rattle.ps_verify.proofs.Unrolled.{laps, many_laps, map_laps, unrolled}

module _ {names : List (List ℕ)} {c : CircuitData} {s : StimulusData} {stem lap : List ℕ}
    (on : IsWordOn names c s stem lap) where
  abbrev before : List Moment
  before = on.word.stem_moments

  abbrev behind : List Moment
  behind = on.word.lap_moments

  abbrev back : List Bool
  back = on.word.trace.back

  laps_go : (count : ℕ) → GoesOn c back (laps behind count) back
  laps_go zero = refl
  laps_go (suc count) =
      GoesOn-append c back back back (laps behind count) behind (laps_go count) on.word.trace.comes_back

  lap_letters : (count : ℕ) → AreLetters names c (laps behind count) (laps lap count)
  lap_letters zero = refl
  lap_letters (suc count) = AreLetters-append names c (laps behind count) behind (laps lap count) lap
      (lap_letters count) on.word.lap_letters

  -- a trace that has a step with the given index, and its letters
  pub record IsUnrolled (t : ℕ) : Type 0 where
    pub moments : List Moment
    pub letters : List ℕ
    pub last : List Bool
    pub goes_on : GoesOn c (resets c) moments last
    pub are_letters : AreLetters names c moments letters
    pub within : t < length moments
    pub reads : (k : ℕ) → k ≤ t → get_or (inputs_of moments) k [] ≡ input_at s.stem s.lap k
    pub letter_is : (k : ℕ) → k ≤ t → get_or letters k 0 ≡ lasso_word stem lap k

  pub unrolled_to : (t : ℕ) → IsUnrolled t
  unrolled_to t =
      let count = suc t in
      let moments = before ++ laps behind count in
      let letters = stem ++ laps lap count in
      let are : AreLetters names c moments letters = AreLetters-append names c before (laps behind count) stem
      (laps lap count) on.word.stem_letters (lap_letters count) in
      let long : t < length moments =
      omega (arith, many_laps behind count on.word.trace.some, length-append before (laps behind count)) in
      let inputs : inputs_of moments ≡ inputs_of before ++ laps (inputs_of behind) count =
      map-append (λ (m : Moment). m.inputs) before (laps behind count)
      ∙ ap (λ (ls : List (List Bool)). inputs_of before ++ ls) (map_laps (λ (m : Moment). m.inputs) behind count) in
      let many_inputs : length (inputs_of moments) ≡ length moments =
      length-map moments (λ (m : Moment). m.inputs) in
      record {
        moments = moments;
        letters = letters;
        last = back;
        goes_on = GoesOn-append c (resets c) back back before (laps behind count) on.word.trace.goes_there
            (laps_go count);
        are_letters = are;
        within = long;
        reads = λ k low. ap (λ (ls : List (List Bool)). get_or ls k []) inputs
            ∙ unrolled [] (inputs_of before) (inputs_of behind) count k
            (omega (arith, low, long, many_inputs, ap length inputs))
            ∙ on.reads k;
        letter_is = λ k low.
            unrolled 0 stem lap count k (omega (arith, low, long, length_letters names c moments letters are));
      }

module _ {role : Role} {names : List (List ℕ)} {controllable : List ℕ} {c : CircuitData} (is_circuit : IsCircuit c)
    (one : HasOneValues c) (has : HasSymbols role names controllable c) where
  same_letters : (t : ℕ) (from last last' : List Bool) (ms ns : List Moment) (us vs : List ℕ) →
      GoesOn c from ms last → GoesOn c from ns last' → AreLetters names c ms us → AreLetters names c ns vs →
      t < length ms → t < length ns →
      ((k : ℕ) → k ≤ t → get_or (inputs_of ms) k [] ≡ get_or (inputs_of ns) k []) → get_or us t 0 ≡ get_or vs t 0
  same_letters t from last last' [] ns us vs g h a b less less' same = absurd (omega arith)
  same_letters t from last last' (m ∷ ms) [] us vs g h a b less less' same = absurd (omega arith)
  same_letters t from last last' (m ∷ ms) (n ∷ ns) [] vs g h a b less less' same = absurd a
  same_letters t from last last' (m ∷ ms) (n ∷ ns) (u ∷ us) [] g h a b less less' same = absurd b
  same_letters zero from last last' (m ∷ ms) (n ∷ ns) (u ∷ us) (v ∷ vs) (next, at, steps, rest)
      (next', at', steps', rest') a b less less' same =
      let first = firsts_agree c is_circuit one from next next' m n at at' steps steps' (same 0 (omega arith)) in
      let there : IsLetterOf names c m v = subst (λ (x : Moment). IsLetterOf names c x v) (sym first.0) b.0 in
      let alike : u ∷ [] ≡ v ∷ [] = one_letters has (m ∷ []) (u ∷ []) (v ∷ []) (a.0, refl) (there, refl) in
      cc
  same_letters (suc t) from last last' (m ∷ ms) (n ∷ ns) (u ∷ us) (v ∷ vs) (next, at, steps, rest)
      (next', at', steps', rest') a b less less' same =
      let first = firsts_agree c is_circuit one from next next' m n at at' steps steps' (same 0 (omega arith)) in
      same_letters t next last last' ms ns us vs rest
      (subst (λ (l : List Bool). GoesOn c l ns last') (sym first.1) rest') a.1 b.1 (omega arith) (omega arith)
      (λ k low. same (suc k) (omega arith))

  same_at : {s : StimulusData} {stem lap other_stem other_lap : List ℕ} → IsWordOn names c s stem lap →
      IsWordOn names c s other_stem other_lap → (t : ℕ) → lasso_word stem lap t ≡ lasso_word other_stem other_lap t
  same_at on other t =
      let a = unrolled_to on t in
      let b = unrolled_to other t in
      sym (a.letter_is t (omega arith))
      ∙ same_letters t (resets c) a.last b.last a.moments b.moments a.letters b.letters a.goes_on b.goes_on
      a.are_letters b.are_letters a.within b.within (λ k low. a.reads k low ∙ sym (b.reads k low))
      ∙ b.letter_is t (omega arith)

  pub same_word : {s : StimulusData} {stem lap other_stem other_lap : List ℕ} → IsWordOn names c s stem lap →
      IsWordOn names c s other_stem other_lap → lasso_word stem lap ≡ lasso_word other_stem other_lap
  same_word on other = λ i t. same_at on other t i
