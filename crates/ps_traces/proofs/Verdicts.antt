-- A stimulus is a lasso of input letters: a stem, and a lap that repeats for ever. There is a word of the circuit's trace
-- on each stimulus, and a verdict: an automaton accepts the word, or does not accept it. The circuit has the inputs and
-- outputs of its role. The circuit reads the lap again and again, until its latch values recur. When the letters
-- between two occurrences of the same latch values are repeated, the automaton's states recur.
use Rattle.std.proofs.Common.{◌≡◌, ◌∙◌, ℕ, zero, suc, ◌+◌, ◌-◌, ◌*◌, ◌^◌, ◌<◌, ◌≤◌, ◌⊎◌, ◌↔◌, inl, inr, Bool, List, []}
use Rattle.std.proofs.Common.{◌∷◌, ◌++◌, length, get_or, take, drop, IsTrue, Some, refl, sym, ap, arith}
use Rattle.std.proofs.Common.{rules, ◌≢◌}
use Rattle.std.specs.List.{All}
use Rattle.std.proofs.lemmas.List.{length-map}
use Rattle.std.proofs.lemmas.List.Elements.{All-head, All-tail}
use Rattle.ps_hoa.specs.Files.{FileData}
use Rattle.ps_hoa.specs.Sound.{AreNames}
use Rattle.ps_automaton.specs.Acceptance.{IsAccepted}
use Rattle.ps_automaton.specs.Autos.{Auto, IsAutoOf, state_behind, state_after, greatest_of_laps}
use Rattle.ps_automaton.specs.Chains.{Chain, chain_of, is_even}
use Rattle.ps_automaton.proofs.AdmittedFiles.Accepting.{laps_decide}
use Rattle.ps_circuit.specs.Circuits.{CircuitData}
use Rattle.ps_circuit.specs.Values.{HasOneValues, resets}
use Rattle.ps_simulate.specs.LassoFaults.{AreWide}
use Rattle.ps_simulate.specs.LassoRuns.{HasRead, ReadsWord, RepeatsBy}
use Rattle.ps_simulate.specs.Lassos.{IsVerdictOf, IsWordOf}
use Rattle.ps_simulate.specs.Symbols.{AreDistinct, HasSymbols}
use Rattle.ps_simulate.specs.Words.{TraceWordData}
use Rattle.ps_simulate.specs.declared.lassos.Verdict.{Verdict}
use Rattle.ps_simulate.specs.declared.role.Role.{Role}
use Rattle.ps_simulate.proofs.LapsOfRuns.LassoLemmas.{HasRead-start, HasRead-lap, fewer, repeats}
use Rattle.ps_simulate.proofs.NamingLemmas.{names_differ}
use Rattle.ps_simulate.proofs.LapsOfRuns.WordLemmas.{few_in_lap, few_in_stem, some_in_lap, word_is}
use Rattle.ps_traces.proofs.StepLetters.{letters_there}
use Rattle.ps_traces.proofs.Returns.{comes_again}
use Rattle.ps_traces.proofs.CircuitRuns.{run}
use Rattle.std.proofs.lemmas.Bool.{cases_lt}
use Rattle.ps_automaton.proofs.AdmittedFiles.Deciding.{some_or_none}

-- ## The verdict of an automaton on a lasso

module _ (file : FileData) (chain : Chain) (a : Auto) (is_chain : chain_of file.condition ≡ Some chain)
    (is_auto : IsAutoOf file chain a) where
  abbrev IsLetter : ℕ → Type 0
  IsLetter letter = letter < 2 ^ length file.names

  behind_within : (q : ℕ) (letters : List ℕ) → q ≤ file.states → All IsLetter letters →
      state_behind a q letters ≤ file.states
  behind_within q [] le each = le
  behind_within q (letter ∷ letters) le each = behind_within (a.next q letter) letters
      (is_auto.within q letter le (All-head IsLetter letter letters each)) (All-tail IsLetter letter letters each)

  after_within : (q : ℕ) (lap : List ℕ) (laps : ℕ) → q ≤ file.states → All IsLetter lap →
      state_after a q lap laps ≤ file.states
  after_within q lap zero le each = le
  after_within q lap (suc laps) le each = search (rules, behind_within, after_within q lap laps le each)

  pub accepted_or_not : (stem lap : List ℕ) → 0 < length lap → All IsLetter stem → All IsLetter lap →
      (accepted : Bool) × (IsTrue accepted ↔ IsAccepted file stem lap)
  accepted_or_not stem lap some in_stem in_lap =
      let start = state_behind a a.start stem in
      let below : start ≤ file.states = behind_within a.start stem is_auto.start_within in_stem in
      let found = comes_again (λ t. state_after a start lap t) (suc file.states)
      (λ t. (let le = after_within start lap t below in_lap in omega arith)) in
      let returns : state_after a start lap (found.one + (found.other - found.one)) ≡ state_after a start lap found.one
      = ap (λ t. state_after a start lap t) (omega (arith, found.rises)) ∙ sym found.same in (
        is_even (greatest_of_laps a (state_after a start lap found.one) lap (found.other - found.one)),
        laps_decide file chain a stem lap found.one (found.other - found.one) (state_after a start lap found.one)
            is_chain is_auto some in_stem in_lap (omega (arith, found.rises)) refl returns,
      )

-- ## The first repetition

bits_or_not : (xs ys : List Bool) → (xs ≡ ys) ⊎ (xs ≡ ys → ⊥)
bits_or_not [] [] = inl refl
bits_or_not [] (y ∷ ys) = inr (λ e. cc)
bits_or_not (x ∷ xs) [] = inr (λ e. cc)
bits_or_not (x ∷ xs) (y ∷ ys) = grind (arith, bits_or_not xs ys)

abbrev IsAt : List (List Bool) → List Bool → ℕ → Type 0
IsAt seen latches i = (i < length seen) × (get_or seen i [] ≡ latches)

seen_or_not : (seen : List (List Bool)) (latches : List Bool) →
    ((i : ℕ) × IsAt seen latches i) ⊎ ((i : ℕ) × IsAt seen latches i → ⊥)
seen_or_not seen latches = some_or_none (IsAt seen latches)
    (λ i. grind (arith, cases_lt i (length seen), bits_or_not (get_or seen i []) latches)) (length seen) (λ i h. h.0)

module _ (role : Role) (names : List (List ℕ)) (controllable : List ℕ) (c : CircuitData) (stem lap : List (List Bool))
    (distinct : AreDistinct names) (has : HasSymbols role names controllable c) (one : HasOneValues c)
    (wide : AreWide c stem lap) (some : 0 < length lap) where
  record HasWord (from : List Bool) (word : List (List Bool)) (old : List ℕ) : Type 0 where
    new : List ℕ
    last : List Bool
    reads : ReadsWord names c from word old new last
    held : length last ≡ length c.latches

  word_of : (from : List Bool) (word : List (List Bool)) (old : List ℕ) → length from ≡ length c.latches →
      All (λ letter. length letter ≡ length c.inputs) word → HasWord from word old
  word_of from word old held each =
      let r = run c one from word held each in
      let l = letters_there distinct has r.moments in
      record {
        new = old ++ l.letters;
        last = r.last;
        reads = search rules;
        held = r.wide;
      }

  record HasRepetition : Type 0 where
    i : ℕ
    letters : List ℕ
    repeats_by : RepeatsBy names c stem lap i letters

  -- the search for a repetition ends: `fuel`, which bounds its steps, is greater than the number of possible latch
  -- values that were not yet seen
  search_on : (fuel : ℕ) (seen : List (List Bool)) (letters : List ℕ) (last : List Bool) →
      HasRead names c stem lap seen letters last → length last ≡ length c.latches
      → 2 ^ length c.latches - length seen < fuel → HasRepetition
  search_on zero seen letters last h held le = absurd (omega arith)
  search_on (suc fuel) seen letters last h held le = elim (seen_or_not seen last) [
    | inl f ↦ search (rules, repeats)
    | inr none ↦
        let w = word_of last lap letters held wide.lap_is in
        let fresh : (k : ℕ) → k < length seen → get_or seen k [] ≢ last = λ k lt e. none (k, (lt, e)) in
        let more = HasRead-lap h w.reads held fresh in
        search_on fuel (seen ++ last ∷ []) w.new w.last more w.held
        (omega (arith, le, fewer seen last more (fresh, refl)))
  ]

  repetition : HasRepetition
  repetition =
      let w = word_of (resets c) stem [] (length-map c.latches (λ l. l.reset)) wide.stem_is in
      search_on (suc (2 ^ length c.latches)) [] w.new w.last (HasRead-start lap refl refl w.reads) w.held (omega arith)

  pub word_there : (word : TraceWordData) × IsWordOf names c stem lap word
  word_there =
      let r = repetition in
      let n = length stem + r.i * length lap in
      let word : TraceWordData = record { stem = take n r.letters; lap = drop n r.letters } in
      (word, word_is word r.repeats_by refl refl)

-- ## The verdict

pub verdict_there : (role : Role) (file : FileData) (c : CircuitData) (stem lap : List (List Bool)) →
    AreNames file.names → HasSymbols role file.names file.controllable c → HasOneValues c → AreWide c stem lap →
    0 < length lap → (chain : Chain) (a : Auto) → chain_of file.condition ≡ Some chain → IsAutoOf file chain a →
    (verdict : Verdict) × IsVerdictOf file c stem lap verdict
verdict_there role file c stem lap are_names has one wide some chain a is_chain is_auto =
    let word = word_there role file.names file.controllable c stem lap (names_differ file.names are_names) has one wide
    some in
    let told = accepted_or_not file chain a is_chain is_auto word.0.stem word.0.lap (some_in_lap word.1)
    (few_in_stem word.1) (few_in_lap word.1) in (
      record { accepted = told.0; stem = length word.0.stem; lap = length word.0.lap },
      record { word = word.0; is_word = word.1; stem_is = refl; lap_is = refl; accepted = told.1 },
    )
