-- The word of each lasso trace of a machine's circuit is the word of a lasso of the machine.
use Rattle.std.proofs.Common.{rules, ◌≡◌, ◌≢◌, ℕ, zero, suc, ◌+◌, ◌<◌, ◌≤◌, ◌⊎◌, inl, inr, Bool, true, false, List, []}
use Rattle.std.proofs.Common.{◌∷◌, ◌++◌, length, get_or, Option, refl, ap, sym, ◌∙◌, subst, arith, add-one}
use Rattle.std.specs.Prelude.{All}
use Rattle.std.proofs.lemmas.Bool.{cases_lt, cases_Bool}
use Rattle.std.proofs.lemmas.List.{get_or-map}
use Rattle.std.proofs.lemmas.List.Elements.{All-head, All-tail}
use Rattle.ps_label.specs.Truth.{is_in}
use Rattle.ps_diagram.proofs.Letters.{no_bit}
use Rattle.ps_diagram.proofs.ClassesOfLetters.LetterSums.{AreApart}
use Rattle.ps_hoa.specs.Files.{FileData, is_among}
use Rattle.ps_circuit.specs.Circuits.{CircuitData}
use Rattle.ps_circuit.specs.Values.{Moment, GoesOn, Steps, resets}
use Rattle.ps_aiger.specs.Encoded.{Encodes, StepsAs, number_of_bits, memory_of, letter_over, symbols_of}
use Rattle.ps_machine.specs.Behaviours.{Behaviour, IsMachine, IsOutput, IsLasso, LassosWon, Makes}
use Rattle.ps_simulate.specs.Symbols.{IsSymbol}
use Rattle.ps_simulate.specs.Lassos.{IsLetterOf, AreLetters, latches_along}
use Rattle.ps_simulate.proofs.LapsOfRuns.LassoLemmas.{AreLetters-append, GoesOn-append, along_more, at_end}
use Rattle.ps_simulate.proofs.LapsOfRuns.LassoLemmas.{length_letters}
use Rattle.ps_traces.specs.Traces.{IsLassoWord, AllAccepted, NoneAccepted}
use Rattle.ps_traces.proofs.LetterBits.{are_apart, few_bits, bit_with, bit_with_at, bit_with_none}
use Rattle.ps_traces.proofs.LetterBits.{in_letter_over}
use Rattle.ps_traces.proofs.LetterBits.{in_sum_left, in_sum_right, same_letter, stands_in}

-- ## Traces

first_along : (c : CircuitData) (from to : List Bool) (ms : List Moment) → GoesOn c from ms to →
    get_or (latches_along ms to) 0 [] ≡ from
first_along c from to [] on = sym on
first_along c from to (m ∷ ms) (next, at, step, on) = at

-- let P hold for each step of a circuit: for the latches before the step, the step's letter and the latches after it;
-- then P holds for the step at each index of a trace
at_each : (names : List (List ℕ)) (c : CircuitData) (P : List Bool → ℕ → List Bool → Type 0)
    → ((m : Moment) (letter : ℕ) (next : List Bool) → Steps c m.latches m.inputs m.outputs next →
    IsLetterOf names c m letter → P m.latches letter next)
    → (from to : List Bool) (ms : List Moment) (ls : List ℕ) → GoesOn c from ms to → AreLetters names c ms ls
    → (t : ℕ) → t < length ls → P (get_or (latches_along ms to) t []) (get_or ls t 0)
    (get_or (latches_along ms to) (suc t) [])
at_each names c P each from to [] ls on a t lt = absurd (omega (arith, ap length a))
at_each names c P each from to (m ∷ ms) [] on a t lt = absurd a
at_each names c P each from to (m ∷ ms) (l ∷ ls) (next, at, step, on) a zero lt =
    rw (first_along c next to ms on) (each m l next (rw at step) a.0)
at_each names c P each from to (m ∷ ms) (l ∷ ls) (next, at, step, on) a (suc t) lt =
    at_each names c P each next to ms ls on a.1 t (omega (arith, lt))

-- ## Steps of a machine

none_number : (bits : List Bool) → All (λ bit. bit ≡ false) bits → number_of_bits bits ≡ 0
none_number [] h = refl
none_number (b ∷ bs) h = grind (
  arith,
  All-head (λ bit. bit ≡ false) b bs h,
  none_number bs (All-tail (λ bit. bit ≡ false) b bs h),
)

module _ (m : Behaviour) (is : IsMachine m) where
  pub memory_below : (latches : List Bool) → memory_of m latches < m.memories
  memory_below latches = grind (arith, is.some)

  code_is : (latches : List Bool) (memory : ℕ) → number_of_bits latches ≡ memory → memory < m.memories →
      memory_of m latches ≡ memory
  code_is latches memory e lt = grind arith

  not_both : (p : ℕ) → is_among p m.outputs ≡ true → is_among p m.inputs ≡ false
  not_both p out = grind (arith, is.apart p)

  some_side : (p : ℕ) → p < length m.names → (is_among p m.inputs ≡ true) ⊎ (is_among p m.outputs ≡ true)
  some_side p lt = (is.each p).0 lt

  -- ## The letter of a step

  module _ (c : CircuitData) (encodes : Encodes m c) where
    symbol_at : {symbols : List (Option (List ℕ))} (ps : List ℕ) → symbols ≡ symbols_of m.names ps → (k : ℕ) →
        k < length ps → get_or ps k 0 < length m.names → IsSymbol m.names symbols k (get_or ps k 0)
    symbol_at ps e k lt within = search (rules, get_or-map)

    module _ (s : Moment) (letter : ℕ) (next : List Bool) (steps : Steps c s.latches s.inputs s.outputs next)
        (is_letter : IsLetterOf m.names c s letter) where
      as_machine : StepsAs m s.latches s.inputs s.outputs next
      as_machine = encodes.steps s.latches s.inputs s.outputs next steps

      abbrev input : ℕ
      input = letter_over m.inputs s.inputs

      abbrev memory : ℕ
      memory = memory_of m s.latches

      abbrev output : ℕ
      output = m.plays memory input

      in_input : (p : ℕ) → is_in p input ≡ bit_with p m.inputs s.inputs
      in_input p = in_letter_over p m.inputs s.inputs is.inputs_rise

      input_off : (p : ℕ) → is_among p m.inputs ≡ false → is_in p input ≡ false
      input_off p none = in_input p ∙ bit_with_none p m.inputs s.inputs none

      input_high : (p : ℕ) → length m.names ≤ p → is_in p input ≡ false
      input_high p le = search (rules, cases_Bool, input_off)

      is_output : IsOutput m output
      is_output = is.plays_own memory input (memory_below s.latches)

      -- at a proposition that the machine reads, the letter of the circuit's step has the same bit as the machine's
      -- input letter
      read_bit : (p : ℕ) → p < length m.names → is_among p m.inputs ≡ true → is_in p letter ≡ is_in p input
      read_bit p lt among =
          let at = stands_in p m.inputs among in
          grind (arith, symbol_at, bit_with_at, in_input)

      -- at a proposition that the machine outputs, the letter of the circuit's step has the same bit as the machine's
      -- output letter
      played_bit : (p : ℕ) → p < length m.names → is_among p m.outputs ≡ true → is_in p letter ≡ is_in p output
      played_bit p lt among =
          let at = stands_in p m.outputs among in
          let symbol = symbol_at m.outputs encodes.output_names at.place at.within (rw at.is lt) in
          ap (λ q. is_in q letter) (sym at.is) ∙ is_letter.outputs at.place (get_or m.outputs at.place 0) symbol
          ∙ ap (λ (bits : List Bool). get_or bits at.place false) as_machine.outputs_are
          ∙ get_or-map (λ q. is_in q output) m.outputs at.place 0 false at.within ∙ ap (λ q. is_in q output) at.is

      apart : AreApart input output
      apart = search (rules, are_apart, cases_Bool, input_off)

      joined : letter ≡ input + output
      joined = same_letter letter (input + output) (λ p. elim (cases_lt p (length m.names)) [
        | inl lt ↦ elim (some_side p lt) [
          | inl read ↦ read_bit p lt read ∙ sym (in_sum_left p input output apart (is_output.own p (is.apart p read)))
          | inr played ↦ search (rules, played_bit, in_sum_right, apart, input_off, not_both)
        ]
        | inr le ↦ no_bit (length m.names) letter p is_letter.few le ∙ sym
            (in_sum_left p input output apart (no_bit (length m.names) output p is_output.within le) ∙ input_high p le)
      ])

      makes : Makes m memory letter (memory_of m next)
      makes = grind (
        arith,
        few_bits (length m.names) input input_high,
        input_off,
        joined,
        code_is next (m.next memory input) as_machine.next_is (is.next_within memory input (memory_below s.latches)),
      )

    -- ## Lassos

    module _ (stem lap : List ℕ) (word : IsLassoWord m.names c stem lap) where
      abbrev moments : List Moment
      moments = word.stem_moments ++ word.lap_moments

      goes_on : GoesOn c (resets c) moments word.trace.back
      goes_on = search (rules, GoesOn-append)

      are_letters : AreLetters m.names c moments (stem ++ lap)
      are_letters = search (rules, AreLetters-append)

      abbrev memory_at : ℕ → ℕ
      memory_at t = memory_of m (get_or (latches_along moments word.trace.back) t [])

      begins : memory_at 0 ≡ 0
      begins = search (rules, none_number, first_along, goes_on, code_is)

      stem_size : length stem ≡ length word.stem_moments
      stem_size = length_letters m.names c word.stem_moments stem word.stem_letters

      whole_size : length (stem ++ lap) ≡ length moments
      whole_size = length_letters m.names c moments (stem ++ lap) are_letters

      -- after the stem of a lasso, and after its repeated part (the lap), the machine has the same memory state
      returns : memory_at (length stem) ≡ memory_at (length (stem ++ lap))
      returns =
          let here : get_or (latches_along moments word.trace.back) (length word.stem_moments) [] ≡ word.trace.back =
          along_more c word.stem_moments word.lap_moments word.trace.back word.trace.back (length word.stem_moments)
          word.trace.comes_back (omega arith) ∙ at_end word.stem_moments word.trace.back in
          grind (arith, stem_size, at_end, whole_size)

      some : 0 < length lap
      some = search (rules, length_letters)

      pub is_lasso : IsLasso m stem lap
      is_lasso = record {
        some = some;
        memories = memory_at;
        begins = begins;
        makes = λ t lt. subst (λ n. Makes m (memory_at t) (get_or (stem ++ lap) t 0) (memory_at n)) (sym (add-one t))
            (at_each m.names c (λ before letter behind. Makes m (memory_of m before) letter (memory_of m behind)) makes
            (resets c) word.trace.back moments (stem ++ lap) goes_on are_letters t lt);
        returns = returns;
      }

pub machine_words : (m : Behaviour) (c : CircuitData) (stem lap : List ℕ) → IsMachine m → Encodes m c →
    IsLassoWord m.names c stem lap → IsLasso m stem lap
machine_words m c stem lap is encodes word = is_lasso m is c encodes stem lap word

pub all_accepted : (file : FileData) (m : Behaviour) (c : CircuitData) → IsMachine m → m.names ≡ file.names →
    Encodes m c → LassosWon file m → m.player ≡ 0 → AllAccepted file c
all_accepted file m c is names encodes won player stem lap word =
    won.accepted player stem lap (machine_words m c stem lap is encodes (rw names word))

pub none_accepted : (file : FileData) (m : Behaviour) (c : CircuitData) → IsMachine m → m.names ≡ file.names →
    Encodes m c → LassosWon file m → m.player ≢ 0 → NoneAccepted file c
none_accepted file m c is names encodes won player stem lap word =
    won.rejected player stem lap (machine_words m c stem lap is encodes (rw names word))
