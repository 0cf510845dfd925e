-- Words of lasso traces that read a stimulus.
-- - `word_on`: the word that is found at the first repetition of latches
-- - `trace_on`: a lasso trace that reads the stem and some laps, and then some laps for ever, reads the stimulus
use Rattle.std.proofs.Common.{◌≡◌, ◌∙◌, ℕ, zero, suc, ◌+◌, ◌-◌, ◌*◌, ◌<◌, ◌≤◌, Bool, List, [], ◌∷◌, ◌++◌, length}
use Rattle.std.proofs.Common.{get_or}
use Rattle.std.proofs.Common.{refl, sym, ap, ap₂, subst, arith, length-append, append_assoc, take, drop, length-drop}
use Rattle.std.proofs.Math.Seq.{drop-append_seam, take-append_seam}
use Rattle.std.proofs.Math.Nat.{mul-le-mul_right}
use Rattle.std.proofs.lemmas.List.{length-map, map-append, length-take-le, take-append-drop}
use Rattle.ps_circuit.specs.Circuits.{CircuitData}
use Rattle.ps_circuit.specs.Values.{Moment, GoesOn, Steps, resets}
use Rattle.ps_simulate.specs.Lassos.{AreLetters, IsWordOf, laps_of, latches_along}
use Rattle.ps_simulate.specs.Stimuli.{StimulusData}
use Rattle.ps_simulate.specs.Words.{TraceWordData}
use Rattle.ps_simulate.proofs.LapsOfRuns.LassoLemmas.{length_trace}
use Rattle.ps_traces.specs.Inputs.{GoesOnInLasso, inputs_of}
use Rattle.ps_verify.specs.Stimulated.{IsWordOn, input_at}
use Rattle.ps_verify.proofs.Unrolled.{laps, laps_together, length_laps, realigned}

laps_same : (lap : List (List Bool)) (count : ℕ) → laps_of lap count ≡ laps lap count
laps_same lap zero = refl
laps_same lap (suc count) = ap (λ (ls : List (List Bool)). ls ++ lap) (laps_same lap count)

halves : {X : Type 0} (xs ys us vs : List X) → length xs ≡ length us → xs ++ ys ≡ us ++ vs → (xs ≡ us) × (ys ≡ vs)
halves xs ys us vs many same = (
  sym (take-append_seam xs ys) ∙ ap₂ take many same ∙ take-append_seam us vs,
  sym (drop-append_seam xs ys) ∙ ap₂ drop many same ∙ drop-append_seam us vs,
)

-- the trace reads the stem and some laps, and then some laps again and again
reads_stimulus : (s : StimulusData) (stem lap : List (List Bool)) (before many : ℕ) → 0 < length s.lap → 0 < many →
    stem ≡ s.stem ++ laps s.lap before → lap ≡ laps s.lap many → (t : ℕ) → input_at stem lap t ≡ input_at s.stem s.lap t
reads_stimulus s stem lap before many some some_laps stem_is lap_is t =
    ap₂ (λ (xs ys : List (List Bool)). input_at xs ys t) stem_is lap_is
    ∙ realigned [] s.stem s.lap before many t some some_laps

record Parted (names : List (List ℕ)) (c : CircuitData) (from : List Bool) (ms : List Moment) (last : List Bool)
    (ls : List ℕ) (n : ℕ) : Type 0 where
  there : GoesOn c from (take n ms) (get_or (latches_along ms last) n [])
  on : GoesOn c (get_or (latches_along ms last) n []) (drop n ms) last
  before : AreLetters names c (take n ms) (take n ls)
  behind : AreLetters names c (drop n ms) (drop n ls)

parted : (names : List (List ℕ)) (c : CircuitData) (from : List Bool) (ms : List Moment) (last : List Bool)
    (ls : List ℕ) (n : ℕ) → GoesOn c from ms last → AreLetters names c ms ls → n ≤ length ms →
    Parted names c from ms last ls n
parted names c from [] last [] zero goes are le = record { there = goes; on = refl; before = refl; behind = refl }
parted names c from [] last [] (suc n) goes are le = absurd (omega arith)
parted names c from [] last (l ∷ ls) n goes are le = cc
parted names c from (m ∷ ms) last [] n goes are le = absurd are
parted names c from (m ∷ ms) last (l ∷ ls) zero (next, at, steps, rest) are le = record {
  there = sym at;
  on = (next, refl, subst (λ (latches : List Bool). Steps c latches m.inputs m.outputs next) (sym at) steps, rest);
  before = refl;
  behind = are;
}
parted names c from (m ∷ ms) last (l ∷ ls) (suc n) (next, at, steps, rest) (letter, are) le =
    let more = parted names c next ms last ls n rest are (omega arith) in
    record {
      there = (next, at, steps, more.there);
      on = more.on;
      before = (letter, more.before);
      behind = more.behind;
    }

module _ {names : List (List ℕ)} {c : CircuitData} {s : StimulusData} {word : TraceWordData}
    (w : IsWordOf names c s.stem s.lap word) where
  abbrev many : ℕ
  many = w.j - w.i

  size : length w.trace ≡ length s.stem + w.j * length s.lap
  size = length_trace s.stem s.lap w.trace w.j w.repeats.reads

  laps_are : w.j * length s.lap ≡ w.i * length s.lap + many * length s.lap
  laps_are = let e : w.j ≡ w.i + many = omega (arith, w.repeats.earlier) in omega (arith, ap (λ n. n * length s.lap) e)

  front_within : length word.stem + length s.lap ≤ length w.trace
  front_within = let le = mul-le-mul_right {m = 1} {n = many} (length s.lap) (omega (arith, w.repeats.earlier)) in
      omega (arith, size, laps_are, w.stem_is)

  parts : Parted names c (resets c) w.trace w.repeats.last (word.stem ++ word.lap) (length word.stem)
  parts = parted names c (resets c) w.trace w.repeats.last (word.stem ++ word.lap) (length word.stem) w.repeats.goes_on
      w.are_letters (omega (arith, front_within))

  returns : get_or (latches_along w.trace w.repeats.last) (length word.stem) [] ≡ w.repeats.last
  returns = rw w.stem_is w.repeats.returns

  inputs_are : inputs_of (take (length word.stem) w.trace) ++ inputs_of (drop (length word.stem) w.trace)
      ≡ (s.stem ++ laps s.lap w.i) ++ laps s.lap many
  inputs_are = sym (map-append (λ (m : Moment). m.inputs) (take (length word.stem) w.trace)
      (drop (length word.stem) w.trace))
      ∙ ap inputs_of (take-append-drop (length word.stem) w.trace) ∙ w.repeats.reads
      ∙ ap (λ (ls : List (List Bool)). s.stem ++ ls) (laps_same s.lap w.j
      ∙ ap (laps s.lap) (let e : w.j ≡ w.i + many = omega (arith, w.repeats.earlier) in e)
      ∙ laps_together s.lap w.i many)
      ∙ sym (append_assoc s.stem (laps s.lap w.i) (laps s.lap many))

  front_is : length (inputs_of (take (length word.stem) w.trace)) ≡ length (s.stem ++ laps s.lap w.i)
  front_is = omega (
    arith,
    length-map (take (length word.stem) w.trace) (λ (m : Moment). m.inputs),
    length-take-le (length word.stem) w.trace (omega (arith, front_within)),
    length-append s.stem (laps s.lap w.i),
    length_laps s.lap w.i,
    w.stem_is,
  )

  pub word_on : IsWordOn names c s word.stem word.lap
  word_on =
      let n = length word.stem in
      let halved = halves (inputs_of (take n w.trace)) (inputs_of (drop n w.trace)) (s.stem ++ laps s.lap w.i)
      (laps s.lap many) front_is inputs_are in
      record {
        word = record {
          stem_moments = take n w.trace;
          lap_moments = drop n w.trace;
          trace = record {
            some = omega (arith, length-drop n w.trace, front_within, w.repeats.has_letter);
            back = w.repeats.last;
            goes_there = rw returns at parts.there;
            comes_back = rw returns at parts.on;
          };
          stem_letters = rw (take-append_seam word.stem word.lap) at parts.before;
          lap_letters = rw (drop-append_seam word.stem word.lap) at parts.behind;
        };
        reads = reads_stimulus s (inputs_of (take n w.trace)) (inputs_of (drop n w.trace)) w.i many
            w.repeats.has_letter (omega (arith, w.repeats.earlier)) halved.0 halved.1;
      }

pub trace_on : {names : List (List ℕ)} {c : CircuitData} {s : StimulusData} {stem lap : List ℕ} → 0 < length s.lap →
    (g : GoesOnInLasso c s.stem s.lap) → AreLetters names c g.stem_moments stem →
    AreLetters names c g.lap_moments lap → IsWordOn names c s stem lap
trace_on {s = s} some g stem_letters lap_letters = record {
  word = record {
    stem_moments = g.stem_moments;
    lap_moments = g.lap_moments;
    trace = g.trace;
    stem_letters = stem_letters;
    lap_letters = lap_letters;
  };
  reads = reads_stimulus s (inputs_of g.stem_moments) (inputs_of g.lap_moments) g.before g.laps some g.some
      (g.stem_reads ∙ ap (λ (ls : List (List Bool)). s.stem ++ ls) (laps_same s.lap g.before))
      (g.lap_reads ∙ laps_same s.lap g.laps);
}
