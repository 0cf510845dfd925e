-- When a circuit reads a lasso of input letters, that is, a stem and then a lap that repeats for ever, its latch values
-- recur.
use Rattle.std.proofs.Common.{◌≡◌, ℕ, zero, suc, ◌^◌, ◌<◌, Bool, List, [], ◌++◌, length, refl, arith, rules}
use Rattle.std.proofs.Math.Nat.{mul-le-mul_right}
use Rattle.std.proofs.lemmas.List.{length-map, map-append}
use Rattle.ps_circuit.specs.Circuits.{CircuitData}
use Rattle.ps_circuit.specs.Values.{Moment, GoesOn, HasOneValues, resets}
use Rattle.ps_simulate.specs.Lassos.{laps_of}
use Rattle.ps_simulate.proofs.LapsOfRuns.CountLemmas.{code, code_lt, code_same}
use Rattle.ps_simulate.proofs.LapsOfRuns.LassoLemmas.{GoesOn-append, length_trace}
use Rattle.ps_traces.specs.Inputs.{GoesOnInLasso, EachInputGoesOn, AreInputs, inputs_of}
use Rattle.ps_traces.proofs.Returns.{come_back, legs}
use Rattle.ps_traces.proofs.CircuitRuns.{Run, run}

module _ (c : CircuitData) (one : HasOneValues c) (stem lap : List (List Bool)) (stem_wide : AreInputs c stem)
    (lap_wide : AreInputs c lap) (some : 0 < length lap) where
  stem_run : Run c (resets c) stem
  stem_run = run c one (resets c) stem (length-map c.latches (λ l. l.reset)) stem_wide

  -- a list of bits with one bit for each latch of the circuit
  record Held : Type 0 where
    bits : List Bool
    held : length bits ≡ length c.latches

  lap_run : (h : Held) → Run c h.bits lap
  lap_run h = run c one h.bits lap h.held lap_wide

  -- the latch values after the circuit read the stem of a lasso, and then its repeated part (the lap) a given number of
  -- times
  abbrev behind : ℕ → Held
  behind zero = record { bits = stem_run.last; held = stem_run.wide }
  behind (suc laps) = record { bits = (lap_run (behind laps)).last; held = (lap_run (behind laps)).wide }

  abbrev latches_at : ℕ → List Bool
  latches_at t = (behind t).bits

  abbrev lap_moments : ℕ → List Moment
  lap_moments t = (lap_run (behind t)).moments

  abbrev laps : ℕ → ℕ → List Moment
  laps from count = legs (GoesOn c) (λ s. refl) (GoesOn-append c) latches_at lap_moments
      (λ t. (lap_run (behind t)).goes_on) from count

  laps_read : (from count : ℕ) → inputs_of (laps from count) ≡ laps_of lap count
  laps_read from zero = refl
  laps_read from (suc count) = search (rules, map-append, lap_run, laps_read from count)

  pub in_lasso : GoesOnInLasso c stem lap
  in_lasso =
      let b = come_back (GoesOn c) (λ s. refl) (GoesOn-append c) latches_at lap_moments (λ t. grind (arith, lap_run))
      (λ t. code (latches_at t)) (2 ^ length c.latches) (λ t. rw (← (behind t).held) (code_lt (latches_at t)))
      (λ i j e. grind (arith, code_same)) in
      let size = length_trace [] lap (laps b.from b.count) b.count (laps_read b.from b.count) in
      let many = mul-le-mul_right {m = 1} {n = b.count} (length lap) (omega (arith, b.some)) in
      record {
        before = b.to;
        laps = b.count;
        some_before = b.some_before;
        some = b.some;
        stem_moments = stem_run.moments ++ laps 0 b.to;
        lap_moments = laps b.from b.count;
        trace = search (rules, GoesOn-append);
        stem_reads = search (rules, map-append, laps_read);
        lap_reads = laps_read b.from b.count;
      }

pub each_goes_on : (c : CircuitData) → HasOneValues c → EachInputGoesOn c
each_goes_on = in_lasso
