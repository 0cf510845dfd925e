-- A circuit has a trace for each list of input letters, and each lasso has a verdict, by laws of lower crates.
-- - `sim_some`, `lasso_some`: the commands `sim` and `lasso` have a result
use Rattle.std.proofs.Common.{◌≡◌, ◌<◌, ◌⊎◌, ℕ, Bool, true, false, List, [], ◌∷◌, All, length, Result, Ok, Err, refl}
use Rattle.std.proofs.Common.{sym, ap, subst, inl, inr, flat_map, arith}
use Rattle.std.proofs.lemmas.List.{length-map}
use Rattle.ps_automaton.specs.Answers.{IsAdmitted}
use Rattle.ps_circuit.specs.CauseNames as circuit_names
use Rattle.ps_circuit.specs.Causes as circuit
use Rattle.ps_circuit.specs.Circuits.{CircuitData, IsCircuit}
use Rattle.ps_circuit.specs.Texts as circuit_text
use Rattle.ps_circuit.specs.Values.{resets}
use Rattle.ps_hoa.specs.Files.{FileData}
use Rattle.ps_hoa.specs.Sound.{IsSoundFile}
use Rattle.ps_simulate.specs.Faults as stimulus
use Rattle.ps_simulate.specs.LassoFaults.{AreWide}
use Rattle.ps_simulate.specs.Stimuli.{StimulusData}
use Rattle.ps_simulate.specs.StimulusTexts as stimulus_text
use Rattle.ps_simulate.specs.declared.lassos.LassoFault.TheVariants.{EmptyLap, Symbols}
use Rattle.ps_simulate.specs.declared.role.Role.{Role}
use Rattle.ps_traces.proofs.CircuitRuns.{Run, run}
use Rattle.ps_program.specs.Automata.{ReadsAutomaton}
use Rattle.ps_program.specs.Commands.Lassos.{AnswersLasso, RunsCircuit, TellsVerdict, lasso_line, verdict_text}
use Rattle.ps_program.specs.Replies.{line_reply, text_reply}
use Rattle.ps_program.specs.Commands.Simulating.{AnswersSim, PrintsTrace, moment_line}
use Rattle.ps_program.specs.Outcomes.{Then}
use Rattle.ps_program.specs.Texts.{CutsInThree, CutsInTwo, ReadsCircuitText, ReadsSimulated, ReadsStimulusText}
use Rattle.ps_program.proofs.AtMostOne.OneStep.{ok_or}
use Rattle.ps_program.proofs.AtLeastOne.SomeCut.{three_some, two_some}
use Rattle.ps_program.proofs.AtLeastOne.SomeLaws.{Below}
use Rattle.ps_program.proofs.AtLeastOne.SomeStage.{automaton_is, automaton_some}
use Rattle.ps_program.proofs.AtLeastOne.SomeStep.{HasOnly, HasSome, ended_some, reading_some, then_only, then_some}

module _ (below : Below) where
  pub circuit_some : (text : List ℕ) → HasSome (ReadsCircuitText text)
  circuit_some text = reading_some circuit.cause_number circuit_names.cause_name (circuit_text.ReadsCircuit text)
      (below.some_circuit text)

  pub stimulus_some : (width : ℕ) (split : Bool) (text : List ℕ) → HasSome (ReadsStimulusText width split text)
  stimulus_some width split text = reading_some stimulus.cause_number stimulus.cause_name
      (stimulus_text.ReadsStimulus text width split) (below.some_stimulus text width split)

  -- ---- `sim`

  simulated_some : (texts : List ℕ) → HasSome (ReadsSimulated texts)
  simulated_some texts = then_some _ _ (two_some texts) (λ parts cut.
      then_some (ReadsCircuitText parts.0) _ (circuit_some parts.0) (λ c reads.
      then_some (ReadsStimulusText (length c.inputs) false parts.1) _ (stimulus_some (length c.inputs) false parts.1)
      (λ s read. ended_some (Ok (c, s)))))

  -- a circuit, and a stem whose letters have one bit for each input of the circuit
  abbrev IsRunnable : CircuitData × StimulusData → Type 0
  IsRunnable both = IsCircuit both.0 × All (λ letter. length letter ≡ length both.0.inputs) both.1.stem

  -- parses a stimulus for the circuit, and returns the circuit and the stimulus
  abbrev WithStimulus : List ℕ → CircuitData → Result (CircuitData × StimulusData) (List ℕ) → Type 0
  WithStimulus text c = Then (ReadsStimulusText (length c.inputs) false text) (λ s outcome. outcome ≡ Ok (c, s))

  simulated_is : (texts : List ℕ) → HasOnly (ReadsSimulated texts) IsRunnable
  simulated_is texts = then_only (CutsInTwo texts)
      (λ (parts : List ℕ × List ℕ). Then (ReadsCircuitText parts.0) (WithStimulus parts.1)) IsRunnable (λ parts cut.
      then_only (ReadsCircuitText parts.0) (WithStimulus parts.1) IsRunnable (λ c reads.
      then_only (ReadsStimulusText (length c.inputs) false parts.1) (λ s outcome. outcome ≡ Ok (c, s)) IsRunnable
      (λ s read both e. let same : both ≡ (c, s) = ap (ok_or {E = List ℕ} both) e in
      subst IsRunnable (sym same) (below.circuit_sound parts.0 c reads, read.stem_widths))))

  trace_some : (c : CircuitData) → IsCircuit c → (letters : List (List Bool)) →
      All (λ letter. length letter ≡ length c.inputs) letters → (text : List ℕ) × PrintsTrace c letters text
  trace_some c is letters wide =
      let r : Run c (resets c) letters = run c (below.values c is) (resets c) letters (length-map c.latches _) wide in (
        flat_map moment_line r.moments,
        record { moments = r.moments; is_trace = (r.last, r.goes_on); inputs_are = r.reads; text_is = refl },
      )

  pub sim_some : (texts : List ℕ) → HasSome (AnswersSim texts)
  sim_some texts = then_some (ReadsSimulated texts) _ (simulated_some texts) (λ both reads.
      let is = simulated_is texts both reads in
      let (text, prints) = trace_some both.0 is.0 both.1.stem is.1 in
      (Ok (text_reply text), (is.0, (text, prints, refl))))

  -- ---- `lasso`

  module _ (role : Role) where
    pub empty_or_some : (lap : List (List Bool)) → (lap ≡ []) ⊎ (0 < length lap)
    empty_or_some [] = inl refl
    empty_or_some (letter ∷ lap) = inr (omega arith)

    verdict_some : (file : FileData) → IsSoundFile file → IsAdmitted file → (c : CircuitData) → IsCircuit c →
        (s : StimulusData) → AreWide c s.stem s.lap → HasSome (TellsVerdict role file c s)
    verdict_some file is_sound admitted c is s wide = elim (empty_or_some s.lap) [
      | inl empty ↦ (Err (lasso_line EmptyLap), inl (empty, refl))
      | inr letters ↦ elim (below.symbols_or role file.names file.controllable c) [
        | inl has ↦
            let (v, is_verdict) = below.verdict role file c s.stem s.lap is_sound admitted is has wide letters in
            (Ok (line_reply (verdict_text v)), (is, letters, has, (v, is_verdict, refl)))
        | inr other ↦ (Err (lasso_line Symbols), inr (letters, other, refl))
      ]
    ]

    runs_some : (file : FileData) → IsSoundFile file × IsAdmitted file → (text letters : List ℕ) →
        HasSome (RunsCircuit role file text letters)
    runs_some file is text letters = then_some (ReadsCircuitText text) _ (circuit_some text) (λ c reads.
        then_some (ReadsStimulusText (length c.inputs) true letters) _ (stimulus_some (length c.inputs) true letters)
        (λ s read. verdict_some file is.0 is.1 c (below.circuit_sound text c reads) s
        (record { stem_is = read.stem_widths; lap_is = read.lap_widths })))

    pub lasso_some : (texts : List ℕ) → HasSome (AnswersLasso role texts)
    lasso_some texts = then_some (CutsInThree texts) _ (three_some texts)
        (λ parts cut. then_some (ReadsAutomaton parts.0) _ (automaton_some below parts.0)
        (λ file reads. runs_some file (automaton_is below parts.0 file reads) parts.1
        parts.2))
