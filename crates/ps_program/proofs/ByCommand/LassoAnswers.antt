-- The results of parsing the circuit and the stimulus determine the possible results of `lasso`, with and without
-- `--tlsf`; and the verdict of `lasso`.
use Rattle.std.proofs.Common.{arith, ◌≡◌, ◌<◌, ℕ, Bool, true, List, length, Result, Ok, Err, refl, inl, inr, subst}
use Rattle.ps_circuit.specs.Circuits.{CircuitData, IsCircuit}
use Rattle.ps_automaton.specs.Automata.{AutomatonData, IsBuiltFrom}
use Rattle.ps_automaton.specs.Chains.{Chain}
use Rattle.ps_hoa.specs.Files.{FileData}
use Rattle.ps_simulate.specs.LassoFaults.{HasNoLassoFault}
use Rattle.ps_simulate.specs.Lassos.{IsVerdictOf}
use Rattle.ps_simulate.specs.Stimuli.{StimulusData}
use Rattle.ps_simulate.specs.Symbols.{HasSymbols}
use Rattle.ps_simulate.specs.declared.lassos.Verdict.{Verdict}
use Rattle.ps_simulate.specs.declared.role.Role.{Role}
use Rattle.ps_program.specs.declared.answer.Answer.{Answer}
use Rattle.ps_program.specs.declared.answer.Refusal.{Refusal}
use Rattle.ps_program.specs.declared.answer.Refusal.TheVariants as refusal
use Rattle.ps_program.specs.Faults.{fault_text}
use Rattle.ps_program.specs.Commands.Lassos.{RunsOnLasso, TellsVerdict, verdict_text}
use Rattle.ps_program.specs.Outcomes.{Gives}
use Rattle.ps_program.specs.Replies.{Reply, line_reply, reply_of}
use Rattle.ps_program.specs.Texts.{ReadsCircuitText, ReadsStimulusText}

-- the circuit's text is correct, and `width` is the number of the circuit's inputs
module _ (step : CircuitData → StimulusData → Result Reply (List ℕ) → Type 0) (text letters : List ℕ) (c : CircuitData)
    (is_circuit : ReadsCircuitText text (Ok c)) (width : ℕ) (is_width : width ≡ length c.inputs) where
  -- a fault in the stimulus is the fault that is reported
  pub run_stimulus_fault : (fault : Refusal) → Gives {X = StimulusData} (λ stimulus. stimulus)
      (ReadsStimulusText width true letters) (Err fault) → Gives {X = Answer} reply_of
      (RunsOnLasso step text letters) (Err fault)
  run_stimulus_fault (refusal.Fault fault) h =
      let same = subst (λ (n : ℕ). ReadsStimulusText n true letters (Err (fault_text fault))) is_width h in
      inr (c, is_circuit, inl (fault_text fault, same, refl))
  run_stimulus_fault refusal.OutOfMemory h = tt

  -- if the stimulus is correct too, the result is that of the circuit's run, or a fault instead
  pub run_told : (s : StimulusData) → ReadsStimulusText width true letters (Ok s) →
      (outcome : Result Answer Refusal) → Gives reply_of (step c s) outcome →
      Gives reply_of (RunsOnLasso step text letters) outcome
  run_told s is_stimulus (Ok answer) h =
      let same = subst (λ (n : ℕ). ReadsStimulusText n true letters (Ok s)) is_width is_stimulus in
      inr (c, is_circuit, inr (s, same, h))
  run_told s is_stimulus (Err (refusal.Fault fault)) h =
      let same = subst (λ (n : ℕ). ReadsStimulusText n true letters (Ok s)) is_width is_stimulus in
      inr (c, is_circuit, inr (s, same, h))
  run_told s is_stimulus (Err refusal.OutOfMemory) h = tt

-- ---- the verdict

module _ (role : Role) (file : FileData) (chain : Chain) (a : AutomatonData) (c : CircuitData) (s : StimulusData)
    (stem lap : List (List Bool)) (built : IsBuiltFrom file chain a) (same_stem : stem ≡ s.stem)
    (same_lap : lap ≡ s.lap) where
  symbols_of_file : HasSymbols role a.names a.controllable c → HasSymbols role file.names file.controllable c
  symbols_of_file has = grind arith

  some_of_lap : 0 < length lap → 0 < length s.lap
  some_of_lap some = subst (λ (ls : List (List Bool)). 0 < length ls) same_lap some

  pub tells : (verdict : Verdict) (reply : Reply) → IsCircuit c → HasNoLassoFault role a c stem lap →
      IsVerdictOf file c stem lap verdict → reply ≡ line_reply (verdict_text verdict) →
      TellsVerdict role file c s (Ok reply)
  tells verdict reply is_circuit sound is_verdict is = grind (arith, some_of_lap, symbols_of_file)
