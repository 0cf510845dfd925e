-- A circuit either wins or loses, but not both. A controller's circuit loses if the automaton rejects its trace on some
-- stimulus, and an environment's circuit loses if the automaton accepts it. This trace is a lasso trace, so the circuit
-- does not win.
-- - `verdict_is_wrong`: the verdict on a counterexample is that the circuit's player loses
-- - `apart`: a circuit does not both win and lose
-- - `wins`: a circuit wins if no stimulus is a counterexample
use Rattle.std.proofs.Common.{◌≡◌, ◌∙◌, ℕ, Bool, List, refl, sym, arith}
use Rattle.std.specs.Prelude.{◌↔◌, IsTrue, true, false, Some}
use Rattle.ps_hoa.specs.Files.{FileData}
use Rattle.ps_hoa.specs.Sound.{AreNames}
use Rattle.ps_automaton.specs.Acceptance.{IsAccepted}
use Rattle.ps_automaton.specs.Autos.{Auto, IsAutoOf}
use Rattle.ps_automaton.specs.Chains.{Chain, chain_of}
use Rattle.ps_circuit.specs.Circuits.{CircuitData, IsCircuit}
use Rattle.ps_circuit.specs.Values.{HasOneValues}
use Rattle.ps_machine.specs.declared.key.Order.{Order}
use Rattle.ps_simulate.specs.Lassos.{IsVerdictOf}
use Rattle.ps_simulate.specs.Stimuli.{StimulusData}
use Rattle.ps_simulate.specs.Symbols.{HasSymbols}
use Rattle.ps_simulate.specs.declared.lassos.Verdict.{Verdict}
use Rattle.ps_simulate.specs.declared.role.Role.{Role}
use Rattle.ps_simulate.specs.declared.role.Role.TheVariants.{Controller, Environment}
use Rattle.ps_simulate.proofs.LapsOfRuns.LassoLemmas.{few_letters, length_letters}
use Rattle.ps_traces.specs.Shapes.{IsInTimeWhereReached}
use Rattle.ps_traces.specs.Traces.{AllAccepted, IsLassoWord, NoneAccepted}
use Rattle.ps_traces.proofs.Verdicts.{accepted_or_not}
use Rattle.ps_verify.specs.Judgements.{IsLosing, IsWinning}
use Rattle.ps_verify.proofs.WordsOn.{word_on}
use Rattle.ps_verify.proofs.Worth.{refuted, winning_by}

module _ {order : Order} {role : Role} {file : FileData} {c : CircuitData} {s : StimulusData}
    (loses : IsLosing order role file c s) where
  wins_not : (r : Role) → r ≡ role → IsWinning order role file c → ⊥
  wins_not Controller same wins =
      let accepted = wins.accepted (sym same) loses.word.stem loses.word.lap loses.is_word.word in
      let wrong : Controller ≡ Environment =
      same ∙ (loses.is_wrong loses.word.stem loses.word.lap loses.is_word).0 accepted in
      cc
  wins_not Environment same wins = wins.rejected (sym same) loses.word.stem loses.word.lap loses.is_word.word
      ((loses.is_wrong loses.word.stem loses.word.lap loses.is_word).1 (sym same))

  pub verdict_is_wrong : (verdict : Verdict) → IsVerdictOf file c s.stem s.lap verdict →
      IsTrue verdict.accepted ↔ (role ≡ Environment)
  verdict_is_wrong verdict is =
      let wrong = loses.is_wrong is.word.stem is.word.lap (word_on is.is_word) in
      (λ yes. wrong.0 (is.accepted.0 yes), λ same. is.accepted.1 (wrong.1 same))

pub apart : (order : Order) (role : Role) (file : FileData) (c : CircuitData) (s : StimulusData) →
    IsWinning order role file c → IsLosing order role file c s → ⊥
apart order role file c s wins loses = wins_not loses role refl wins

-- ## A circuit that no stimulus refutes

is_true : (b : Bool) → ((b ≡ true → ⊥) → ⊥) → b ≡ true
is_true true twice = refl
is_true false twice = absurd (twice (λ (e : false ≡ true). cc))

module _ {order : Order} {role : Role} {file : FileData} {c : CircuitData} {chain : Chain} {auto : Auto}
    (is_chain : chain_of file.condition ≡ Some chain) (is_auto : IsAutoOf file chain auto) (is_circuit : IsCircuit c)
    (one : HasOneValues c) (symbols : HasSymbols role file.names file.controllable c)
    (in_time : IsInTimeWhereReached order role c) (none : (s : StimulusData) → IsLosing order role file c s → ⊥) where
  record HasVerdict (stem lap : List ℕ) : Type 0 where
    accepted : Bool
    told : IsTrue accepted ↔ IsAccepted file stem lap
    not_wrong : (IsTrue accepted ↔ (role ≡ Environment)) → ⊥

  verdict_of : (stem lap : List ℕ) → IsLassoWord file.names c stem lap → HasVerdict stem lap
  verdict_of stem lap word =
      let many = length_letters file.names c word.lap_moments lap word.lap_letters in
      let told = accepted_or_not file chain auto is_chain is_auto stem lap (omega (arith, many, word.trace.some))
      (few_letters file.names c word.stem_moments stem word.stem_letters)
      (few_letters file.names c word.lap_moments lap word.lap_letters) in
      record {
        accepted = told.0;
        told = told.1;
        not_wrong = λ wrong. none _ (refuted is_chain is_auto is_circuit one symbols order in_time word
            (λ accepted. wrong.0 (told.1.1 accepted), λ same. told.1.0 (wrong.1 same)));
      }

  all : role ≡ Controller → AllAccepted file c
  all same stem lap word =
      let v = verdict_of stem lap word in
      v.told.0 (is_true v.accepted (λ no. v.not_wrong (λ yes. absurd (no yes), λ other. absurd (grind arith))))

  none_of : role ≡ Environment → NoneAccepted file c
  none_of same stem lap word accepted =
      let v = verdict_of stem lap word in
      v.not_wrong (λ yes. same, λ other. v.told.1 accepted)

  pub wins : AreNames file.names → IsWinning order role file c
  wins are_names = winning_by order role all none_of are_names is_circuit one symbols in_time
