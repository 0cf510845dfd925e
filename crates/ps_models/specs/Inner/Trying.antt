-- A circuit that is tried by one formula after another.
-- - `IsTrial t`: the names of the circuit's inputs and outputs are those of its role
-- - `named t f`: the formula, about the propositions of the trial
-- - `IsTrialOf t f judgement`: the judgement is right for the formula
-- - `IsSentenceTrial t s judgement`: all words of the circuit's lasso traces obey the sentence; or no word of those
--   that read the judgement's stimulus does
use Rattle.std.specs.Prelude.{◌<◌, ℕ, List, length, map}
use Rattle.ps_formula.specs.Formulas.{Formula}
use Rattle.ps_hoa.specs.Memory.{bytes_of}
use Rattle.ps_label.specs.Words.{lasso_word}
use Rattle.ps_product.specs.Roles.{AreRoles}
use Rattle.ps_sentences.specs.Sentences.{IsObeyed, SentenceData}
use Rattle.ps_simulate.specs.LassoFaults.{AreWide}
use Rattle.ps_simulate.specs.Stimuli.{StimulusData}
use Rattle.ps_simulate.specs.Symbols.{HasSymbols}
use Rattle.ps_simulate.specs.Words.{TraceWordData}
use Rattle.ps_traces.specs.Traces.{IsLassoWord}
use Rattle.ps_verify.specs.Stimulated.{IsWordOn}
use Rattle.ps_verify.specs.declared.judgement.Judgement.{Judgement}
use Rattle.ps_verify.specs.declared.judgement.Judgement.TheVariants.{Wins, Loses}
use Rattle.ps_models.specs.Judgements.{NamedFormula}
use Rattle.ps_models.specs.Verdicts.{IsVerdictOn}
use Rattle.ps_models.specs.declared.trial.Trial.{Trial}

abbrev pub names_in : Trial → List (List ℕ)
names_in t = map bytes_of t.names.now

pub record IsTrial (t : Trial) : Type 0 where
  pub symbols : HasSymbols t.role (names_in t) t.controllable.now t.circuit.now
  pub roles : AreRoles (names_in t) t.circuit.now t.roles.now

abbrev pub named : Trial → Formula → NamedFormula
named t f = record { names = names_in t; controllable = t.controllable.now; formula = f }

abbrev pub IsTrialOf : Trial → Formula → Judgement → Type 0
IsTrialOf t f judgement = IsVerdictOn t.role (named t f) t.circuit.now judgement

-- some lasso trace reads the stimulus, and no word of such a trace obeys the sentence
pub record IsBroken (t : Trial) (s : SentenceData) (stimulus : StimulusData) : Type 0 where
  pub wide : AreWide t.circuit.now stimulus.stem stimulus.lap
  pub some : 0 < length stimulus.lap
  pub word : TraceWordData
  pub is_word : IsWordOn (names_in t) t.circuit.now stimulus word.stem word.lap
  pub broken : (stem lap : List ℕ) → IsWordOn (names_in t) t.circuit.now stimulus stem lap →
      ¬ IsObeyed (lasso_word stem lap) 0 s

pub record IsObeyedByAll (t : Trial) (s : SentenceData) : Type 0 where
  pub each : (stem lap : List ℕ) → IsLassoWord (names_in t) t.circuit.now stem lap →
      IsObeyed (lasso_word stem lap) 0 s

abbrev pub IsSentenceTrial : Trial → SentenceData → Judgement → Type 0
IsSentenceTrial t s Wins = IsObeyedByAll t s
IsSentenceTrial t s (Loses stimulus) = IsBroken t s stimulus
