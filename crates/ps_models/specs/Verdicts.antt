-- What a formula tells of the words of a circuit's lasso traces, names and timing apart.
-- - `IsRightOn role f c`: the words of a controller's circuit satisfy the formula, or none of an environment's does
-- - `IsRefutedOn role f c s`: on the stimulus s, the words of a controller's circuit violate the formula, or those of
--   an environment's satisfy it
-- - `IsVerdictOn role f c judgement`: the judgement is right: the first, or the second with the judgement's stimulus
use Rattle.std.specs.Prelude.{◌≡◌, ◌<◌, ◌↔◌, ℕ, List, length}
use Rattle.ps_circuit.specs.Circuits.{CircuitData}
use Rattle.ps_simulate.specs.LassoFaults.{AreWide}
use Rattle.ps_simulate.specs.Stimuli.{StimulusData}
use Rattle.ps_simulate.specs.Words.{TraceWordData}
use Rattle.ps_simulate.specs.declared.role.Role.{Role}
use Rattle.ps_simulate.specs.declared.role.Role.TheVariants.{Controller, Environment}
use Rattle.ps_verify.specs.Stimulated.{IsWordOn}
use Rattle.ps_verify.specs.declared.judgement.Judgement.{Judgement}
use Rattle.ps_verify.specs.declared.judgement.Judgement.TheVariants.{Wins, Loses}
use Rattle.ps_models.specs.Judgements.{AllSatisfied, IsSatisfied, NamedFormula, NoneSatisfied}

pub record IsRightOn (role : Role) (f : NamedFormula) (c : CircuitData) : Type 0 where
  pub satisfied : role ≡ Controller → AllSatisfied f c
  pub violated : role ≡ Environment → NoneSatisfied f c

-- the fields are those of `IsLosingFor`, but for symbols and timing
pub record IsRefutedOn (role : Role) (f : NamedFormula) (c : CircuitData) (s : StimulusData) : Type 0 where
  pub wide : AreWide c s.stem s.lap
  pub some : 0 < length s.lap
  pub word : TraceWordData
  pub is_word : IsWordOn f.names c s word.stem word.lap
  pub is_wrong : (stem lap : List ℕ) → IsWordOn f.names c s stem lap →
      IsSatisfied f stem lap ↔ (role ≡ Environment)

abbrev pub IsVerdictOn : Role → NamedFormula → CircuitData → Judgement → Type 0
IsVerdictOn role f c Wins = IsRightOn role f c
IsVerdictOn role f c (Loses stimulus) = IsRefutedOn role f c stimulus
