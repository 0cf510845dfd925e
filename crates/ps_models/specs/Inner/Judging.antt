-- What the search for a fair cycle of the stored product tells.
use Rattle.std.specs.Prelude.{◌≡◌, List, map}
use Rattle.ps_fairness.specs.Marks.{IsFairCycle, Leads}
use Rattle.ps_fairness.specs.declared.edge.Edge.{Edge}
use Rattle.ps_simulate.specs.Stimuli.{StimulusData}
use Rattle.ps_verify.specs.declared.judgement.Judgement.{Judgement}
use Rattle.ps_verify.specs.declared.judgement.Judgement.TheVariants.{Wins, Loses}
use Rattle.ps_tableau_product.specs.Graphs.{GraphData, graph_of, inputs_along, marks_of}

-- the stimulus is what the circuit reads on a way from the first vertex to a fair cycle, and along the cycle
pub record IsRefutation (g : GraphData) (s : StimulusData) : Type 0 where
  pub stem : List Edge
  pub lap : List Edge
  pub cycle : IsFairCycle (graph_of g) (marks_of g) lap
  pub leads : Leads (graph_of g) stem 0 cycle.start
  pub stem_is : s.stem ≡ map (inputs_along g) stem
  pub lap_is : s.lap ≡ map (inputs_along g) lap

abbrev pub IsTold : GraphData → Judgement → Type 0
IsTold g Wins = (walk : List Edge) → ¬ IsFairCycle (graph_of g) (marks_of g) walk
IsTold g (Loses stimulus) = IsRefutation g stimulus
