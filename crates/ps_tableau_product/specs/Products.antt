-- The product of a circuit and the tableau of a formula. Each walk from the start of the product is a trace of the
-- circuit, together with a run of the tableau along the trace's letters.
-- - `ModelVertex`: the latches, and a state of the tableau
-- - `ModelEdge`: a step of the circuit with its letter, and a state of the tableau with a cover
-- - `IsCoveredStep names c t e latches`: the circuit steps to the latches, with a letter for which e's cover serves
-- - `IsModelEdge names c t e w`: e is an edge of the product, and leads to the vertex w
-- - `IsModelWalk names c t v edges w`: the edges lead from v to w, each to the vertex at which the next one begins
-- - `IsFairLasso names c t start stem lap`: the stem leads from the start to a vertex, and the lap leads from there
-- back
--   to this vertex; each until of the tableau is not postponed by one of the lap's edges
use Rattle.std.specs.Prelude.{◌≡◌, ◌<◌, ◌↔◌, ℕ, Bool, List, [], ◌∷◌, Contains, IsTrue, length, map}
use Rattle.ps_formula.specs.Formulas.{Formula, not_of}
use Rattle.ps_formula.specs.NormalForms.{NormalFormula}
use Rattle.ps_formula.specs.Satisfaction.{IsDecidedWord, Satisfies}
use Rattle.ps_tableau.specs.Covers.{Cover, SatisfiesAll}
use Rattle.ps_tableau.specs.Runs.{IsPartialTableau, Tableau}
use Rattle.ps_circuit.specs.Circuits.{CircuitData}
use Rattle.ps_circuit.specs.Values.{Moment, Steps, resets}
use Rattle.ps_simulate.specs.Lassos.{IsLetterOf}
use Rattle.ps_simulate.specs.Stimuli.{StimulusData}
use Rattle.ps_simulate.specs.declared.role.Role.{Role}
use Rattle.ps_simulate.specs.declared.role.Role.TheVariants.{Controller, Environment}
use Rattle.ps_traces.specs.Inputs.{inputs_of}

-- ## The tableau

-- the formula that a counterexample satisfies: for a controller the negation, for an environment the formula itself
abbrev pub opposed : Role → Formula → Formula
opposed Controller f = not_of f
opposed Environment f = f

-- the obligations of a state of the tableau hold where a formula does, along each word along which formulas are true or
-- false; a cover's next obligations need not be those of a state
pub record IsTableauFor (t : Tableau) (state : ℕ) (f : Formula) : Type 0 where
  pub tableau : IsPartialTableau t
  pub within : state < t.count
  pub same : (w : ℕ → ℕ) (i : ℕ) → IsDecidedWord w → (SatisfiesAll (t.obligations state) w i) ↔ (Satisfies f w i)

-- ## Vertices and edges

pub record ModelVertex : Type 0 where
  pub latches : List Bool
  pub state : ℕ

abbrev pub start_vertex : CircuitData → ℕ → ModelVertex
start_vertex c state = record { latches = resets c; state = state }

pub record ModelEdge : Type 0 where
  pub moment : Moment
  pub letter : ℕ
  pub state : ℕ
  pub cover : Cover

-- the vertex at which an edge begins
abbrev pub begins_at : ModelEdge → ModelVertex
begins_at e = record { latches = e.moment.latches; state = e.state }

-- the circuit steps to the latches; the cover is one of the state's, and serves for the letter of the step
pub record IsCoveredStep (names : List (List ℕ)) (c : CircuitData) (t : Tableau) (e : ModelEdge)
    (latches : List Bool) : Type 0 where
  pub steps : Steps c e.moment.latches e.moment.inputs e.moment.outputs latches
  pub is_letter : IsLetterOf names c e.moment e.letter
  pub from : e.state < t.count
  pub cover : Contains (t.covers e.state) e.cover
  pub serves : IsTrue (e.cover.guard e.letter)

-- a step to the latches of w, with a cover whose next obligations are those of the state of w
pub record IsModelEdge (names : List (List ℕ)) (c : CircuitData) (t : Tableau) (e : ModelEdge) (w : ModelVertex) :
    Type 0 where
  pub step : IsCoveredStep names c t e w.latches
  pub to : w.state < t.count
  pub next : t.obligations w.state ≡ e.cover.next

-- ## Walks

abbrev pub IsModelWalk : List (List ℕ) → CircuitData → Tableau → ModelVertex → List ModelEdge → ModelVertex → Type 0
IsModelWalk names c t v [] w = v ≡ w
IsModelWalk names c t v (e ∷ es) w =
    (u : ModelVertex) × (begins_at e ≡ v) × IsModelEdge names c t e u × IsModelWalk names c t u es w

-- an edge bears the mark of each until that it does not postpone; one of the edges bears the mark of an until
abbrev pub BearsMark : List ModelEdge → NormalFormula → Type 0
BearsMark edges until = (e : ModelEdge) × Contains edges e × ¬ Contains e.cover.postponed until

pub record IsFairLasso (names : List (List ℕ)) (c : CircuitData) (t : Tableau) (start : ModelVertex)
    (stem lap : List ModelEdge) : Type 0 where
  pub some : 0 < length lap
  pub back : ModelVertex
  pub goes_there : IsModelWalk names c t start stem back
  pub comes_back : IsModelWalk names c t back lap back
  pub each : (until : NormalFormula) → Contains t.untils until → BearsMark lap until

pub record HasFairLasso (names : List (List ℕ)) (c : CircuitData) (t : Tableau) (start : ModelVertex) : Type 0 where
  pub stem : List ModelEdge
  pub lap : List ModelEdge
  pub is_lasso : IsFairLasso names c t start stem lap

-- ## What a walk reads

abbrev pub edge_moments : List ModelEdge → List Moment
edge_moments edges = map (λ e. e.moment) edges

abbrev pub edge_letters : List ModelEdge → List ℕ
edge_letters edges = map (λ e. e.letter) edges

-- the inputs that the circuit reads along a stem and a lap
abbrev pub stimulus_of : (stem lap : List ModelEdge) → StimulusData
stimulus_of stem lap = record { stem = inputs_of (edge_moments stem); lap = inputs_of (edge_moments lap) }
