-- What a fair cycle of the stored product, or its absence, says about the circuit.
use Rattle.std.proofs.Common.{◌≡◌, ℕ, ◌<◌, List, [], ◌∷◌, All, length, get_or, map, refl, sym}
use Rattle.std.proofs.Common.{subst}
use Rattle.std.proofs.Common.{◌∙◌, arith, suc, zero}
use Rattle.ps_fairness.specs.Marks.{IsFairCycle, Leads}
use Rattle.ps_fairness.specs.declared.edge.Edge.{Edge}
use Rattle.ps_circuit.specs.Circuits.{CircuitData}
use Rattle.ps_machine.specs.declared.key.Order.{Order}
use Rattle.ps_simulate.specs.declared.role.Role.{Role}
use Rattle.ps_traces.specs.Inputs.{inputs_of}
use Rattle.ps_verify.specs.declared.judgement.Judgement.{Judgement}
use Rattle.ps_verify.specs.declared.judgement.Judgement.TheVariants.{Wins, Loses}
use Rattle.ps_tableau_product.specs.Graphs.{GraphData, IsModelGraph, graph_of, inputs_along, marks_of}
use Rattle.ps_tableau_product.specs.Readings.{IsSlotOf}
use Rattle.ps_tableau_product.specs.ProductGraphs.{ProductGraph, edges_in}
use Rattle.ps_tableau_product.specs.Products.{edge_moments, opposed, stimulus_of}
use Rattle.ps_models.specs.Inner.Judging.{IsTold}
use Rattle.ps_models.specs.Judgements.{IsJudgementFor, IsLosingFor, IsWinningFor, NamedFormula}

-- ## Judgements

module _ (f : NamedFormula) (role : Role) {c : CircuitData} {g : GraphData}
    (m : IsModelGraph f.names c (opposed role f.formula) g) where
  abbrev pub product_of : ProductGraph
  product_of = record { graph = graph_of g; marks = marks_of g; vertex = m.vertex; edge = m.edge }

  read_walk : (v w : ℕ) (es : List Edge) → Leads (graph_of g) es v w →
      inputs_of (edge_moments (edges_in product_of es)) ≡ map (inputs_along g) es
  read_walk v w [] leads = refl
  read_walk v w (e ∷ es) (at, rest) =
      let here = m.reads e rest.0 rest.1 in
      let later = read_walk rest.0 w es rest.2 in
      λ i. here i ∷ later i

  pub judgement_of : (order : Order) →
      (((walk : List Edge) → IsFairCycle (graph_of g) (marks_of g) walk → ⊥) → IsWinningFor order role f c) →
      ((stem lap : List Edge) → (cycle : IsFairCycle (graph_of g) (marks_of g) lap) →
      Leads (graph_of g) stem 0 cycle.start →
      IsLosingFor order role f c (stimulus_of (edges_in product_of stem) (edges_in product_of lap))) →
      (judgement : Judgement) → IsTold g judgement → IsJudgementFor order role f c judgement
  judgement_of order wins loses Wins told = wins told
  judgement_of order wins loses (Loses s) told =
      let stem_same = read_walk 0 told.cycle.start told.stem told.leads ∙ sym told.stem_is in
      let lap_same = read_walk told.cycle.start told.cycle.start told.lap told.cycle.returns ∙ sym told.lap_is in
      let same : stimulus_of (edges_in product_of told.stem) (edges_in product_of told.lap) ≡ s =
      λ i. record { stem = stem_same i; lap = lap_same i } in
      subst (IsLosingFor order role f c) same (loses told.stem told.lap told.cycle told.leads)

-- ## Walks of the stored graph

pub slots_of : {g : GraphData} (v w : ℕ) (es : List Edge) → Leads (graph_of g) es v w → All (IsSlotOf g) es
slots_of v w [] leads i d lt = absurd (omega (arith, lt))
slots_of v w (e ∷ es) (at, rest) zero d lt = record { vertex = rest.1.from; slot = rest.1.at }
slots_of v w (e ∷ es) (at, rest) (suc i) d lt = slots_of rest.0 w es rest.2 i d (omega (arith, lt))

-- the first edge of a walk
pub first_of_walk : (g : GraphData) (v w : ℕ) (es : List Edge) (d : Edge) → 0 < length es →
    Leads (graph_of g) es v w → ((get_or es 0 d).vertex ≡ v) × ((get_or es 0 d).vertex < length g.rows)
first_of_walk g v w [] d some leads = absurd (omega (arith, some))
first_of_walk g v w (e ∷ es) d some (at, rest) = (at, rest.1.from)
