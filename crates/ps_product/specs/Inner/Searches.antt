-- What the search for the product's vertices finds: all of them, or a way to the sink.
use Rattle.std.specs.Prelude.{◌≡◌, ℕ, ◌<◌, All, Bool, List, Some, Vec, length, slice_get, true}
use Rattle.std.specs.Global.{Global}
use Rattle.ps_simulate.specs.Stimuli.{letters_of}
use Rattle.ps_automaton.specs.Automata.{auto_of}
use Rattle.ps_product.specs.Inner.Exploring.{AreLeads, DraftData, IsExplored, Setting}
use Rattle.ps_product.specs.Products.{ProductVertex, first_vertex}
use Rattle.ps_product.specs.Stems.{LeadsAlong, LeadsToSink}
use Rattle.ps_product.specs.declared.exploring.Explored.{Explored}
use Rattle.ps_product.specs.declared.exploring.Explored.TheVariants.{Whole, Sink}

-- the way to each vertex was noted as it was found, from the first vertex on
pub record AreNoted (s : Setting) (d : DraftData) : Type 0 where
  pub first : slice_get d.vertices 0 ≡ Some (first_vertex s.circuit (auto_of s.automaton))
  pub noted : AreLeads s d.vertices d.leads
  pub named : All (λ p. p < 64) s.inputs

-- the vertex with this number is one whose state is the sink
abbrev pub IsAtSink : Setting → List ProductVertex → ℕ → Type 0
IsAtSink s vertices i = (v : ProductVertex) × (slice_get vertices i ≡ Some v) × (v.state ≡ s.automaton.states)

-- on the way from the first vertex to the vertex i, the circuit reads the stem
abbrev pub IsStemTo : Setting → List ProductVertex → ℕ → List (List Bool) → Type 0
IsStemTo s vertices i stem = (v : ProductVertex) → slice_get vertices i ≡ Some v →
    LeadsAlong s.automaton.names (auto_of s.automaton) s.circuit (first_vertex s.circuit (auto_of s.automaton)) stem v

-- the stem leads to the sink, at which the search may stop
abbrev pub IsLostStem : Setting → (stops : Bool) → Vec (Vec Bool Global) Global → Type 0
IsLostStem s stops stem = (stops ≡ true) × LeadsToSink s.automaton s.circuit (letters_of stem.items)

abbrev pub IsFound : Setting → (stops : Bool) → Explored → Type 0
IsFound s stops (Whole draft) = IsExplored s draft (length draft.vertices)
IsFound s stops (Sink stem) = IsLostStem s stops stem
