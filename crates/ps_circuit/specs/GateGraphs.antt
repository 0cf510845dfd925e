-- Gates as a graph: each gate has up to two edges, which lead to the gates whose literals it reads.
-- - `gate_variables gates`: the variables that the gates define
-- - `gate_graph links`: the graph whose edges lead from each gate to those in its `Links`
-- - `AreLinksOf gates links`: the `Links` of each gate have exactly the indices of the gates whose literals it reads
use Rattle.std.specs.Prelude.{◌≡◌, ℕ, List, length, map, slice_get, Option, Some, None, zero, suc}
use Rattle.ps_components.specs.Graphs.{Digraph, Link}
use Rattle.ps_circuit.specs.declared.links.Links.{Links}
use Rattle.ps_circuit.specs.declared.parts.Gate.{Gate}
use Rattle.ps_circuit.specs.Circuits.{ReadsGate}
use Rattle.ps_circuit.specs.Literals.{variable}

abbrev pub gate_variables : List Gate → List ℕ
gate_variables gates = map (λ g. variable g.literal) gates

abbrev pub side_of : Links → ℕ → Option ℕ
side_of sides zero = sides.first
side_of sides (suc place) = sides.second

abbrev pub target_of : Option Links → ℕ → Option ℕ
target_of None place = None
target_of (Some sides) place = side_of sides place

abbrev pub gate_graph : List Links → Digraph
gate_graph links =
    record { count = length links; degree = λ _. 2; target = λ i place. target_of (slice_get links i) place }

pub record AreLinksOf (gates : List Gate) (links : List Links) : Type 0 where
  pub each : length links ≡ length gates
  pub link_reads : (i j : ℕ) → Link (gate_graph links) i j → ReadsGate gates i j
  pub reads_link : (i j : ℕ) → ReadsGate gates i j → Link (gate_graph links) i j
