-- Ways from the first vertex of the product into the automaton's sink.
-- - `LeadsAlong names auto c v inputs w`: steps in which the circuit reads the given inputs lead from v to w
-- - `LeadsToSink a c stem`: if the circuit reads the stem, the automaton comes to its sink, which no letter leaves
-- - `IsBuilt role a c built`: the product of a and c was built, or a stem was found that leads a controller to the sink
use Rattle.std.specs.Prelude.{◌≡◌, ℕ, Bool, List, [], ◌∷◌, map}
use Rattle.ps_automaton.specs.Automata.{AutomatonData, auto_of}
use Rattle.ps_automaton.specs.Autos.{Auto}
use Rattle.ps_circuit.specs.Circuits.{CircuitData}
use Rattle.ps_game.specs.Plays.{other_player}
use Rattle.ps_simulate.specs.Stimuli.{letters_of}
use Rattle.ps_simulate.specs.declared.role.Role.{Role}
use Rattle.ps_simulate.specs.declared.role.Role.TheVariants.{Controller}
use Rattle.ps_product.specs.ProductFaults.{asked_of}
use Rattle.ps_product.specs.Products.{IsProductOf, LeadsReading, ProductVertex, first_vertex}
use Rattle.ps_product.specs.declared.product.Built.{Built}
use Rattle.ps_product.specs.declared.product.Built.TheVariants.{Whole, Sink}

abbrev pub LeadsAlong : List (List ℕ) → Auto → CircuitData → ProductVertex → List (List Bool) → ProductVertex → Type 0
LeadsAlong names auto c v [] w = v ≡ w
LeadsAlong names auto c v (inputs ∷ more) w =
    (u : ProductVertex) × LeadsReading names auto c v inputs u × LeadsAlong names auto c u more w

pub record LeadsToSink (a : AutomatonData) (c : CircuitData) (stem : List (List Bool)) : Type 0 where
  pub last : ProductVertex
  pub leads : LeadsAlong a.names (auto_of a) c (first_vertex c (auto_of a)) stem last
  pub is_sink : last.state ≡ a.states

abbrev pub IsBuilt : Role → AutomatonData → CircuitData → Built → Type 0
IsBuilt role a c (Whole product) = IsProductOf (other_player (asked_of role)) a.names (auto_of a) c product
IsBuilt role a c (Sink stem) = (role ≡ Controller) × LeadsToSink a c (letters_of stem.items)
