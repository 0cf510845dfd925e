-- The value of type `Links` that is stored for a gate has exactly the indices of the gates whose literals the gate
-- reads.
use Rattle.std.proofs.Common.{◌≡◌, ◌≢◌, ℕ, ◌+◌, ◌<◌, IfSome, List, [], ◌∷◌, ◌++◌, map, length, get_or, refl, sym, ap}
use Rattle.std.proofs.Common.{ap₂, subst, ◌∙◌, arith, nat_eq, Some, None, Option, slice_get, suc, rules, AllPairs}
use Rattle.std.proofs.Common.{Contains, take, length-append, All}
use Rattle.std.specs.List.{flat_map}
use Rattle.std.proofs.lemmas.List.Concat.{flat_map-cons}
use Rattle.std.proofs.lemmas.List.Elements.{All-append}
use Rattle.std.proofs.lemmas.Option.{slice_get_within, slice_get-map, slice_get-get_or, get_or_from_slice_get}
use Rattle.std.proofs.lemmas.List.{length-map, get_or-map, get_or-append-add, map-append, take_more}
use Rattle.std.proofs.lemmas.List.Quantifiers.{position-Some}
use Rattle.std.proofs.lemmas.Bool.{eqb-true}
use Rattle.ps_circuit.specs.declared.links.Links.{Links}
use Rattle.ps_circuit.specs.declared.parts.Gate.{Gate}
use Rattle.ps_components.specs.Graphs.{Way, Link, LinksStayWithin}
use Rattle.ps_components.specs.Orders.{IsOrder, IsFirstOnCycle}
use Rattle.ps_circuit.specs.Circuits.{CircuitData, definitions, ReadsGate}
use Rattle.ps_circuit.specs.Literals.{variable}
use Rattle.ps_circuit.specs.Drafts.{links_by, place_in}
use Rattle.ps_ids.specs.Ids.{AreDistinct}
use Rattle.ps_ids.proofs.IdPlaces.{position_here}
use Rattle.ps_ids.proofs.Members.{absent_before}
use Rattle.ps_circuit.specs.GateGraphs.{side_of, target_of, gate_graph, gate_variables, AreLinksOf}
use Rattle.ps_components.proofs.Ways.{Way-map}

no_gate : Gate
no_gate = record { literal = 0; first = 0; second = 0 }

-- `place_of` maps the variable of each gate to the gate's index, and every other variable to `None`
pub record ArePlaces (gates : List Gate) (place_of : ℕ → Option ℕ) : Type 0 where
  pub back : (v k : ℕ) → place_of v ≡ Some k → (g : Gate) × (slice_get gates k ≡ Some g) × (variable g.literal ≡ v)
  pub forth : (k : ℕ) (g : Gate) → slice_get gates k ≡ Some g → place_of (variable g.literal) ≡ Some k

-- in this module, the gates of a list have distinct variables
module _ (gates : List Gate) (once : AllPairs (λ g h. variable g.literal ≢ variable h.literal) gates) where
  many : length (gate_variables gates) ≡ length gates
  many = length-map gates (λ g. variable g.literal)

  variable_at : (k d : ℕ) (g : Gate) → k < length gates → get_or (gate_variables gates) k d ≡ variable
      (get_or gates k g).literal
  variable_at k d g l = get_or-map (λ h. variable h.literal) gates k g d l

  apart : AreDistinct (gate_variables gates)
  apart i j d less l e =
      let below : j < length gates = omega (arith, many) in
      once i j no_gate less below (sym (variable_at i d no_gate (omega arith)) ∙ e ∙ variable_at j d no_gate below)

  pub variable_fresh : (k : ℕ) (g : Gate) → k < length gates →
      Contains (take k (gate_variables gates)) (variable (get_or gates k g).literal) → ⊥
  variable_fresh k g l = subst (λ v. Contains (take k (gate_variables gates)) v → ⊥) (variable_at k 0 g l)
      (absent_before (gate_variables gates) k apart (omega (arith, many)))

  pub variables_more : (k : ℕ) (g : Gate) → k < length gates →
      take (k + 1) (gate_variables gates) ≡ take k (gate_variables gates) ++ variable (get_or gates k g).literal ∷ []
  variables_more k g l = grind (arith, take_more (gate_variables gates) k 0 (omega (arith, many)), variable_at k 0 g l)

  pub are_places : ArePlaces gates (place_in (gate_variables gates))
  are_places = record {
    back = λ v k e.
        let at = position-Some (λ other. nat_eq v other) (gate_variables gates) k 0 e in
        let within : k < length gates = omega (arith, many, at.0) in
        grind (arith, slice_get-get_or gates k no_gate within, variable_at k 0 no_gate within, eqb-true v _ at.1);
    forth = λ k g at.
        let within : k < length gates = slice_get_within gates k g at in
        position_here (gate_variables gates) (variable g.literal) k apart (omega (arith, many))
        (search (rules, variable_at, no_gate, get_or_from_slice_get));
  }

length-links_by : (place_of : ℕ → Option ℕ) (gates : List Gate) → length (links_by place_of gates) ≡ length gates
length-links_by place_of [] = refl
length-links_by place_of (g ∷ gates) = ap suc (length-links_by place_of gates)

-- the `Links` of a gate are computed with a function `place_of`: if `place_of` gives the index of each gate's variable,
-- the `Links` have exactly the indices of the gates that the gate reads
links-by_places : {gates : List Gate} {place_of : ℕ → Option ℕ} {links : List Links} → ArePlaces gates place_of →
    links ≡ links_by place_of gates → AreLinksOf gates links
links-by_places {gates} {place_of} a e = search (rules, length-links_by, slice_get-map, slice_get_within)

abbrev sides : Option ℕ → Option ℕ → Links
sides first second = record { first = first; second = second }

-- The `Links` of a gate are the indices of the gates that it reads. If the `Links` of gate k are appended to those of
-- the first k gates, the list has the `Links` of the first k + 1 gates.
pub links_by-more : (variables : List ℕ) (gates : List Gate) (k : ℕ) (g : Gate) {links more : List Links}
    {first second : Option ℕ} → k < length gates →
    links ≡ links_by (place_in variables) (take k gates) → more ≡ links ++
    record { first = first; second = second } ∷ [] →
    first ≡ place_in variables (variable (get_or gates k g).first) →
    second ≡ place_in variables (variable (get_or gates k g).second) →
    more ≡ links_by (place_in variables) (take (k + 1) gates)
links_by-more variables gates k g l before e at_first at_second =
    e ∙ ap₂ (λ (ls : List Links) (made : Links). ls ++ made ∷ []) before (ap₂ sides at_first at_second)
    ∙ sym (ap (links_by (place_in variables)) (take_more gates k g l)
    ∙ map-append (λ h. sides (place_in variables (variable h.first)) (place_in variables (variable h.second)))
    (take k gates) (get_or gates k g ∷ []))

-- the `Links` that are computed for a gate from the list of all gates' variables have exactly the indices of the gates
-- that the gate reads
pub links-by_variables : {gates : List Gate} {variables : List ℕ} {links : List Links} →
    AllPairs (λ g h. variable g.literal ≢ variable h.literal) gates →
    variables ≡ gate_variables gates → links ≡ links_by (place_in variables) gates → AreLinksOf gates links
links-by_variables {gates} once are e = links-by_places (are_places gates once) (grind arith)

module _ (gates : List Gate) (links : List Links) (a : AreLinksOf gates links) where
  pub links_within : LinksStayWithin (gate_graph links)
  links_within i j l = omega (arith, a.each, slice_get_within gates j _ (a.link_reads i j l).at_j)

  pub order-of_links : {order : List ℕ} → IsOrder (Link (gate_graph links)) (length links) order →
      IsOrder (ReadsGate gates) (length gates) order
  order-of_links o = record {
    within = λ k i h. omega (arith, o.within k i h, a.each);
    once = o.once;
    each = λ i lt. o.each i (omega (arith, a.each));
    behind = λ k l i j hk hl r. o.behind k l i j hk hl (a.reads_link i j r);
  }

  pub acyclic-of_links : ((i : ℕ) → Way (Link (gate_graph links)) i i → ⊥) → (i : ℕ) → Way (ReadsGate gates) i i → ⊥
  acyclic-of_links none i w = none i (Way-map a.reads_link w)

  pub cyclic-of_links : {i : ℕ} → IsFirstOnCycle (Link (gate_graph links)) i → IsFirstOnCycle (ReadsGate gates) i
  cyclic-of_links c = search (rules, Way-map, c.cyclic, c.first)

two_hold : (P : ℕ → Type 0) (x y : ℕ) → P x → P y → All P (x ∷ y ∷ [])
two_hold P x y h k = search rules

-- what holds for both sides of each gate holds for all sides
pub each_side : (P : ℕ → Type 0) (gates : List Gate) → All (λ g. P g.first × P g.second) gates →
    All P (flat_map (λ g. g.first ∷ g.second ∷ []) gates)
each_side P [] all = λ k e lt. absurd (omega arith)
each_side P (g ∷ gates) all =
    let here = all 0 g (omega arith) in
    subst (λ xs. All P xs) (sym (flat_map-cons (λ (g : Gate). g.first ∷ g.second ∷ []) g gates))
    (All-append P (g.first ∷ g.second ∷ []) (flat_map (λ (g : Gate). g.first ∷ g.second ∷ []) gates)
    (two_hold P g.first g.second here.0 here.1) (each_side P gates (λ k e lt. all (suc k) e (omega arith))))

-- the gates of a circuit have distinct variables
pub gates_once : (c : CircuitData) → AllPairs (λ l m. variable l ≢ variable m) (definitions c) →
    AllPairs (λ g h. variable g.literal ≢ variable h.literal) c.gates
gates_once c once i j d lt within e = grind (arith, length-append, many, length-map, at_gate)
  where
    at_gate : (i : ℕ) (d : Gate) → i < length c.gates → get_or (definitions c)
        (length (c.inputs ++ map (λ l. l.literal) c.latches) + i) 0 ≡ (get_or c.gates i d).literal
    at_gate i d lt = search (rules, get_or-append-add, get_or-map, c.inputs, c.latches, c.gates)

-- the index that a gate's `Links` have for its first or second literal, if there is one, is less than the number of
-- gates
pub side_within : (links : List Links) (item place : ℕ) {sides : Links} → LinksStayWithin (gate_graph links) →
    slice_get links item ≡ Some sides → place < 2 → IfSome (side_of sides place) (λ to. to < length links)
side_within links item place {sides} within at lt = which (side_of sides place) refl
  where
    which : (o : Option ℕ) → side_of sides place ≡ o → IfSome o (λ to. to < length links)
    which None e = tt
    which (Some to) e = within item to (record {
      from = slice_get_within links item sides at;
      place = place;
      at = lt;
      target = ap (λ o. target_of o place) at ∙ e;
    })
