-- Lemmas about the product after all its vertices have been explored.
use Rattle.std.proofs.Common.{◌≡◌, ℕ, ◌<◌, Bool, List, [], ◌∷◌, length, map, get_or, Vec, Some, All}
use Rattle.std.proofs.Common.{refl, ap, sym, ◌∙◌, arith}
use Rattle.std.specs.Global.{Global}
use Rattle.std.specs.Prelude.{IsTrue}
use Rattle.std.specs.List.{slice_get}
use Rattle.std.proofs.lemmas.List.{get_or-map, get_or_default}
use Rattle.std.proofs.lemmas.Option.{slice_get-get_or, slice_get_within, get_or_from_slice_get}
use Rattle.ps_automaton.specs.Automata.{AutomatonData, auto_of}
use Rattle.ps_automaton.specs.Autos.{Auto}
use Rattle.ps_circuit.specs.Circuits.{CircuitData}
use Rattle.ps_circuit.specs.Values.{Moment, GoesOn}
use Rattle.ps_game.specs.Drafts.{HaveNoRepeats, NoneBare, NoneUnknown, without_repeats}
use Rattle.ps_game.specs.Games.{ParityGame, no_vertex, owner_of, priority_of, successors_of}
use Rattle.ps_game.specs.Games.{vertex_count}
use Rattle.ps_game.proofs.StoredGames.VertexArrays.{without_repeats-same}
use Rattle.ps_hoa.specs.Sound.{AreNames}
use Rattle.ps_product.specs.Inner.Exploring.{DraftData, IsExplored, IsExploredAs, Setting}
use Rattle.ps_product.specs.Inner.Plans.{IsRefusedAt}
use Rattle.ps_product.specs.Inner.Stored.{HaveLetters}
use Rattle.ps_product.specs.ProductFaults.{IsProductRefusal}
use Rattle.ps_product.specs.Products.{IsProductOf, Leads, LeadsReading, ProductData, ProductVertex}
use Rattle.ps_product.specs.Products.{inputs_at}
use Rattle.ps_product.specs.Truths.{bits_at}
use Rattle.ps_product.specs.Vertices.{inputs_in}
use Rattle.ps_product.specs.declared.fault.ProductFault.{ProductFault}
use Rattle.ps_product.specs.declared.fault.ProductFault.TheVariants.{OutOfMemory, Symbols, Timing}
use Rattle.ps_machine.specs.declared.key.Order.{Order}
use Rattle.ps_product.proofs.ExploredProducts.EdgeLemmas.{element}
use Rattle.ps_simulate.specs.Lassos.{AreLetters, IsLetterOf}
use Rattle.ps_simulate.specs.Symbols.{HasSymbols}
use Rattle.ps_simulate.specs.declared.role.Role.{Role}
use Rattle.ps_simulate.proofs.NamingLemmas.{some_same}
use Rattle.ps_traces.specs.Shapes.{SeesNoInputWhereReached, moves_first}
use Rattle.ps_traces.proofs.StepLetters.{has_letters}

module _ {s : Setting} {d : DraftData} (x : IsExplored s d (length d.vertices)) where
  many : length d.game ≡ length d.vertices
  many = x.vertices_each

  vertex_at : (i : ℕ) → i < length d.game → (v : ProductVertex) × (slice_get d.vertices i ≡ Some v)
  vertex_at i lt =
      let less : i < length d.vertices = omega (arith, lt, many) in
      let v = element d.vertices i less in
      (get_or d.vertices i v, slice_get-get_or d.vertices i v less)

  row_at : (i : ℕ) → i < length d.game → Vec ℕ Global
  row_at i lt = element d.letters i (omega (arith, lt, many, x.letters_each))

  as_at : (i : ℕ) (v : ProductVertex) (row : Vec ℕ Global) → i < length d.game → slice_get d.vertices i ≡ Some v →
      IsExploredAs s d.vertices v (get_or d.game i no_vertex) (get_or d.letters i row).items
  as_at i v row lt at = x.explored i v row (omega (arith, lt, many)) at

  below : (i : ℕ) (v : ProductVertex) → slice_get d.vertices i ≡ Some v → i < length d.game
  below i v at = omega (arith, slice_get_within d.vertices i v at, many)

  pub none_bare : NoneBare d.game
  unfolding vertex_count successors_of
  none_bare i lt = let v = vertex_at i lt in (as_at i v.0 (row_at i lt) lt v.1).some

  pub none_unknown : NoneUnknown d.game
  unfolding vertex_count successors_of
  none_unknown i lt k c less =
      let v = vertex_at i lt in
      let successors = (get_or d.game i no_vertex).successors in
      let r =
      (as_at i v.0 (row_at i lt) lt v.1).lead k (get_or successors k c) (slice_get-get_or successors k c less) in
      omega (arith, slice_get_within d.vertices (get_or successors k c) r.0 r.1, many)

  no_repeats : HaveNoRepeats d.game
  no_repeats i c lt =
      let v = vertex_at i lt in
      let h = (as_at i v.0 (row_at i lt) lt v.1).different in
      rw (get_or_default d.game i c no_vertex lt) h

  game_same : (game : ParityGame) → game ≡ without_repeats d.game → game ≡ d.game
  game_same game e = e ∙ without_repeats-same d.game no_repeats

  letters_there : (propositions : List ℕ) → All (λ p. p < 64) propositions →
      HaveLetters d.game propositions d.letters
  unfolding vertex_count successors_of
  letters_there propositions named = record {
    named = named;
    one_each = omega (arith, x.letters_each, many);
    rows = λ i row lt. let v = vertex_at i lt in (as_at i v.0 row lt v.1).one_each;
  }

  pub have_letters : (game : ParityGame) → game ≡ without_repeats d.game → (propositions : List ℕ) →
      All (λ p. p < 64) propositions → HaveLetters game propositions d.letters
  have_letters game e propositions named = rw (game_same game e) (letters_there propositions named)

  abbrev auto : Auto
  auto = auto_of s.automaton

  abbrev product_of : ProductData
  product_of = record { game = d.game; vertices = d.vertices; inputs = inputs_in s.inputs d.letters }

  inputs_there : (i k : ℕ) (row : Vec ℕ Global) → i < length d.game →
      k < length (get_or d.letters i row).items →
      inputs_at product_of i k ≡ bits_at s.inputs (get_or (get_or d.letters i row).items k 0)
  inputs_there i k row lt less =
      let f = λ (r : Vec ℕ Global). map (λ letter. bits_at s.inputs letter) r.items in
      ap (λ (l : List (List Bool)). get_or l k [])
      (get_or-map f d.letters i row [] (omega (arith, lt, many, x.letters_each)))
      ∙ get_or-map (λ letter. bits_at s.inputs letter) (get_or d.letters i row).items k 0 [] less

  the_product : IsProductOf s.owner s.automaton.names auto s.circuit product_of
  unfolding vertex_count successors_of owner_of priority_of
  the_product = record {
    one_each = sym many;
    first = x.first;
    once = λ i j c rises lt same.
        let li : i < length d.vertices = omega (arith, rises, lt) in
        let e : slice_get d.vertices j ≡ Some (get_or d.vertices i c) =
        slice_get-get_or d.vertices j c lt ∙ ap (λ (v : ProductVertex). Some v) (sym same) in
        let i_j = x.apart i j (get_or d.vertices i c) (slice_get-get_or d.vertices i c li) e in
        absurd (omega (arith, rises, i_j));
    owners = λ i lt. let v = vertex_at i lt in (as_at i v.0 (row_at i lt) lt v.1).owner;
    priorities = λ i v at. let lt = below i v at in (as_at i v (row_at i lt) lt at).priority;
    edges = λ i j v w at_i at_j.
        let lt = below i v at_i in
        let h = as_at i v (row_at i lt) lt at_i in
        let successors = (get_or d.game i no_vertex).successors in (
          λ edge.
              let there = edge.1 in
              let r = h.lead there.0 j
              (slice_get-get_or successors there.0 j there.1 ∙ ap (λ n. Some n) there.2) in
              let is : r.0 ≡ w = some_same r.0 w (sym r.1 ∙ at_j) in
              (r.2.letter, rw is at r.2.leads),
          λ leads.
              let r = h.whole leads.0 w leads.1 in
              let is : r.1 ≡ j = x.apart r.1 j w r.3 at_j in (
                lt,
                (
                  r.0,
                  slice_get_within successors r.0 r.1 r.2,
                  get_or_from_slice_get successors r.0 r.1 j r.2 ∙ is,
                ),
              ),
        );
    closed = λ i v w at leads.
        let lt = below i v at in
        let r = (as_at i v (row_at i lt) lt at).whole leads.0 w leads.1 in
        (r.1, r.3);
    reached = λ w positive lt.
        let r = x.led w positive (omega (arith, lt, many)) in
        record { from = r.0; earlier = r.1; edge = (omega (arith, r.2, many), r.3) };
    reads = λ i k j v w at_i at_k at_j.
        let lt = below i v at_i in
        let row = row_at i lt in
        let h = as_at i v row lt at_i in
        let successors = (get_or d.game i no_vertex).successors in
        let r = h.lead k j at_k in
        let is : r.0 ≡ w = some_same r.0 w (sym r.1 ∙ at_j) in
        let less = slice_get_within successors k j at_k in
        let reads : LeadsReading s.automaton.names auto s.circuit v
        (bits_at s.inputs (get_or (get_or d.letters i row).items k 0)) w = rw is at r.2 in
        rw (inputs_there i k row lt (omega (arith, less, h.one_each))) reads;
  }

  pub is_product : (game : ParityGame) → game ≡ without_repeats d.game → (vertices : List ProductVertex) →
      vertices ≡ d.vertices → (propositions : List ℕ) → propositions ≡ s.inputs →
      IsProductOf s.owner s.automaton.names auto s.circuit
      (record { game = game; vertices = vertices; inputs = inputs_in propositions d.letters })
  is_product game e vertices same propositions is = rw (game_same game e, same, is) the_product

  -- ## Outputs that do not depend on inputs

  leads_there : ((m : Moment) → (letter : ℕ) × IsLetterOf s.automaton.names s.circuit m letter) → (ms : List Moment)
      (i : ℕ) (v : ProductVertex) → slice_get d.vertices i ≡ Some v → (last : List Bool) →
      GoesOn s.circuit v.latches ms last →
      (j : ℕ) × (w : ProductVertex) × (slice_get d.vertices j ≡ Some w) × (w.latches ≡ last)
  leads_there letters [] i v at last on = (i, v, at, on)
  leads_there letters (m ∷ ms) i v at last (next, same, step, on) =
      let moment : Moment = record { latches = v.latches; inputs = m.inputs; outputs = m.outputs } in
      let letter = letters moment in
      let w : ProductVertex = record {
        latches = next;
        state = auto.next v.state letter.0;
        priority = auto.priority v.state letter.0;
      } in
      let leads : Leads s.automaton.names auto s.circuit v letter.0 w = record {
        inputs = m.inputs;
        outputs = m.outputs;
        steps = step;
        is_letter = letter.1;
        state = refl;
        priority = refl;
      } in
      let lt = below i v at in
      let r = (as_at i v (row_at i lt) lt at).whole letter.0 w leads in
      leads_there letters ms r.1 w r.3 last on

  pub in_time : ((m : Moment) → (letter : ℕ) × IsLetterOf s.automaton.names s.circuit m letter) → IsTrue s.is_first →
      SeesNoInputWhereReached s.circuit
  in_time letters first latches inputs others outputs other_outputs next other_next reached one other =
      let r = leads_there letters reached.0 0 _ x.first latches reached.1 in
      let lt = slice_get_within d.vertices r.0 r.1 r.2 in
      let blind = x.blind first r.0 r.1 lt r.2 in
      blind inputs others outputs other_outputs next other_next (rw r.3 one) (rw r.3 other)

first_letter : (names : List (List ℕ)) (c : CircuitData) (m : Moment) (letters : List ℕ) →
    AreLetters names c (m ∷ []) letters → (letter : ℕ) × IsLetterOf names c m letter
first_letter names c m [] are = absurd are
first_letter names c m (letter ∷ letters) are = (letter, are.0)

pub letter_for : {role : Role} {names : List (List ℕ)} {controllable : List ℕ} {c : CircuitData} → AreNames names →
    HasSymbols role names controllable c → (m : Moment) → (letter : ℕ) × IsLetterOf names c m letter
letter_for {names} {c} are has m =
    let h = has_letters are has (m ∷ []) in first_letter names c m h.letters h.are_letters

-- a fault that is found while the vertices are explored is a reason why there is no product
pub refusal : (order : Order) (role : Role) (a : AutomatonData) (c : CircuitData) (s : Setting) (fault : ProductFault) →
    HasSymbols role a.names a.controllable c → s.is_first ≡ moves_first order role → s.circuit ≡ c →
    IsRefusedAt s fault → IsProductRefusal order role a c fault
refusal order role a c s Symbols has first same h = absurd h
refusal order role a c s Timing has first same h = (
  has,
  record {
    first = sym first ∙ h.first;
    sees = λ all.
        let here : SeesNoInputWhereReached s.circuit = rw same all in
        h.sees (λ inputs others outputs other_outputs next other_next one other.
        here h.latches inputs others outputs other_outputs next other_next h.reached one other);
  },
)
refusal order role a c s OutOfMemory has first same h = h
