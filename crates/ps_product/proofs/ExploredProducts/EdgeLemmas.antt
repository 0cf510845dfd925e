-- At all letters of one class, the automaton makes the same step and the next latches are the same. So the edges that
-- are found at the least letter of each class are all the edges of a vertex.
use Rattle.std.proofs.Common.{◌≡◌, ◌≢◌, ℕ, suc, zero, ◌^◌, ◌<◌, ◌≤◌, Bool, true, false, List, [], ◌∷◌, length}
use Rattle.std.proofs.Common.{get_or, Option, None, Some, All, refl, ap, sym, ◌∙◌, arith, inl, inr}
use Rattle.std.specs.Prelude.{is_some, IsSomeAnd}
use Rattle.std.specs.Option.{unwrap_or}
use Rattle.std.specs.List.{AllPairs, Contains}
use Rattle.std.proofs.lemmas.List.{ext_get_or, get_or-map, length-map, get_or_default}
use Rattle.ps_automaton.specs.Automata.{AutomatonData, IsWhole, auto_of, node_of, pair_of, step_of}
use Rattle.ps_automaton.specs.Autos.{Auto}
use Rattle.ps_automaton.specs.declared.step.Step.{Step}
use Rattle.ps_circuit.specs.Circuits.{CircuitData}
use Rattle.ps_circuit.specs.Values.{Steps, bit_of}
use Rattle.ps_diagram.specs.Composing.{IsLetterOfTruths}
use Rattle.ps_diagram.specs.Letters.{letter_of}
use Rattle.ps_diagram.specs.Table.{Table, leaf_of}
use Rattle.ps_diagram.proofs.NodeTables.KnownLemmas.{some_nat}
use Rattle.ps_diagram.proofs.Letters.{letter_is, letter_lt}
use Rattle.ps_label.specs.Truth.{is_in}
use Rattle.ps_product.specs.Groups.{StandFor}
use Rattle.ps_product.specs.Inner.Edges.{AreClassLetters, AreEdges, HaveEdges, LeadsBy, standing}
use Rattle.ps_product.specs.Inner.Edges.{targets}
use Rattle.ps_product.specs.Roles.{AreRoles}
use Rattle.ps_product.specs.Products.{Leads, ProductVertex}
use Rattle.ps_product.specs.Truths.{bits_at, bits_of, truth_at}
use Rattle.ps_product.specs.Vertices.{product_vertex}
use Rattle.ps_product.specs.declared.edges.Edge.{Edge}
use Rattle.ps_product.specs.declared.roles.Roles.{Roles}
use Rattle.ps_product.specs.declared.truth.Truth.{Truth}
use Rattle.ps_product.specs.declared.truth.Truth.TheVariants.{Never}
use Rattle.ps_simulate.specs.Lassos.{IsLetterOf}
use Rattle.ps_simulate.specs.Symbols.{IsSymbol}
use Rattle.ps_simulate.proofs.NamingLemmas.{names_differ, some_same, within}

-- ## Options and elements

pub some_leaf : (o : Option ℕ) → is_some o ≡ true → (y : ℕ) × (o ≡ Some y)
some_leaf None e = absurd (cc)
some_leaf (Some y) e = (y, refl)

pub and_some : (P : ℕ → Type 0) (o : Option ℕ) → IsSomeAnd o P → (y : ℕ) × (o ≡ Some y) × P y
and_some P None h = absurd h
and_some P (Some y) h = (y, refl, h)

pub element : {X : Type 0} (xs : List X) (k : ℕ) → k < length xs → X
element [] k lt = absurd (omega arith)
element (x ∷ xs) zero lt = x
element (x ∷ xs) (suc k) lt = element xs k (omega (arith, lt))

pub same_vertex : (v w : ProductVertex) → v.latches ≡ w.latches → v.state ≡ w.state → v.priority ≡ w.priority → v ≡ w
same_vertex v w a b c = λ i. record { latches = a i; state = b i; priority = c i }

same_step : (v w : Step) → v.state ≡ w.state → v.priority ≡ w.priority → v ≡ w
same_step v w a b = λ i. record { state = a i; priority = b i }

-- ## Letters by name

module _ {a : AutomatonData} {c : CircuitData} {roles : Roles} (is_whole : IsWhole a) (r : AreRoles a.names c roles)
  where
    abbrev ins : List ℕ
    ins = roles.inputs.items

    abbrev outs_at : List ℕ
    outs_at = roles.outputs.items

    input_of : (k p : ℕ) → IsSymbol a.names c.input_names k p → (k < length ins) × (get_or ins k 0 ≡ p)
    input_of k p s =
        let less = within c.input_names k (get_or a.names p []) s.is in
        let lt : k < length ins = omega (arith, less, r.inputs_each) in
        let t = r.inputs_are k lt in (
          lt,
          names_differ a.names is_whole.are_names (get_or ins k 0) p t.within s.within
              (some_same (get_or a.names (get_or ins k 0) []) (get_or a.names p []) (sym t.is ∙ s.is)),
        )

    output_of : (k p : ℕ) → IsSymbol a.names c.output_names k p → (k < length outs_at) × (get_or outs_at k 0 ≡ p)
    output_of k p s =
        let less = within c.output_names k (get_or a.names p []) s.is in
        let lt : k < length outs_at = omega (arith, less, r.outputs_each) in
        let t = r.outputs_are k lt in (
          lt,
          names_differ a.names is_whole.are_names (get_or outs_at k 0) p t.within s.within
              (some_same (get_or a.names (get_or outs_at k 0) []) (get_or a.names p []) (sym t.is ∙ s.is)),
        )

    no_output : (p : ℕ) → Contains ins p → (k : ℕ) → k < length outs_at → get_or outs_at k 0 ≢ p
    no_output p there k lt e = r.apart p there (k, lt, get_or_default outs_at k p 0 lt ∙ e)

    module _ {t : Table} {outs : List Truth} (nodes : List ℕ) (nodes_each : length nodes ≡ length a.names)
        (outs_each : length outs_at ≡ length outs) (stand : StandFor t outs_at outs nodes) where
      -- the letter of the automaton consists of the inputs' bits in the given letter, and of the outputs' bits computed
      -- from it
      letter_is_whole : (latches : List Bool) (x whole : ℕ) → whole < 2 ^ length nodes →
          IsLetterOfTruths t nodes x whole → IsLetterOf a.names c
          (record { latches = latches; inputs = bits_at ins x; outputs = bits_of t outs x }) whole
      letter_is_whole latches x whole few letter = record {
        few = rw (← nodes_each) few;
        inputs = λ k p s.
            let at = input_of k p s in
            let low : p < length nodes = omega (arith, s.within, nodes_each) in
            let there : Contains ins p = (k, at.0, get_or_default ins k p 0 at.0 ∙ at.1) in
            letter p low ∙ (stand p low).own (no_output p there) x ∙ sym (ap (λ q. is_in q x) at.1)
            ∙ sym (get_or-map (λ q. is_in q x) ins k 0 false at.0);
        outputs = λ k p s.
            let at = output_of k p s in
            let low : p < length nodes = omega (arith, s.within, nodes_each) in
            let less : k < length outs = omega (arith, at.0, outs_each) in
            letter p low ∙ (stand p low).output k at.0 at.1 x
            ∙ sym (get_or-map (λ m. truth_at t m x) outs k Never false less);
      }

      -- the inputs that a step of the product reads are the bits of its letter
      inputs_same : (named : length c.input_names ≡ length c.inputs) (v w : ProductVertex) (letter : ℕ)
          (l : Leads a.names (auto_of a) c v letter w) → l.inputs ≡ bits_at ins letter
      inputs_same named v w letter l =
          let wide : length l.inputs ≡ length c.inputs =
          ap (λ (bs : List Bool). length bs) (sym l.steps.are_values.inputs_are)
          ∙ length-map c.inputs (bit_of l.steps.values) in
          let many = length-map ins (λ q. is_in q letter) in
          ext_get_or false l.inputs (bits_at ins letter) (omega (arith, wide, many, r.inputs_each, named)) (λ k lt.
          let less : k < length ins = omega (arith, lt, wide, r.inputs_each, named) in
          sym (l.is_letter.inputs k (get_or ins k 0) (r.inputs_are k less))
          ∙ sym (get_or-map (λ q. is_in q letter) ins k 0 false less))

      -- a step's letter does not change if the bits of the outputs are replaced by the computed output values
      own_whole : (v w : ProductVertex) (letter : ℕ) (l : Leads a.names (auto_of a) c v letter w) →
          l.outputs ≡ bits_of t outs letter → IsLetterOfTruths t nodes letter letter
      own_whole v w letter l same p low = elim (r.every p (omega (arith, low, nodes_each))) [
        | inl there ↦ sym ((stand p low).own (no_output p there) letter)
        | inr there ↦
            let k = there.0 in
            let at : get_or outs_at k 0 ≡ p = get_or_default outs_at k 0 p there.1 ∙ there.2 in
            let s : IsSymbol a.names c.output_names k p = rw at at (r.outputs_are k there.1) in
            let less : k < length outs = omega (arith, there.1, outs_each) in
            l.is_letter.outputs k p s ∙ ap (λ (bs : List Bool). get_or bs k false) same
            ∙ get_or-map (λ m. truth_at t m letter) outs k Never false less
            ∙ sym ((stand p low).output k there.1 at letter)
      ]

      -- ## Edges

      module _ {latches : List Bool} {q : ℕ} {nexts : List Truth} (state : q ≤ a.states)
          (props : t.propositions ≡ length a.names) (named : length c.input_names ≡ length c.inputs)
          (there : (x : ℕ) → x < 2 ^ t.propositions →
          Steps c latches (bits_at ins x) (bits_of t outs x) (bits_of t nexts x))
          (one : (x : ℕ) (answer next : List Bool) → x < 2 ^ t.propositions →
          Steps c latches (bits_at ins x) answer next → (answer ≡ bits_of t outs x) × (next ≡ bits_of t nexts x))
          {found : List (ℕ × ℕ)} {edges : List Edge} (classes : AreClassLetters a q t nodes nexts found)
          (have : HaveEdges a q t nodes nexts found edges) where
        letter_at : (k : ℕ) (d : Edge) → k < length edges → (get_or edges k d).letter ≡ (get_or found k (0, 0)).1
        letter_at k d lt = have.letters k d lt

        low_at : (k : ℕ) (d : Edge) → k < length edges → (get_or edges k d).letter < 2 ^ t.propositions
        low_at k d lt =
            let least = classes.leaves.least k (0, 0) (omega (arith, lt, have.one_each)) in
            rw (letter_at k d lt) least.here.0

        leaf_at : (k : ℕ) (d : Edge) → k < length edges →
            leaf_of t classes.node (get_or edges k d).letter ≡ Some (get_or found k (0, 0)).0
        leaf_at k d lt =
            let least = classes.leaves.least k (0, 0) (omega (arith, lt, have.one_each)) in
            ap (leaf_of t classes.node) (letter_at k d lt) ∙ least.here.1

        step_same : (x y u v : ℕ) → IsLetterOfTruths t nodes x u → IsLetterOfTruths t nodes y v →
            leaf_of t classes.composed x ≡ leaf_of t classes.composed y → step_of a q u ≡ step_of a q v
        step_same x y u v hx hy e =
            let same : leaf_of a.store (node_of a q) u ≡ leaf_of a.store (node_of a q) v =
            sym (classes.leaf x u hx) ∙ e ∙ classes.leaf y v hy in
            ap (λ (o : Option ℕ). pair_of a (unwrap_or o (length a.steps))) same

        all_lead : All (LeadsBy a.names (auto_of a) c ins (standing latches q)) edges
        all_lead k d lt =
            let e = get_or edges k d in
            let x = have.each k d lt in
            record {
              letter = x.whole;
              leads = record {
                inputs = bits_at ins e.letter;
                outputs = bits_of t outs e.letter;
                steps = rw x.latches (there e.letter (low_at k d lt));
                is_letter = letter_is_whole latches e.letter x.whole x.few x.is_whole;
                state = x.state;
                priority = x.priority;
              };
              reads = refl;
            }

        each_found : (letter : ℕ) (w : ProductVertex) → Leads a.names (auto_of a) c (standing latches q) letter w →
            Contains (targets edges) w
        each_found letter w l =
            let v = standing latches q in
            let low : letter < 2 ^ t.propositions = rw props l.is_letter.few in
            let steps : Steps c latches (bits_at ins letter) l.outputs w.latches =
            rw (inputs_same named v w letter l) at l.steps in
            let o = one letter l.outputs w.latches low steps in
            let own = own_whole v w letter l o.0 in
            let some : is_some (leaf_of t classes.node letter) ≡ true =
            classes.groups.total letter low in
            let leaf = some_leaf (leaf_of t classes.node letter) some in
            let any = classes.leaves.each leaf.0 letter (low, leaf.1) in
            let k = any.0 in
            let lt : k < length edges = omega (arith, any.2, have.one_each) in
            let d = element edges k lt in
            let e = get_or edges k d in
            let x = have.each k d lt in
            let pair : (get_or found k (0, 0)).0 ≡ leaf.0 =
            ap (λ (p : ℕ × ℕ). p.0) (get_or_default found k (0, 0) any.1 any.2 ∙ any.3) ∙ any.4 in
            let same : leaf_of t classes.node e.letter ≡ leaf_of t classes.node letter =
            leaf_at k d lt ∙ ap (λ y. Some y) pair ∙ sym leaf.1 in
            let g = classes.groups.same e.letter letter (low_at k d lt) low same in
            let s = step_same e.letter letter x.whole letter x.is_whole own g.0 in
            let one_latches : e.to.latches.items ≡ w.latches = x.latches ∙ g.1 ∙ sym o.1 in
            let one_state : e.to.state ≡ w.state = x.state ∙ ap (λ (y : Step). y.state) s ∙ sym l.state in
            let one_priority : e.to.priority ≡ w.priority =
            x.priority ∙ ap (λ (y : Step). y.priority) s ∙ sym l.priority in
            let is : product_vertex e.to ≡ w = same_vertex (product_vertex e.to) w one_latches one_state one_priority in (
              k,
              rw (length-map edges (λ (y : Edge). product_vertex y.to)) lt,
              get_or-map (λ (y : Edge). product_vertex y.to) edges k d w lt ∙ is,
            )

        -- two found edges that lead to the same vertex belong to the same class of letters
        same_leaf : (i j : ℕ) (d e : Edge) → i < length edges → j < length edges →
            product_vertex (get_or edges i d).to ≡ product_vertex (get_or edges j e).to →
            (get_or found i (0, 0)).0 ≡ (get_or found j (0, 0)).0
        same_leaf i j d e li lj same =
            let x = have.each i d li in
            let y = have.each j e lj in
            let p = (get_or edges i d).letter in
            let r = (get_or edges j e).letter in
            let latches_same : bits_of t nexts p ≡ bits_of t nexts r =
            sym x.latches ∙ ap (λ (v : ProductVertex). v.latches) same ∙ y.latches in
            let state_same : (step_of a q x.whole).state ≡ (step_of a q y.whole).state =
            sym x.state ∙ ap (λ (v : ProductVertex). v.state) same ∙ y.state in
            let priority_same : (step_of a q x.whole).priority ≡ (step_of a q y.whole).priority =
            sym x.priority ∙ ap (λ (v : ProductVertex). v.priority) same ∙ y.priority in
            let steps_same : step_of a q x.whole ≡ step_of a q y.whole =
            same_step (step_of a q x.whole) (step_of a q y.whole) state_same priority_same in
            let u = and_some (λ leaf. leaf < length a.steps) (leaf_of a.store (node_of a q) x.whole)
            (is_whole.leaves q x.whole state) in
            let v = and_some (λ leaf. leaf < length a.steps) (leaf_of a.store (node_of a q) y.whole)
            (is_whole.leaves q y.whole state) in
            let pairs : pair_of a u.0 ≡ pair_of a v.0 =
            sym (ap (λ (o : Option ℕ). pair_of a (unwrap_or o (length a.steps))) u.1) ∙ steps_same
            ∙ ap (λ (o : Option ℕ). pair_of a (unwrap_or o (length a.steps))) v.1 in
            let leaves_same = is_whole.once u.0 v.0 u.2 v.2 pairs in
            let composed_same : leaf_of t classes.composed p ≡ leaf_of t classes.composed r =
            classes.leaf p x.whole x.is_whole ∙ u.1 ∙ ap (λ n. Some n) leaves_same ∙ sym v.1
            ∙ sym (classes.leaf r y.whole y.is_whole) in
            let node_same = classes.groups.one p r (low_at i d li) (low_at j e lj) composed_same latches_same in
            some_nat _ _ (sym (leaf_at i d li) ∙ node_same ∙ leaf_at j e lj)

        all_differ : AllPairs (λ x y. x ≢ y) (targets edges)
        all_differ i j d rises lt same =
            let lj : j < length edges = rw (← length-map edges (λ (y : Edge). product_vertex y.to)) lt in
            let li : i < length edges = omega (arith, rises, lj) in
            let di = element edges i li in
            let dj = element edges j lj in
            let e : product_vertex (get_or edges i di).to ≡ product_vertex (get_or edges j dj).to =
            sym (get_or-map (λ (y : Edge). product_vertex y.to) edges i di d li) ∙ same
            ∙ get_or-map (λ (y : Edge). product_vertex y.to) edges j dj d lj in
            let fj : j < length found = omega (arith, lj, have.one_each) in
            let first = classes.leaves.least i (0, 0) (omega (arith, li, have.one_each)) in
            let last = classes.leaves.least j (0, 0) fj in
            let leaf = same_leaf i j di dj li lj e in
            last.none_before (get_or found i (0, 0)).1 (first.here.0, first.here.1 ∙ ap (λ y. Some y) leaf)
            (classes.leaves.rising i j (0, 0) rises fj)

        some_edge : 0 < length edges
        some_edge =
            let below = letter_lt t.propositions (λ p. false) in
            let low : 0 < 2 ^ t.propositions = omega (arith, below) in
            let leaf = some_leaf (leaf_of t classes.node 0) (classes.groups.total 0 low) in
            let any = classes.leaves.each leaf.0 0 (low, leaf.1) in
            omega (arith, any.2, have.one_each)

        pub are_edges : AreEdges a.names (auto_of a) c ins (standing latches q) edges
        are_edges = record { lead = all_lead; whole = each_found; different = all_differ; some = some_edge }

-- the automaton's diagram, in which outputs are replaced by their functions of the inputs, has a leaf at each letter
pub composed_total : {a : AutomatonData} {q : ℕ} (t : Table) (nodes : List ℕ) (composed : ℕ) → IsWhole a →
    q ≤ a.states → ((letter whole : ℕ) → IsLetterOfTruths t nodes letter whole →
    leaf_of t composed letter ≡ leaf_of a.store (node_of a q) whole) → (letter : ℕ) →
    is_some (leaf_of t composed letter) ≡ true
composed_total {a} {q} t nodes composed is_whole state leaf letter =
    let bits = λ (p : ℕ). is_some (leaf_of t (get_or nodes p 0) letter) in
    let whole = letter_of (length nodes) bits in
    let is : IsLetterOfTruths t nodes letter whole = λ p lt. letter_is (length nodes) bits p lt in
    let step = and_some (λ leaf. leaf < length a.steps) (leaf_of a.store (node_of a q) whole)
    (is_whole.leaves q whole state) in
    ap is_some (leaf letter whole is ∙ step.1)

-- the edges of a product's vertex do not depend on the priority of the edge that led to it
pub from_standing : {names : List (List ℕ)} {auto : Auto} {c : CircuitData} {inputs : List ℕ} (v : ProductVertex)
    {edges : List Edge} → AreEdges names auto c inputs (standing v.latches v.state) edges →
    AreEdges names auto c inputs v edges
from_standing v h = record {
  lead = λ k d lt.
      let r = h.lead k d lt in
      record {
        letter = r.letter;
        leads = record {
          inputs = r.leads.inputs;
          outputs = r.leads.outputs;
          steps = r.leads.steps;
          is_letter = r.leads.is_letter;
          state = r.leads.state;
          priority = r.leads.priority;
        };
        reads = r.reads;
      };
  whole = λ letter w l. h.whole letter w (record {
    inputs = l.inputs;
    outputs = l.outputs;
    steps = l.steps;
    is_letter = l.is_letter;
    state = l.state;
    priority = l.priority;
  });
  different = h.different;
  some = h.some;
}
