-- Lemmas about the product while its vertices are being explored, one after another.
use Rattle.std.proofs.Common.{◌≡◌, ℕ, suc, zero, ◌+◌, ◌<◌, ◌≤◌, List, [], ◌∷◌, ◌++◌, length, get_or, Vec}
use Rattle.std.proofs.Common.{Some, refl, ap, sym, ◌∙◌, arith, inl, inr, length-append}
use Rattle.std.specs.Global.{Global}
use Rattle.std.specs.List.{Contains, slice_get}
use Rattle.std.proofs.Math.ListN.{get_or-append}
use Rattle.std.proofs.Math.Seq.{get_or-append_seam}
use Rattle.std.proofs.lemmas.Bool.{cases_lt}
use Rattle.std.proofs.lemmas.List.{get_or-map, length-map, get_or_default}
use Rattle.std.proofs.lemmas.Option.{slice_get-get_or, slice_get_within, get_or_from_slice_get}
use Rattle.ps_automaton.specs.Automata.{IsWhole, auto_of, node_of, pair_of, step_of}
use Rattle.ps_automaton.specs.declared.step.Step.{Step}
use Rattle.ps_circuit.specs.declared.parts.Latch.{Latch}
use Rattle.ps_circuit.specs.Values.{bit_of}
use Rattle.ps_diagram.specs.Table.{leaf_of}
use Rattle.ps_diagram.proofs.ClassesOfLetters.Distinct.{at_left}
use Rattle.ps_game.specs.Games.{ParityGame, VertexData, no_vertex}
use Rattle.ps_product.specs.Inner.Edges.{LeadsBy}
use Rattle.ps_product.specs.Inner.Exploring.{AreLeads, DraftData, HasEdges, HaveNoted, IsExplored, IsExploredAs}
use Rattle.ps_product.specs.Inner.Exploring.{IsProper, Setting}
use Rattle.ps_product.specs.Numbers.{AreApart, AreNumbers, IsNumberOf}
use Rattle.ps_product.specs.Products.{Leads, ProductVertex, first_vertex}
use Rattle.ps_product.specs.Vertices.{product_vertex}
use Rattle.ps_product.specs.declared.edges.Edge.{Edge}
use Rattle.ps_product.proofs.ExploredProducts.EdgeLemmas.{and_some, element}
use Rattle.ps_simulate.proofs.NamingLemmas.{some_same}
use Rattle.ps_traces.proofs.CircuitRuns.{next_reached, resets_reached}

pub at_before : {X : Type 0} (xs ys : List X) (i : ℕ) → i < length xs → slice_get (xs ++ ys) i ≡ slice_get xs i
at_before [] ys i lt = absurd (omega arith)
at_before (x ∷ xs) ys zero lt = refl
at_before (x ∷ xs) ys (suc i) lt = at_before xs ys i (omega (arith, lt))

-- ## Proper vertices

pub proper_first : (s : Setting) → IsWhole s.automaton → IsProper s (first_vertex s.circuit (auto_of s.automaton))
proper_first s is_whole = record {
  wide = length-map s.circuit.latches (λ (l : Latch). l.reset);
  state = omega (arith, is_whole.start);
  reached = resets_reached s.circuit;
}

pub proper_next : (s : Setting) → IsWhole s.automaton → {v w : ProductVertex} {letter : ℕ} → IsProper s v →
    Leads s.automaton.names (auto_of s.automaton) s.circuit v letter w → IsProper s w
proper_next s is_whole {v} {w} {letter} p l =
    let a = s.automaton in
    let step = and_some (λ leaf. leaf < length a.steps) (leaf_of a.store (node_of a v.state) letter)
    (is_whole.leaves v.state letter p.state) in
    let is : step_of a v.state letter ≡ pair_of a step.0 =
    ap (λ (o : Rattle.std.proofs.Common.Option ℕ). pair_of a (Rattle.std.specs.Option.unwrap_or o (length a.steps)))
    step.1 in
    let state : w.state ≡ (pair_of a step.0).state = l.state ∙ ap (λ (y : Step). y.state) is in
    record {
      wide = ap (λ (bs : List Rattle.std.proofs.Common.Bool). length bs) l.steps.next_are
          ∙ length-map s.circuit.latches (λ (x : Latch). bit_of l.steps.values x.next);
      state = rw state (is_whole.targets step.0 step.2);
      reached = next_reached p.reached l.steps;
    }

-- ## One vertex more

kept_as : (s : Setting) (vertices added : List ProductVertex) {v : ProductVertex} {x : VertexData} {letters : List ℕ} →
    IsExploredAs s vertices v x letters → IsExploredAs s (vertices ++ added) v x letters
kept_as s vertices added h = record {
  owner = h.owner;
  priority = h.priority;
  one_each = h.one_each;
  some = h.some;
  different = h.different;
  lead = λ k j at. let r = h.lead k j at in (r.0, at_left vertices added j r.1, r.2);
  whole = λ letter w l. let r = h.whole letter w l in (r.0, r.1, r.2, at_left vertices added r.1 r.3);
}

module _ {s : Setting} (is_whole : IsWhole s.automaton) {d e : DraftData} {i : ℕ} {edges : List Edge}
    {numbers : List ℕ} (letters : Vec ℕ Global) (x : IsExplored s d i) (h : HasEdges s d.vertices i edges)
    (n : AreNumbers d.vertices e.vertices edges numbers letters.items) (apart : AreApart e.vertices)
    (game : e.game ≡ d.game ++ record { owner = s.owner; priority = h.vertex.priority; successors = numbers } ∷ [])
    (rows : e.letters ≡ d.letters ++ letters ∷ [])
    (noted : HaveNoted i numbers letters.items d.leads e.leads) where
  abbrev new : VertexData
  new = record { owner = s.owner; priority = h.vertex.priority; successors = numbers }

  less : i < length d.vertices
  less = slice_get_within d.vertices i h.vertex h.there

  long : length d.vertices ≤ length e.vertices
  long = omega (arith, ap (λ (l : List ProductVertex). length l) n.grown, length-append d.vertices n.added)

  old_at : (j : ℕ) (w : ProductVertex) → j < length d.vertices → slice_get e.vertices j ≡ Some w →
      slice_get d.vertices j ≡ Some w
  old_at j w lt at = sym (at_before d.vertices n.added j lt)
      ∙ ap (λ (l : List ProductVertex). slice_get l j) (sym n.grown) ∙ at

  now_at : (j : ℕ) (w : ProductVertex) → slice_get d.vertices j ≡ Some w → slice_get e.vertices j ≡ Some w
  now_at j w at = ap (λ (l : List ProductVertex). slice_get l j) n.grown ∙ at_left d.vertices n.added j at

  target : (k : ℕ) (y : Edge) → k < length edges →
      slice_get e.vertices (get_or numbers k 0) ≡ Some (product_vertex (get_or edges k y).to)
  target k y lt = n.stand k y lt

  letter_at : (k : ℕ) (y : Edge) → k < length edges → get_or letters.items k 0 ≡ (get_or edges k y).letter
  letter_at k y lt = ap (λ (l : List ℕ). get_or l k 0) n.letters_are
      ∙ get_or-map (λ (z : Edge). z.letter) edges k y 0 lt

  number_lt : (k j : ℕ) → slice_get numbers k ≡ Some j → k < length edges
  number_lt k j at = omega (arith, slice_get_within numbers k j at, n.numbers_each)

  number_is : (k j : ℕ) → slice_get numbers k ≡ Some j → get_or numbers k 0 ≡ j
  number_is k j at = get_or_from_slice_get numbers k j 0 at

  explored_here : IsExploredAs s e.vertices h.vertex new letters.items
  explored_here = record {
    owner = refl;
    priority = refl;
    one_each = ap (λ (l : List ℕ). length l) n.letters_are ∙ length-map edges (λ (z : Edge). z.letter)
        ∙ sym n.numbers_each;
    some = rw n.numbers_each h.edges_are.some;
    different = λ j k c rises lt same.
        let lk : k < length edges = omega (arith, lt, n.numbers_each) in
        let lj : j < length edges = omega (arith, rises, lk) in
        let y = element edges j lj in
        let z = element edges k lk in
        let numbers_same : get_or numbers j 0 ≡ get_or numbers k 0 =
        get_or_default numbers j 0 c (omega (arith, rises, lt)) ∙ same ∙ get_or_default numbers k c 0 lt in
        let vertices_same : product_vertex (get_or edges j y).to ≡ product_vertex (get_or edges k z).to =
        some_same _ _ (sym (target j y lj) ∙ ap (slice_get e.vertices) numbers_same ∙ target k z lk) in
        let c = h.vertex in
        h.edges_are.different j k c rises (rw (length-map edges (λ (t : Edge). product_vertex t.to)) lk)
        (get_or-map (λ (t : Edge). product_vertex t.to) edges j y c lj ∙ vertices_same
        ∙ sym (get_or-map (λ (t : Edge). product_vertex t.to) edges k z c lk));
    lead = λ k j at.
        let lt = number_lt k j at in
        let y = element edges k lt in
        let reads : LeadsBy s.automaton.names (auto_of s.automaton) s.circuit s.inputs h.vertex (get_or edges k y) =
        h.edges_are.lead k y lt in (
          product_vertex (get_or edges k y).to,
          ap (slice_get e.vertices) (sym (number_is k j at)) ∙ target k y lt,
          rw (letter_at k y lt) reads,
        );
    whole = λ letter w l.
        let there = h.edges_are.whole letter w l in
        let k = there.0 in
        let lt : k < length edges = rw (← length-map edges (λ (t : Edge). product_vertex t.to)) there.1 in
        let y = element edges k lt in
        let is : product_vertex (get_or edges k y).to ≡ w =
        sym (get_or-map (λ (t : Edge). product_vertex t.to) edges k y w lt) ∙ there.2 in (
          k,
          get_or numbers k 0,
          slice_get-get_or numbers k 0 (omega (arith, lt, n.numbers_each)),
          target k y lt ∙ ap (λ (v : ProductVertex). Some v) is,
        );
  }

  game_old : (j : ℕ) → j < i → get_or e.game j no_vertex ≡ get_or d.game j no_vertex
  game_old j lt = ap (λ (g : ParityGame). get_or g j no_vertex) game
      ∙ get_or-append d.game (new ∷ []) no_vertex j (omega (arith, lt, x.vertices_each))

  game_new : get_or e.game i no_vertex ≡ new
  game_new = ap (λ (g : ParityGame). get_or g i no_vertex) game
      ∙ ap (λ j. get_or (d.game ++ new ∷ []) j no_vertex) (sym x.vertices_each)
      ∙ get_or-append_seam d.game new [] no_vertex

  rows_old : (j : ℕ) (r : Vec ℕ Global) → j < i → get_or e.letters j r ≡ get_or d.letters j r
  rows_old j r lt = ap (λ (g : List (Vec ℕ Global)). get_or g j r) rows
      ∙ get_or-append d.letters (letters ∷ []) r j (omega (arith, lt, x.letters_each))

  rows_new : (r : Vec ℕ Global) → get_or e.letters i r ≡ letters
  rows_new r = ap (λ (g : List (Vec ℕ Global)). get_or g i r) rows
      ∙ ap (λ j. get_or (d.letters ++ letters ∷ []) j r) (sym x.letters_each)
      ∙ get_or-append_seam d.letters letters [] r

  proper_now : (j : ℕ) (w : ProductVertex) → slice_get e.vertices j ≡ Some w → IsProper s w
  proper_now j w at = elim (n.from j w at) [
    | inl old ↦ x.proper j w old
    | inr there ↦
        let k = there.0 in
        let lt = number_lt k j there.1 in
        let y = element edges k lt in
        let is : product_vertex (get_or edges k y).to ≡ w =
        some_same _ _ (sym (target k y lt) ∙ ap (slice_get e.vertices) (number_is k j there.1) ∙ at) in
        let p = proper_next s is_whole (x.proper i h.vertex h.there) (h.edges_are.lead k y lt).leads in
        rw is at p
  ]

  vertex_here : (w : ProductVertex) → slice_get e.vertices i ≡ Some w → h.vertex ≡ w
  vertex_here w at = some_same _ _ (sym (now_at i h.vertex h.there) ∙ at)

  explored_now : (j : ℕ) (w : ProductVertex) (r : Vec ℕ Global) → j < i + 1 → slice_get e.vertices j ≡ Some w →
      IsExploredAs s e.vertices w (get_or e.game j no_vertex) (get_or e.letters j r).items
  explored_now j w r lt at = elim (cases_lt j i) [
    | inl below ↦
        let old = x.explored j w r below (old_at j w (omega (arith, below, less)) at) in
        let kept : IsExploredAs s e.vertices w (get_or d.game j no_vertex) (get_or d.letters j r).items =
        rw n.grown (kept_as s d.vertices n.added old) in
        rw (game_old j below, rows_old j r below) kept
    | inr above ↦
        let same : j ≡ i = omega (arith, lt, above) in
        let here = rw same at at in
        let is = vertex_here w here in
        rw (same, game_new, rows_new r, ← is) explored_here
  ]

  led_now : (j : ℕ) → 0 < j → j < length e.vertices → (from : ℕ) × (from < j) × (from < i + 1) ×
      Contains (get_or e.game from no_vertex).successors j
  led_now j positive lt = elim (cases_lt j (length d.vertices)) [
    | inl below ↦
        let old = x.led j positive below in
        (old.0, old.1, omega (arith, old.2), rw (game_old old.0 old.2) old.3)
    | inr above ↦
        let w = element e.vertices j lt in
        let at : slice_get e.vertices j ≡ Some (get_or e.vertices j w) = slice_get-get_or e.vertices j w lt in
        elim (n.from j (get_or e.vertices j w) at) [
          | inl old ↦ absurd (omega (arith, above, slice_get_within d.vertices j (get_or e.vertices j w) old))
          | inr there ↦
              let k = there.0 in
              let inside = slice_get_within numbers k j there.1 in
              let contains : Contains numbers j = (k, inside, get_or_from_slice_get numbers k j j there.1) in
              (i, omega (arith, less, above), omega arith, rw game_new contains)
        ]
  ]

  noted_now : AreLeads s e.vertices e.leads
  noted_now j lead at positive = elim (noted.each j lead at) [
    | inl old ↦
        let led = x.noted j lead old positive in
        record {
          earlier = led.earlier;
          vertex = led.vertex;
          next = led.next;
          vertex_is = now_at lead.from led.vertex led.vertex_is;
          next_is = now_at j led.next led.next_is;
          reads = led.reads;
        }
    | inr fresh ↦
        let k = fresh.2.0 in
        let lt = number_lt k j fresh.2.1 in
        let y = element edges k lt in
        let reads : LeadsBy s.automaton.names (auto_of s.automaton) s.circuit s.inputs h.vertex (get_or edges k y) =
        h.edges_are.lead k y lt in
        record {
          earlier = rw fresh.0 fresh.1;
          vertex = h.vertex;
          next = product_vertex (get_or edges k y).to;
          vertex_is = rw fresh.0 (now_at i h.vertex h.there);
          next_is = ap (slice_get e.vertices) (sym (number_is k j fresh.2.1)) ∙ target k y lt;
          reads = rw (fresh.2.2, letter_at k y lt) reads;
        }
  ]

  pub explored_more : IsExplored s e (i + 1)
  explored_more = record {
    vertices_each = ap (λ (g : ParityGame). length g) game ∙ length-append d.game (new ∷ [])
        ∙ ap (λ m. m + 1) x.vertices_each;
    letters_each = ap (λ (g : List (Vec ℕ Global)). length g) rows ∙ length-append d.letters (letters ∷ [])
        ∙ ap (λ m. m + 1) x.letters_each;
    within = omega (arith, less, long);
    first = now_at 0 (first_vertex s.circuit (auto_of s.automaton)) x.first;
    apart = apart;
    proper = proper_now;
    explored = explored_now;
    blind = λ first j w lt at. elim (cases_lt j i) [
      | inl below ↦ x.blind first j w below (old_at j w (omega (arith, below, less)) at)
      | inr above ↦
          let same : j ≡ i = omega (arith, lt, above) in
          let is = vertex_here w (rw same at at) in
          rw (← is) (h.blind first)
    ];
    noted = noted_now;
    led = led_now;
  }

-- ## The first vertex

pub only_first : {v : ProductVertex} {number : ℕ} {new : List ProductVertex} → IsNumberOf [] v number new →
    new ≡ v ∷ []
only_first {v} {number} {new} is = elim is.list [
  | inl same ↦ absurd (omega (arith, slice_get_within [] number v (rw same at is.stands)))
  | inr grown ↦ grown.0
]

pub explored_first : (s : Setting) → IsWhole s.automaton → {d : DraftData} {number : ℕ} →
    IsNumberOf [] (first_vertex s.circuit (auto_of s.automaton)) number d.vertices → d.game ≡ [] → d.letters ≡ [] →
    length d.leads ≡ 1 → IsExplored s d 0
explored_first s is_whole {d} {number} is game letters leads =
    let first = first_vertex s.circuit (auto_of s.automaton) in
    let all : d.vertices ≡ first ∷ [] = only_first is in
    let long : length d.vertices ≡ 1 = ap (λ (l : List ProductVertex). length l) all in
    let alone = λ (i : ℕ) (v : ProductVertex) (at : slice_get d.vertices i ≡ Some v).
    let lt = slice_get_within d.vertices i v at in
    let zero_is : i ≡ 0 = omega (arith, lt, long) in zero_is in
    record {
      vertices_each = ap (λ (g : ParityGame). length g) game;
      letters_each = ap (λ (g : List (Vec ℕ Global)). length g) letters;
      within = omega arith;
      first = ap (λ (l : List ProductVertex). slice_get l 0) all;
      apart = λ i j v a b. alone i v a ∙ sym (alone j v b);
      proper = λ i v at.
          let is : first ≡ v = some_same first v (sym (ap (λ (l : List ProductVertex). slice_get l 0) all)
          ∙ ap (slice_get d.vertices) (sym (alone i v at)) ∙ at) in
          rw is at (proper_first s is_whole);
      explored = λ i v row lt at. absurd (omega (arith, lt));
      blind = λ first i v lt at. absurd (omega (arith, lt));
      noted = λ i lead at positive. absurd (omega (arith, positive, slice_get_within d.leads i lead at, leads));
      led = λ i positive lt. absurd (omega (arith, positive, lt, long));
    }
