-- The explored product is the product of the circuit and a tableau.
use Rattle.std.proofs.Common.{◌≡◌, ◌↔◌, ℕ, ◌<◌, ◌≤◌, inl, inr, Bool, true, not, List, length}
use Rattle.std.proofs.Common.{get_or, map, Some, refl, sym, ap, subst, ◌∙◌, arith}
use Rattle.std.specs.Option.{option_map}
use Rattle.std.specs.List.{Contains, slice_get}
use Rattle.std.proofs.lemmas.Bool.{cases_lt}
use Rattle.std.proofs.lemmas.List.{get_or_default, length-map, get_or-map}
use Rattle.std.proofs.lemmas.Option.{get_or_from_slice_get, slice_get-get_or, slice_get_within}
use Rattle.ps_components.specs.Graphs.{Link}
use Rattle.ps_fairness.specs.Marks.{IsEdge}
use Rattle.ps_fairness.specs.declared.edge.Edge as graph
use Rattle.ps_formula.specs.Formulas.{Formula}
use Rattle.ps_formula.specs.NormalForms.{NormalFormula, normal_formula_at}
use Rattle.ps_hoa.specs.Files.{is_among}
use Rattle.ps_product.specs.Products.{ProductVertex}
use Rattle.ps_product.specs.Truths.{bits_at}
use Rattle.ps_simulate.proofs.NamingLemmas.{some_same}
use Rattle.ps_tableau.proofs.CoversOfSets.JoinLemmas.{from_map, in_map}
use Rattle.ps_tableau.specs.Boards.{IsEdgeOf, IsTableauOf, cover_of, formulas_in}
use Rattle.ps_tableau.specs.Covers.{Cover}
use Rattle.ps_tableau.specs.Runs.{Tableau}
use Rattle.ps_tableau.specs.Sets.{indices_in}
use Rattle.ps_tableau.specs.declared.board.Board.{Board}
use Rattle.ps_tableau.specs.declared.edge.Edge.{Edge}
use Rattle.ps_tableau_product.specs.BoardStates.{AreStatesOf, edges_of_state}
use Rattle.ps_tableau_product.specs.Inner.Exploring.{DraftData, IsExplored, first_of}
use Rattle.ps_tableau_product.specs.Graphs.{GraphData, IsModelGraph, IsStored, graph_of, marks_of}
use Rattle.ps_tableau_product.specs.Graphs.{no_passage, passage_at, passage_row}
use Rattle.ps_tableau_product.specs.Inner.Rows.{IsRow, covers_at}
use Rattle.ps_tableau_product.specs.Inner.States.{AreStates, tableau_in}
use Rattle.ps_tableau_product.specs.Plans.{Scene}
use Rattle.ps_tableau_product.specs.Inner.Views.{moment_of}
use Rattle.ps_tableau_product.specs.ProductGraphs.{HasLike, IsOfProduct, IsProductGraph, ProductGraph, edge_at}
use Rattle.ps_tableau_product.specs.Products.{IsCoveredStep, IsModelEdge, ModelEdge, ModelVertex, begins_at}
use Rattle.ps_tableau_product.specs.Products.{start_vertex}
use Rattle.ps_tableau_product.specs.declared.graph.Passage.{Passage}
use Rattle.ps_tableau_product.proofs.TableauStates.BoardTableaux.{is_tableau_for}
use Rattle.ps_tableau_product.proofs.FairProducts.FairLassos.{no_edge}
use Rattle.ps_tableau_product.proofs.FairProducts.GraphLemmas.{among_postponed, not_true, target_of}
use Rattle.ps_tableau_product.proofs.FairProducts.GrowingRows.{all_reached, row_low}
use Rattle.ps_tableau_product.proofs.TableauStates.StateLemmas.{cover_held}

-- ## Links of the stored graph

pub passage_of : (g : GraphData) (v k w : ℕ) → (graph_of g).target v k ≡ Some w →
    (x : Passage) × (slice_get (passage_row g.rows v) k ≡ Some x) × (x.to ≡ w)
passage_of g v k w e = target_of (λ (x : Passage). x.to) (slice_get (passage_row g.rows v) k) w e

abbrev model_vertex : ProductVertex → ModelVertex
model_vertex w = record { latches = w.latches; state = w.state }

module _ {s : Scene} {d : DraftData} (x : IsExplored s d (length d.vertices))
    (all : length d.states.sets ≤ length d.states.edges) where
  abbrev b : Board
  b = d.states.board

  abbrev g : GraphData
  g = record { board = b; rows = d.rows; propositions = s.inputs }

  abbrev t : Tableau
  t = tableau_in d.states

  abbrev vertex : ℕ → ModelVertex
  vertex v = model_vertex (get_or d.vertices v (first_of s))

  states : AreStates d.states
  states = x.are_fit.states

  are_states : AreStatesOf b d.states.sets d.states.edges
  are_states = record { exact = λ q lt. states.exact q (omega (arith, lt, all)) }

  vertex_low : (v : ℕ) (w : ProductVertex) → slice_get d.vertices v ≡ Some w → v < length d.rows
  vertex_low v w at = omega (arith, slice_get_within d.vertices v w at, x.rows_each)

  vertex_there : (v : ℕ) → v < length d.rows → slice_get d.vertices v ≡ Some (get_or d.vertices v (first_of s))
  vertex_there v lt = slice_get-get_or d.vertices v (first_of s) (omega (arith, lt, x.rows_each))

  vertex_is : (v : ℕ) (w : ProductVertex) → slice_get d.vertices v ≡ Some w → vertex v ≡ model_vertex w
  vertex_is v w at = ap model_vertex (get_or_from_slice_get d.vertices v w (first_of s) at)

  row_of : (v : ℕ) (w : ProductVertex) → slice_get d.vertices v ≡ Some w →
      IsRow s d.states d.vertices w (passage_row d.rows v)
  row_of v w at = x.explored v w (slice_get_within d.vertices v w at) at

  covered : (v : ℕ) (w : ProductVertex) → slice_get d.vertices v ≡ Some w → w.state < length d.states.edges
  covered v w at = x.have_covers v w (slice_get_within d.vertices v w at) at

  -- ## Edges

  -- an edge of the product for a stored one
  record IsRight (w : ProductVertex) (y : Passage) (e : ModelEdge) : Type 0 where
    begins : begins_at e ≡ model_vertex w
    reads : e.moment.inputs ≡ bits_at s.inputs y.letter
    cover_is : e.cover ≡ cover_of b y.cover
    is_edge : IsModelEdge s.names s.circuit t e (vertex y.to)

  right : (v k : ℕ) (w : ProductVertex) (y : Passage) → slice_get d.vertices v ≡ Some w →
      slice_get (passage_row d.rows v) k ≡ Some y → (e : ModelEdge) × IsRight w y e
  right v k w y at there =
      let l = (row_of v w at).lead k y there in
      let p = l.is_passage in
      let e : ModelEdge = record {
        moment = moment_of w.latches (bits_at s.inputs y.letter) p.outputs;
        letter = p.whole;
        state = w.state;
        cover = cover_of b y.cover;
      } in
      let goes : IsModelEdge s.names s.circuit t e (model_vertex l.to) = record {
        step = record {
          steps = p.steps;
          is_letter = p.is_letter;
          from = (x.are_fit.each v w at).state;
          cover = in_map (cover_of b) (covers_at d.states w) y.cover p.known;
          serves = p.serves;
        };
        to = slice_get_within d.states.sets l.to.state y.cover.next p.to;
        next = ap (formulas_in b) (get_or_from_slice_get d.states.sets l.to.state y.cover.next 0 p.to);
      } in (
        e,
        record {
          begins = refl;
          reads = refl;
          cover_is = refl;
          is_edge = subst (IsModelEdge s.names s.circuit t e) (sym (vertex_is y.to l.to l.stands)) goes;
        },
      )

  record Full (v k : ℕ) : Type 0 where
    edge : ModelEdge
    is : (w : ProductVertex) (y : Passage) → slice_get d.vertices v ≡ Some w →
        slice_get (passage_row d.rows v) k ≡ Some y → IsRight w y edge

  full : (v k : ℕ) → Full v k
  full v k = elim (cases_lt v (length d.rows)) [
    | inl low ↦ elim (cases_lt k (length (passage_row d.rows v))) [
      | inl inside ↦
          let w = get_or d.vertices v (first_of s) in
          let y = get_or (passage_row d.rows v) k no_passage in
          let at = vertex_there v low in
          let there : slice_get (passage_row d.rows v) k ≡ Some y =
          slice_get-get_or (passage_row d.rows v) k no_passage inside in
          let r = right v k w y at there in
          record {
            edge = r.0;
            is = λ w' y' at' there'.
                let one : w ≡ w' = some_same w w' (sym at ∙ at') in
                let other : y ≡ y' = some_same y y' (sym there ∙ there') in
                subst (λ (z : Passage). IsRight w' z r.0) other
                (subst (λ (u : ProductVertex). IsRight u y r.0) one r.1);
          }
      | inr outside ↦ record {
        edge = no_edge;
        is = λ w' y' at' there'. absurd (omega (arith, outside, slice_get_within (passage_row d.rows v) k y' there'));
      }
    ]
    | inr high ↦ record {
      edge = no_edge;
      is = λ w' y' at' there'. absurd (omega (arith, high, vertex_low v w' at'));
    }
  ]

  abbrev p : ProductGraph
  p = record { graph = graph_of g; marks = marks_of g; vertex = vertex; edge = λ v k. (full v k).edge }

  -- what an edge of the graph stands for
  record Stands (e : graph.Edge) (w : ℕ) : Type 0 where
    from : ProductVertex
    at : slice_get d.vertices e.vertex ≡ Some from
    passage : Passage
    there : slice_get (passage_row d.rows e.vertex) e.slot ≡ Some passage
    leads : passage.to ≡ w
    is : IsRight from passage (edge_at p e)

  stands : (e : graph.Edge) (w : ℕ) → IsEdge (graph_of g) e w → Stands e w
  stands e w is =
      let y = passage_of g e.vertex e.slot w is.target in
      let from = get_or d.vertices e.vertex (first_of s) in
      let at = vertex_there e.vertex is.from in
      record {
        from = from;
        at = at;
        passage = y.0;
        there = y.1;
        leads = y.2;
        is = (full e.vertex e.slot).is from y.0 at y.1;
      }

  to_low : (v k : ℕ) (w : ProductVertex) (y : Passage) → slice_get d.vertices v ≡ Some w →
      slice_get (passage_row d.rows v) k ≡ Some y → y.to < length d.rows
  to_low v k w y at there = let l = (row_of v w at).lead k y there in vertex_low y.to l.to l.stands

  stays : (v w : ℕ) → Link (graph_of g) v w → w < length d.rows
  stays v w link =
      let z = stands (record { vertex = v; slot = link.place }) w
      (record { from = link.from; at = link.at; target = link.target }) in
      subst (λ (n : ℕ). n < length d.rows) z.leads (to_low v link.place z.from z.passage z.at z.there)

  sound : (e : graph.Edge) (w : ℕ) → IsEdge (graph_of g) e w → IsOfProduct s.names s.circuit t p e w
  sound e w is =
      let z = stands e w is in
      record {
        begins = z.is.begins ∙ sym (vertex_is e.vertex z.from z.at);
        is_edge = subst (λ (n : ℕ). IsModelEdge s.names s.circuit t (edge_at p e) (vertex n)) z.leads z.is.is_edge;
      }

  link_there : (v k : ℕ) (y : Passage) → v < length d.rows → slice_get (passage_row d.rows v) k ≡ Some y →
      IsEdge (graph_of g) (record { vertex = v; slot = k }) y.to
  link_there v k y lt there = record {
    from = lt;
    at = slice_get_within (passage_row d.rows v) k y there;
    target = ap (option_map (λ (z : Passage). z.to)) there;
  }

  complete : (v : ℕ) (e : ModelEdge) (latches : List Bool) → v < length d.rows → begins_at e ≡ vertex v →
      IsCoveredStep s.names s.circuit t e latches → HasLike p v e latches
  complete v e latches lt begins step =
      let w = get_or d.vertices v (first_of s) in
      let at = vertex_there v lt in
      let latches_at : e.moment.latches ≡ w.latches = ap (λ (u : ModelVertex). u.latches) begins in
      let state_at : e.state ≡ w.state = ap (λ (u : ModelVertex). u.state) begins in
      let among : Contains (map (cover_of b) (covers_at d.states w)) e.cover =
      subst (λ (q : ℕ). Contains (map (cover_of b) (edges_of_state d.states.edges q)) e.cover) state_at step.cover in
      let y = from_map (cover_of b) (covers_at d.states w) e.cover among in
      let i = y.1.0 in
      let inside : i < length (covers_at d.states w) = y.1.1 in
      let here : slice_get (covers_at d.states w) i ≡ Some y.0 =
      slice_get-get_or (covers_at d.states w) i y.0 inside ∙ ap (λ (z : Edge). Some z) y.1.2 in
      let serves = subst (λ (c : Cover). c.guard e.letter ≡ true) (sym y.2) step.serves in
      let h = (row_of v w at).whole i y.0 inside here e.moment e.letter latches latches_at step.steps step.is_letter
      serves in
      let r = (full v h.place).is w h.passage at h.there in
      record {
        slot = h.place;
        to = h.passage.to;
        is_edge = link_there v h.place h.passage lt h.there;
        cover = r.cover_is ∙ ap (cover_of b) h.cover_is ∙ y.2;
        latches = ap (λ (u : ModelVertex). u.latches) (vertex_is h.passage.to h.to h.stands) ∙ h.latches_are;
      }

  -- ## Marks

  held_at : (v k : ℕ) (w : ProductVertex) (y : Passage) → slice_get d.vertices v ≡ Some w →
      slice_get (passage_row d.rows v) k ≡ Some y → IsEdgeOf b y.cover
  held_at v k w y at there =
      let l = (row_of v w at).lead k y there in
      cover_held states w.state (covered v w at) y.cover l.is_passage.known

  marked : (e : graph.Edge) (w mark : ℕ) (until : NormalFormula) → IsEdge (graph_of g) e w →
      slice_get t.untils mark ≡ Some until →
      ((marks_of g).has e.vertex e.slot mark ≡ true) ↔ (Contains (edge_at p e).cover.postponed until → ⊥)
  marked e w mark until is at =
      let z = stands e w is in
      let untils = b.untils.items in
      let low : mark < length untils =
      omega (arith, slice_get_within t.untils mark until at, length-map untils (normal_formula_at b.formulas)) in
      let u = get_or untils mark 0 in
      let known : Contains untils u = (mark, low, get_or_default untils mark u 0 low) in
      let until_is : normal_formula_at b.formulas u ≡ until =
      sym (get_or-map (normal_formula_at b.formulas) untils mark 0 until low)
      ∙ get_or_from_slice_get t.untils mark until until at in
      let held = held_at e.vertex e.slot z.from z.passage z.at z.there in
      let passage_is : passage_at d.rows e.vertex e.slot ≡ z.passage =
      get_or_from_slice_get (passage_row d.rows e.vertex) e.slot z.passage no_passage z.there in
      let told = among_postponed states.board z.passage.cover u held known in
      let Q = Contains (formulas_in b z.passage.cover.postponed) (normal_formula_at b.formulas u) in
      let base = not_true Q (is_among u (indices_in b.sets z.passage.cover.postponed)) told in
      let at_passage =
      subst (λ (y : Passage). (not (is_among u (indices_in b.sets y.cover.postponed)) ≡ true) ↔ (Q → ⊥))
      (sym passage_is) base in
      let at_until = subst (λ (f : NormalFormula).
      (not (is_among u (indices_in b.sets (passage_at d.rows e.vertex e.slot).cover.postponed)) ≡ true)
      ↔ (Contains (formulas_in b z.passage.cover.postponed) f → ⊥)) until_is at_passage in
      subst (λ (c : Cover).
      (not (is_among u (indices_in b.sets (passage_at d.rows e.vertex e.slot).cover.postponed)) ≡ true)
      ↔ (Contains c.postponed until → ⊥)) (sym z.is.cover_is) at_until

  some : 0 < length d.rows
  some = vertex_low 0 (first_of s) x.first

  is_product : IsProductGraph s.names s.circuit t (start_vertex s.circuit 0) p
  is_product = record {
    some = some;
    first = vertex_is 0 (first_of s) x.first;
    stays = stays;
    sound = sound;
    complete = complete;
    one_each = sym (length-map b.untils.items (normal_formula_at b.formulas));
    marked = marked;
  }

  pub model_graph : (f : Formula) → IsTableauOf b f → IsModelGraph s.names s.circuit f g
  model_graph f is_of = record {
    tableau_is = t;
    is_for = is_tableau_for are_states f is_of x.initial;
    vertex = vertex;
    edge = λ v k. (full v k).edge;
    is_product = is_product;
    reads = λ e w is.
        let z = stands e w is in
        z.is.reads ∙ ap (λ (y : Passage). bits_at s.inputs y.letter)
        (sym (get_or_from_slice_get (passage_row d.rows e.vertex) e.slot z.passage no_passage z.there));
  }

  pub is_stored : ((i p : ℕ) → i < length s.inputs → get_or s.inputs i p < 64) → IsStored g
  is_stored named = record {
    board_is = states.board;
    stays = λ v k y there.
        let lt = row_low d.rows v k y there in
        to_low v k (get_or d.vertices v (first_of s)) y (vertex_there v lt) there;
    held = λ v k y there.
        let lt = row_low d.rows v k y there in
        held_at v k (get_or d.vertices v (first_of s)) y (vertex_there v lt) there;
    named = λ i p lt. named i p lt;
    reached =
        all_reached (λ (y : Passage). y.to) d.rows (λ v positive lt. x.led v positive (omega (arith, lt, x.rows_each)));
  }
