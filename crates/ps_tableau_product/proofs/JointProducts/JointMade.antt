-- The explored product is the product of the automaton and a tableau.
use Rattle.std.proofs.Common.{◌≡◌, ◌↔◌, ℕ, ◌<◌, ◌≤◌, true, not, length}
use Rattle.std.proofs.Common.{get_or, Some, sym, ap, subst, ◌∙◌, arith}
use Rattle.std.specs.Option.{option_map}
use Rattle.std.specs.Prelude.{IsTrue}
use Rattle.std.specs.List.{Contains, slice_get}
use Rattle.std.proofs.lemmas.List.{get_or_default, length-map, get_or-map}
use Rattle.std.proofs.lemmas.Option.{get_or_from_slice_get, slice_get-get_or, slice_get_within}
use Rattle.ps_automaton.specs.Automata.{auto_of}
use Rattle.ps_automaton.specs.Autos.{Auto}
use Rattle.ps_components.specs.Graphs.{Link}
use Rattle.ps_fairness.specs.Marks.{IsEdge}
use Rattle.ps_fairness.specs.declared.edge.Edge as graph
use Rattle.ps_formula.specs.Formulas.{Formula}
use Rattle.ps_formula.specs.NormalForms.{NormalFormula, normal_formula_at}
use Rattle.ps_hoa.specs.Files.{is_among}
use Rattle.ps_tableau.proofs.CoversOfSets.JoinLemmas.{from_map, in_map}
use Rattle.ps_tableau.specs.Boards.{IsEdgeOf, IsTableauOf, cover_of, formulas_in}
use Rattle.ps_tableau.specs.Covers.{Cover}
use Rattle.ps_tableau.specs.Runs.{Tableau}
use Rattle.ps_tableau.specs.Sets.{indices_in}
use Rattle.ps_tableau.specs.declared.board.Board.{Board}
use Rattle.ps_tableau.specs.declared.edge.Edge.{Edge}
use Rattle.ps_tableau_product.specs.BoardStates.{AreStatesOf}
use Rattle.ps_tableau_product.specs.JointGraphs.{IsJointOf, IsJointStored, JointData, joint_edge, joint_graph}
use Rattle.ps_tableau_product.specs.JointGraphs.{joint_marks}
use Rattle.ps_tableau_product.specs.JointGraphs.{joint_product, joint_row, no_joint, step_in}
use Rattle.ps_tableau_product.specs.Inner.Joining.{IsJointExplored, IsJointRow, JointDraftData, Pairing, joint_covers}
use Rattle.ps_tableau_product.specs.Joints.{HasJoint, IsJoint, IsJointProduct, JointProduct, JointVertex, joint_at}
use Rattle.ps_tableau_product.specs.Joints.{read_by}
use Rattle.ps_tableau_product.specs.Inner.States.{AreStates, tableau_in}
use Rattle.ps_tableau_product.specs.declared.joint.JointEdge.{JointEdge}
use Rattle.ps_tableau_product.proofs.TableauStates.BoardTableaux.{is_tableau_for}
use Rattle.ps_tableau_product.proofs.FairProducts.GraphLemmas.{among_postponed, not_true, target_of}
use Rattle.ps_tableau_product.proofs.FairProducts.GrowingRows.{all_reached, row_low}
use Rattle.ps_tableau_product.proofs.TableauStates.StateLemmas.{cover_held}

abbrev joint_vertex : ℕ × ℕ → JointVertex
joint_vertex v = record { own = v.0; state = v.1 }

module _ {s : Pairing} {d : JointDraftData} (x : IsJointExplored s d (length d.vertices))
    (all : length d.states.sets ≤ length d.states.edges) where
  abbrev b : Board
  b = d.states.board

  abbrev g : JointData
  g = record { board = b; rows = d.rows }

  abbrev t : Tableau
  t = tableau_in d.states

  abbrev a : Auto
  a = auto_of s.own

  abbrev read : ℕ → ℕ
  read = read_by s.places

  abbrev vertex : ℕ → JointVertex
  vertex v = joint_vertex (get_or d.vertices v (0, 0))

  abbrev p : JointProduct
  p = joint_product g vertex

  states : AreStates d.states
  states = x.are_fit.states

  are_states : AreStatesOf b d.states.sets d.states.edges
  are_states = record { exact = λ q lt. states.exact q (omega (arith, lt, all)) }

  vertex_low : (v : ℕ) (w : ℕ × ℕ) → slice_get d.vertices v ≡ Some w → v < length d.rows
  vertex_low v w at = omega (arith, slice_get_within d.vertices v w at, x.rows_each)

  vertex_there : (v : ℕ) → v < length d.rows → slice_get d.vertices v ≡ Some (get_or d.vertices v (0, 0))
  vertex_there v lt = slice_get-get_or d.vertices v (0, 0) (omega (arith, lt, x.rows_each))

  vertex_is : (v : ℕ) (w : ℕ × ℕ) → slice_get d.vertices v ≡ Some w → vertex v ≡ joint_vertex w
  vertex_is v w at = ap joint_vertex (get_or_from_slice_get d.vertices v w (0, 0) at)

  row_of : (v : ℕ) (w : ℕ × ℕ) → slice_get d.vertices v ≡ Some w →
      IsJointRow s d.states d.vertices w (joint_row d.rows v)
  row_of v w at = x.explored v w (slice_get_within d.vertices v w at) at

  covered : (v : ℕ) (w : ℕ × ℕ) → slice_get d.vertices v ≡ Some w → w.1 < length d.states.edges
  covered v w at = x.have_covers v w (slice_get_within d.vertices v w at) at

  -- ## Edges

  -- what an edge of the graph stands for
  record Stands (e : graph.Edge) (w : ℕ) : Type 0 where
    at : slice_get d.vertices e.vertex ≡ Some (get_or d.vertices e.vertex (0, 0))
    passage : JointEdge
    there : slice_get (joint_row d.rows e.vertex) e.slot ≡ Some passage
    leads : passage.to ≡ w
    is : joint_edge d.rows e.vertex e.slot ≡ passage

  stands : (e : graph.Edge) (w : ℕ) → IsEdge (joint_graph g) e w → Stands e w
  stands e w is =
      let y = target_of (λ (x : JointEdge). x.to) (slice_get (joint_row d.rows e.vertex) e.slot) w is.target in
      record {
        at = vertex_there e.vertex is.from;
        passage = y.0;
        there = y.1;
        leads = y.2;
        is = get_or_from_slice_get (joint_row d.rows e.vertex) e.slot y.0 no_joint y.1;
      }

  right : (v k : ℕ) (w : ℕ × ℕ) (y : JointEdge) → slice_get d.vertices v ≡ Some w →
      slice_get (joint_row d.rows v) k ≡ Some y →
      IsJoint a read s.few t (joint_vertex w) (step_in b y) (vertex y.to)
  right v k w y at there =
      let l = (row_of v w at).lead k y there in
      let goes : IsJoint a read s.few t (joint_vertex w) (step_in b y) (joint_vertex l.to) = record {
        low = l.low;
        own = l.own;
        priority = l.priority;
        from = (x.are_fit.each v w at).state;
        cover = in_map (cover_of b) (joint_covers d.states w) y.cover l.known;
        serves = l.serves;
        to = slice_get_within d.states.sets l.to.1 y.cover.next l.next;
        next = ap (formulas_in b) (get_or_from_slice_get d.states.sets l.to.1 y.cover.next 0 l.next);
      } in
      subst (IsJoint a read s.few t (joint_vertex w) (step_in b y)) (sym (vertex_is y.to l.to l.stands)) goes

  sound : (e : graph.Edge) (w : ℕ) → IsEdge (joint_graph g) e w →
      IsJoint a read s.few t (vertex e.vertex) (joint_at p e) (vertex w)
  sound e w is =
      let z = stands e w is in
      let here = right e.vertex e.slot (get_or d.vertices e.vertex (0, 0)) z.passage z.at z.there in
      subst (λ (n : ℕ). IsJoint a read s.few t (vertex e.vertex) (joint_at p e) (vertex n)) z.leads
      (subst (λ (y : JointEdge). IsJoint a read s.few t (vertex e.vertex) (step_in b y) (vertex z.passage.to))
      (sym z.is) here)

  to_low : (v k : ℕ) (y : JointEdge) → v < length d.rows → slice_get (joint_row d.rows v) k ≡ Some y →
      y.to < length d.rows
  to_low v k y lt there =
      let l = (row_of v (get_or d.vertices v (0, 0)) (vertex_there v lt)).lead k y there in
      vertex_low y.to l.to l.stands

  stays : (v w : ℕ) → Link (joint_graph g) v w → w < length d.rows
  stays v w link =
      let z = stands (record { vertex = v; slot = link.place }) w
      (record { from = link.from; at = link.at; target = link.target }) in
      subst (λ (n : ℕ). n < length d.rows) z.leads (to_low v link.place z.passage link.from z.there)

  link_there : (v k : ℕ) (y : JointEdge) → v < length d.rows → slice_get (joint_row d.rows v) k ≡ Some y →
      IsEdge (joint_graph g) (record { vertex = v; slot = k }) y.to
  link_there v k y lt there = record {
    from = lt;
    at = slice_get_within (joint_row d.rows v) k y there;
    target = ap (option_map (λ (z : JointEdge). z.to)) there;
  }

  complete : (v letter : ℕ) (cover : Cover) → v < length d.rows → letter < s.few →
      Contains (t.covers (vertex v).state) cover → IsTrue (cover.guard letter) → HasJoint a read p v letter cover
  complete v letter cover lt low among serves =
      let w = get_or d.vertices v (0, 0) in
      let at = vertex_there v lt in
      let y = from_map (cover_of b) (joint_covers d.states w) cover among in
      let i = y.1.0 in
      let inside : i < length (joint_covers d.states w) = y.1.1 in
      let here : slice_get (joint_covers d.states w) i ≡ Some y.0 =
      slice_get-get_or (joint_covers d.states w) i y.0 inside ∙ ap (λ (z : Edge). Some z) y.1.2 in
      let known = subst (λ (c : Cover). c.guard letter ≡ true) (sym y.2) serves in
      let h = (row_of v w at).whole i y.0 inside here letter low known in
      let is : joint_edge d.rows v h.place ≡ h.passage =
      get_or_from_slice_get (joint_row d.rows v) h.place h.passage no_joint h.there in
      record {
        slot = h.place;
        to = h.passage.to;
        is_edge = link_there v h.place h.passage lt h.there;
        cover_is = ap (λ (z : JointEdge). cover_of b z.cover) is ∙ ap (cover_of b) h.cover_is ∙ y.2;
        priority = ap (λ (z : JointEdge). z.priority) is ∙ h.priority;
        own = ap (λ (u : JointVertex). u.own) (vertex_is h.passage.to h.to h.stands) ∙ h.own;
      }

  -- ## Marks

  held_at : (v k : ℕ) (y : JointEdge) → v < length d.rows → slice_get (joint_row d.rows v) k ≡ Some y →
      IsEdgeOf b y.cover
  held_at v k y lt there =
      let w = get_or d.vertices v (0, 0) in
      let at = vertex_there v lt in
      cover_held states w.1 (covered v w at) y.cover ((row_of v w at).lead k y there).known

  marked : (e : graph.Edge) (w mark : ℕ) (until : NormalFormula) → IsEdge (joint_graph g) e w →
      slice_get t.untils mark ≡ Some until →
      ((joint_marks g).has e.vertex e.slot mark ≡ true) ↔ (Contains (joint_at p e).cover.postponed until → ⊥)
  marked e w mark until is at =
      let z = stands e w is in
      let untils = b.untils.items in
      let low : mark < length untils =
      omega (arith, slice_get_within t.untils mark until at, length-map untils (normal_formula_at b.formulas)) in
      let u = get_or untils mark 0 in
      let known : Contains untils u = (mark, low, get_or_default untils mark u 0 low) in
      let until_is : normal_formula_at b.formulas u ≡ until =
      sym (get_or-map (normal_formula_at b.formulas) untils mark 0 until low)
      ∙ get_or_from_slice_get t.untils mark until until at in
      let cover = (joint_edge d.rows e.vertex e.slot).cover in
      let held : IsEdgeOf b cover = subst (λ (y : JointEdge). IsEdgeOf b y.cover) (sym z.is)
      (held_at e.vertex e.slot z.passage is.from z.there) in
      let told = among_postponed states.board cover u held known in
      let Q = Contains (formulas_in b cover.postponed) (normal_formula_at b.formulas u) in
      subst (λ (f : NormalFormula). (not (is_among u (indices_in b.sets cover.postponed)) ≡ true)
      ↔ (Contains (formulas_in b cover.postponed) f → ⊥)) until_is
      (not_true Q (is_among u (indices_in b.sets cover.postponed)) told)

  some : 0 < length d.rows
  some = vertex_low 0 (s.own.start, 0) x.first

  is_product : IsJointProduct a read s.few t p
  is_product = record {
    some = some;
    first = vertex_is 0 (s.own.start, 0) x.first;
    stays = stays;
    sound = sound;
    complete = complete;
    one_each = sym (length-map b.untils.items (normal_formula_at b.formulas));
    marked = marked;
  }

  pub joint_made : (f : Formula) → IsTableauOf b f → IsJointOf (auto_of s.own) (read_by s.places) s.few f
      (record { board = d.states.board; rows = d.rows })
  joint_made f is_of = record {
    tableau_is = t;
    is_for = is_tableau_for are_states f is_of x.initial;
    vertex = vertex;
    is_product = is_product;
  }

  pub joint_stored : IsJointStored (record { board = d.states.board; rows = d.rows })
  joint_stored = record {
    board_is = states.board;
    stays = λ v k y there. to_low v k y (row_low d.rows v k y there) there;
    held = λ v k y there. held_at v k y (row_low d.rows v k y there) there;
    joined = all_reached (λ (y : JointEdge). y.to) d.rows
        (λ v positive lt. x.led v positive (omega (arith, lt, x.rows_each)));
  }
