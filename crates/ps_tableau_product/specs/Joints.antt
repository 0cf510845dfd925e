-- The product of an automaton and a tableau. Both read one word; the automaton reads each letter by the function
-- `read`. - `JointProduct`: a graph with marks, and what its vertices and edges stand for
-- - `IsJointProduct a read few t p`: p has the first vertex, and edges of the product; each step from one of p's
--   vertices, with a cover that serves for its letter, has an edge like it in p
-- - `capped p d`, `capped_marks p d`: the graph without edges of priorities greater than d; a further mark stands for
--   the priority d
use Rattle.std.specs.Prelude.{◌≡◌, ◌<◌, ◌↔◌, ℕ, ◌+◌, Contains, IsTrue, List, None, Some, if◌then◌else◌, length, nat_eq}
use Rattle.std.specs.Prelude.{nat_le, nat_lt, slice_get, slice_index, true}
use Rattle.ps_components.specs.Graphs.{Digraph, LinksStayWithin}
use Rattle.ps_diagram.specs.Letters.{letter_of}
use Rattle.ps_fairness.specs.Marks.{IsEdge, Marks}
use Rattle.ps_fairness.specs.declared.edge.Edge.{Edge}
use Rattle.ps_formula.specs.NormalForms.{NormalFormula}
use Rattle.ps_label.specs.Truth.{is_in}
use Rattle.ps_tableau.specs.Covers.{Cover}
use Rattle.ps_tableau.specs.Runs.{Tableau}
use Rattle.ps_automaton.specs.Autos.{Auto}

-- ## Letters

-- the letter whose proposition k has the bit of the proposition at the index k in the list
abbrev pub read_by : List ℕ → ℕ → ℕ
read_by places letter = letter_of (length places) (λ k. is_in (slice_index places k) letter)

-- ## The product

pub record JointVertex : Type 0 where
  pub own : ℕ
  pub state : ℕ

-- a letter, the priority of the automaton's step, and a cover
pub record JointStep : Type 0 where
  pub letter : ℕ
  pub priority : ℕ
  pub cover : Cover

pub record JointProduct : Type 0 where
  pub graph : Digraph
  pub marks : Marks
  pub vertex : ℕ → JointVertex
  -- the edge in a slot of a vertex
  pub edge : ℕ → ℕ → JointStep

abbrev pub joint_at : JointProduct → Edge → JointStep
joint_at p e = p.edge e.vertex e.slot

-- a step of the automaton from v to w, with a cover that serves for its letter, and whose next obligations are those of
-- the state of w
pub record IsJoint (a : Auto) (read : ℕ → ℕ) (few : ℕ) (t : Tableau) (v : JointVertex) (x : JointStep)
    (w : JointVertex) : Type 0 where
  pub low : x.letter < few
  pub own : w.own ≡ a.next v.own (read x.letter)
  pub priority : x.priority ≡ a.priority v.own (read x.letter)
  pub from : v.state < t.count
  pub cover : Contains (t.covers v.state) x.cover
  pub serves : IsTrue (x.cover.guard x.letter)
  pub to : w.state < t.count
  pub next : t.obligations w.state ≡ x.cover.next

-- some edge from v has the cover, and the priority and the target of the automaton's step
pub record HasJoint (a : Auto) (read : ℕ → ℕ) (p : JointProduct) (v letter : ℕ) (cover : Cover) : Type 0 where
  pub slot : ℕ
  pub to : ℕ
  pub is_edge : IsEdge p.graph (record { vertex = v; slot = slot }) to
  pub cover_is : (p.edge v slot).cover ≡ cover
  pub priority : (p.edge v slot).priority ≡ a.priority (p.vertex v).own (read letter)
  pub own : (p.vertex to).own ≡ a.next (p.vertex v).own (read letter)

pub record IsJointProduct (a : Auto) (read : ℕ → ℕ) (few : ℕ) (t : Tableau) (p : JointProduct) : Type 0 where
  pub some : 0 < p.graph.count
  pub first : p.vertex 0 ≡ record { own = a.start; state = 0 }
  pub stays : LinksStayWithin p.graph
  pub sound : (e : Edge) (w : ℕ) → IsEdge p.graph e w →
      IsJoint a read few t (p.vertex e.vertex) (joint_at p e) (p.vertex w)
  pub complete : (v letter : ℕ) (cover : Cover) → v < p.graph.count → letter < few →
      Contains (t.covers (p.vertex v).state) cover → IsTrue (cover.guard letter) → HasJoint a read p v letter cover
  -- the tableau's untils are the marks; an edge bears the marks of those that it does not postpone
  pub one_each : p.marks.count ≡ length t.untils
  pub marked : (e : Edge) (w mark : ℕ) (until : NormalFormula) → IsEdge p.graph e w →
      slice_get t.untils mark ≡ Some until →
      (p.marks.has e.vertex e.slot mark ≡ true) ↔ (¬ Contains (joint_at p e).cover.postponed until)

-- ## Priorities

abbrev pub capped : JointProduct → ℕ → Digraph
capped p d = record {
  count = p.graph.count;
  degree = p.graph.degree;
  target = λ v k. if nat_le (p.edge v k).priority d then p.graph.target v k else None;
}

abbrev pub capped_marks : JointProduct → ℕ → Marks
capped_marks p d = record {
  count = p.marks.count + 1;
  has = λ v k mark.
      if nat_lt mark p.marks.count then p.marks.has v k mark else nat_eq (p.edge v k).priority d;
}
