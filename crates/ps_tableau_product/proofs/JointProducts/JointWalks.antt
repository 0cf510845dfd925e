-- Walks in the product of an automaton and a tableau, among the edges of small priorities.
-- - `uncapped`: a walk among these edges is a walk in the product
-- - `behind_walk`, `greatest_on_walk`: the automaton's state behind a walk's letters, and their greatest priority
use Rattle.std.proofs.Common.{◌≡◌, ℕ, zero, suc, ◌<◌, ◌≤◌, Bool, true, false, List, [], ◌∷◌, length, map}
use Rattle.std.proofs.Common.{get_or}
use Rattle.std.proofs.Common.{None, Option, Some, refl, sym, ap, subst, ◌∙◌, arith, cond}
use Rattle.std.specs.Prelude.{slice_get}
use Rattle.std.proofs.lemmas.Bool.{eqb-true, le-ltb, leb-true}
use Rattle.ps_components.specs.Graphs.{Digraph}
use Rattle.ps_fairness.specs.Marks.{IsEdge, IsMarked, Leads}
use Rattle.ps_fairness.specs.declared.edge.Edge.{Edge}
use Rattle.ps_automaton.specs.Autos.{Auto, greatest_along, state_behind}
use Rattle.ps_tableau.specs.Runs.{Tableau}
use Rattle.ps_tableau_product.specs.Joints.{IsJointProduct, JointProduct, capped, capped_marks, joint_at}

-- an edge that is left has a small priority
left : (b : Bool) (o : Option ℕ) (u : ℕ) → cond b o None ≡ Some u → (b ≡ true) × (o ≡ Some u)
left true o u e = (refl, e)
left false o u e = absurd (cc)

abbrev pub joint_letters : JointProduct → List Edge → List ℕ
joint_letters p es = map (λ (e : Edge). (joint_at p e).letter) es

abbrev pub joint_reads : JointProduct → (ℕ → ℕ) → List Edge → List ℕ
joint_reads p read es = map read (joint_letters p es)

-- each edge of a walk leads to some vertex
pub edge_on : (g : Digraph) (v w : ℕ) (es : List Edge) (k : ℕ) (d : Edge) → Leads g es v w → k < length es →
    (u : ℕ) × IsEdge g (get_or es k d) u
edge_on g v w [] k d leads low = absurd (omega arith)
edge_on g v w (e ∷ es) zero d (at, rest) low = (rest.0, rest.1)
edge_on g v w (e ∷ es) (suc k) d (at, rest) low = edge_on g rest.0 w es k d rest.2 (omega arith)

-- the first edge of a walk begins at its start, which is a vertex
pub first_on : (g : Digraph) (v w : ℕ) (es : List Edge) (d : Edge) → 0 < length es → Leads g es v w →
    ((get_or es 0 d).vertex ≡ v) × ((get_or es 0 d).vertex < g.count)
first_on g v w [] d some leads = absurd (omega arith)
first_on g v w (e ∷ es) d some (at, rest) = (at, rest.1.from)

-- some edge of a fair cycle has the priority that the last mark stands for
pub at_cap : (p : JointProduct) (d : ℕ) (walk : List Edge) (m : IsMarked (capped_marks p d) walk p.marks.count) →
    (joint_at p m.edge).priority ≡ d
at_cap p d walk m = eqb-true (joint_at p m.edge).priority d
    (rw (le-ltb p.marks.count p.marks.count (omega arith)) at m.has)

module _ (p : JointProduct) (d : ℕ) where
  pub uncapped_edge : (e : Edge) (w : ℕ) → IsEdge (capped p d) e w → IsEdge p.graph e w × ((joint_at p e).priority ≤ d)
  uncapped_edge e w is =
      let l = left _ (p.graph.target e.vertex e.slot) w is.target in
      (record { from = is.from; at = is.at; target = l.1 }, leb-true (joint_at p e).priority d l.0)

  pub uncapped : (v w : ℕ) (es : List Edge) → Leads (capped p d) es v w → Leads p.graph es v w
  uncapped v w [] leads = leads
  uncapped v w (e ∷ es) (at, rest) =
      (at, (rest.0, (uncapped_edge e rest.0 rest.1).0, uncapped rest.0 w es rest.2))

module _ {a : Auto} {read : ℕ → ℕ} {few : ℕ} {t : Tableau} {p : JointProduct} (is_joint : IsJointProduct a read few t p)
  where
    -- the automaton goes from state to state along a walk
    pub behind_walk : (v w : ℕ) (es : List Edge) → Leads p.graph es v w →
        state_behind a (p.vertex v).own (joint_reads p read es) ≡ (p.vertex w).own
    behind_walk v w [] leads = ap (λ (u : ℕ). (p.vertex u).own) leads
    behind_walk v w (e ∷ es) (at, rest) =
        let u = rest.0 in
        let is = is_joint.sound e u rest.1 in
        let here : a.next (p.vertex v).own (read (joint_at p e).letter) ≡ (p.vertex u).own =
        ap (λ (k : ℕ). a.next (p.vertex k).own (read (joint_at p e).letter)) (sym at) ∙ sym is.own in
        ap (λ (q : ℕ). state_behind a q (joint_reads p read es)) here ∙ behind_walk u w es rest.2

    priority_here : (v u : ℕ) (e : Edge) → e.vertex ≡ v → IsEdge p.graph e u →
        a.priority (p.vertex v).own (read (joint_at p e).letter) ≡ (joint_at p e).priority
    priority_here v u e at is =
        ap (λ (k : ℕ). a.priority (p.vertex k).own (read (joint_at p e).letter)) (sym at)
        ∙ sym (is_joint.sound e u is).priority

    next_here : (v u : ℕ) (e : Edge) → e.vertex ≡ v → IsEdge p.graph e u →
        a.next (p.vertex v).own (read (joint_at p e).letter) ≡ (p.vertex u).own
    next_here v u e at is =
        ap (λ (k : ℕ). a.next (p.vertex k).own (read (joint_at p e).letter)) (sym at)
        ∙ sym (is_joint.sound e u is).own

    -- no priority along a walk among the edges of small priorities is greater
    pub walk_is_low : (d v w : ℕ) (es : List Edge) → Leads (capped p d) es v w →
        greatest_along a (p.vertex v).own (joint_reads p read es) ≤ d
    walk_is_low d v w [] leads = omega arith
    walk_is_low d v w (e ∷ es) (at, rest) =
        let u = rest.0 in
        let is = uncapped_edge p d e u rest.1 in
        let first = priority_here v u e at is.0 in
        let later : greatest_along a (a.next (p.vertex v).own (read (joint_at p e).letter)) (joint_reads p read es) ≤ d
        =
        subst (λ (q : ℕ). greatest_along a q (joint_reads p read es) ≤ d) (sym (next_here v u e at is.0))
        (walk_is_low d u w es rest.2) in
        let low = is.1 in
        omega arith

    -- the priority of an edge of a walk is at most the greatest along it
    pub walk_is_high : (v w : ℕ) (es : List Edge) (k : ℕ) (x : Edge) → Leads p.graph es v w →
        slice_get es k ≡ Some x → (joint_at p x).priority ≤ greatest_along a (p.vertex v).own (joint_reads p read es)
    walk_is_high v w [] k x leads is = absurd (cc)
    walk_is_high v w (e ∷ es) zero x (at, rest) is =
        let same : e ≡ x = search (arith) in
        let first = priority_here v rest.0 e at rest.1 in
        let one : (joint_at p e).priority ≡ (joint_at p x).priority = ap (λ (y : Edge). (joint_at p y).priority) same in
        omega arith
    walk_is_high v w (e ∷ es) (suc k) x (at, rest) is =
        let u = rest.0 in
        let later : (joint_at p x).priority ≤
        greatest_along a (a.next (p.vertex v).own (read (joint_at p e).letter)) (joint_reads p read es) =
        subst (λ (q : ℕ). (joint_at p x).priority ≤ greatest_along a q (joint_reads p read es))
        (sym (next_here v u e at rest.1)) (walk_is_high u w es k x rest.2 is) in
        omega arith
