-- Walks in the stored product with an automaton, whose letters are looked up, and what is told of its fair cycles.
use Rattle.std.proofs.Common.{◌≡◌, ℕ, ◌<◌, Bool, false, true, List}
use Rattle.std.proofs.Common.{All, None}
use Rattle.std.proofs.Common.{Option, Some, get_or, length, sym, ap, subst, ◌∙◌, arith}
use Rattle.std.specs.Prelude.{Contains, MatchOption, is_some, slice_get}
use Rattle.std.proofs.lemmas.List.{get_or_default}
use Rattle.std.proofs.lemmas.Option.{get_or_from_slice_get, slice_get_within}
use Rattle.ps_fairness.specs.Marks.{IsEdge, IsFairCycle, Leads}
use Rattle.ps_fairness.specs.declared.edge.Edge.{Edge}
use Rattle.ps_automaton.specs.Chains.{is_even}
use Rattle.ps_tableau_product.specs.JointGraphs.{IsJointSlot, JointData, capped_graph, joint_edge, joint_graph}
use Rattle.ps_tableau_product.specs.JointGraphs.{joint_marks, joint_product, joint_row, marks_at, no_joint}
use Rattle.ps_tableau_product.specs.JointGraphs.{no_joint_vertex}
use Rattle.ps_tableau_product.specs.declared.joint.JointEdge.{JointEdge}
use Rattle.ps_tableau_product.proofs.FairProducts.GraphLemmas.{target_of}
use Rattle.ps_tableau_product.proofs.JointProducts.JointWalks.{at_cap, edge_on, uncapped, uncapped_edge}
use Rattle.ps_models.specs.Inner.Comparing.{HasNoCycle, IsLassoAt, IsLassoIf, IsLassoTold}
use Rattle.ps_models.specs.declared.agreement.Lasso.{Lasso}

pub joint_slots : (g : JointData) (v w : ℕ) (es : List Edge) → Leads (joint_graph g) es v w → All (IsJointSlot g) es
joint_slots g v w es leads k d lt =
    let on = edge_on (joint_graph g) v w es k d leads lt in
    record { vertex = on.1.from; slot = on.1.at }

-- a walk among the edges of small priorities
pub capped_slots : (g : JointData) (d v w : ℕ) (es : List Edge) → Leads (capped_graph g d) es v w →
    All (IsJointSlot g) es
capped_slots g d v w es leads = joint_slots g v w es (uncapped (joint_product g no_joint_vertex) d v w es leads)

-- ## Fair cycles

pub told_if : (g : JointData) (even : Bool) (d : ℕ) (found : Option Lasso) → is_some found ≡ true →
    IsLassoIf g even d found → IsLassoTold g even found
told_if g even d None some is = absurd (cc)
told_if g even d (Some lasso) some is = (d, is.0, is.1)

pub none_if : (g : JointData) (even : Bool) (d : ℕ) (found : Option Lasso) → is_some found ≡ false →
    IsLassoIf g even d found → is_even d ≡ even → HasNoCycle g d
none_if g even d None none is = is
none_if g even d (Some lasso) none is = absurd (cc)

pub if_even : (g : JointData) (even : Bool) (d : ℕ) (found : Option Lasso) → is_even d ≡ even →
    MatchOption found (HasNoCycle g d) (IsLassoAt g d) → IsLassoIf g even d found
if_even g even d None is told = λ _. told
if_even g even d (Some lasso) is told = (is, told)

-- each priority of an edge is in the list; so if none of those in the list has a fair cycle, no priority has one
pub no_cycle_else : (g : JointData) (even : Bool) (list : List ℕ) →
    ((v k : ℕ) (e : JointEdge) → slice_get (joint_row g.rows v) k ≡ Some e → Contains list e.priority) →
    ((k : ℕ) → k < length list → is_even (get_or list k 0) ≡ even → HasNoCycle g (get_or list k 0)) →
    (d : ℕ) → is_even d ≡ even → HasNoCycle g d
no_cycle_else g even list has none d is walk cycle =
    let p = joint_product g no_joint_vertex in
    let m = cycle.each (joint_marks g).count (omega arith) in
    let within = slice_get_within walk m.at m.edge m.is in
    let same = get_or_from_slice_get walk m.at m.edge m.edge m.is in
    let on = edge_on (capped_graph g d) cycle.start cycle.start walk m.at m.edge cycle.returns within in
    let here : IsEdge (capped_graph g d) m.edge on.0 =
    subst (λ (e : Edge). IsEdge (capped_graph g d) e on.0) same on.1 in
    let edge = (uncapped_edge p d m.edge on.0 here).0 in
    let y =
    target_of (λ (x : JointEdge). x.to) (slice_get (joint_row g.rows m.edge.vertex) m.edge.slot) on.0 edge.target
    in
    let stored : joint_edge g.rows m.edge.vertex m.edge.slot ≡ y.0 =
    get_or_from_slice_get (joint_row g.rows m.edge.vertex) m.edge.slot y.0 no_joint y.1 in
    let priority : y.0.priority ≡ d = ap (λ (x : JointEdge). x.priority) (sym stored) ∙ at_cap p d walk m in
    let there = has m.edge.vertex m.edge.slot y.0 y.1 in
    let at : get_or list there.0 0 ≡ d =
    get_or_default list there.0 0 y.0.priority there.1 ∙ there.2 ∙ priority in
    none there.0 there.1 (ap is_even at ∙ is) walk
    (subst (λ (n : ℕ). IsFairCycle (capped_graph g n) (marks_at g n) walk) (sym at) cycle)
