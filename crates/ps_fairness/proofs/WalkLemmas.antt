-- Walks along the edges of a graph.
-- - `fair_by`: a closed walk that has the edges of a full component is a fair cycle
-- - `none_fair`: if each component lacks a mark or has no edge, no walk is a fair cycle
use Rattle.std.proofs.Common.{◌≡◌, ℕ, zero, suc, ◌<◌, ◌≤◌, inl, inr, List, [], ◌∷◌, ◌++◌, length, slice_get, Some}
use Rattle.std.proofs.Common.{refl, sym, ap, subst, ◌∙◌, arith, append_assoc}
use Rattle.std.proofs.lemmas.Bool.{cases_lt}
use Rattle.std.proofs.lemmas.List.{append-nil}
use Rattle.ps_components.specs.ComponentLists.{AreAllMet, AreComponents, ComponentsData, IsIn}
use Rattle.ps_components.specs.Graphs.{Digraph, Link}
use Rattle.ps_fairness.specs.Inner.Inside.{AreFull, GoesOnTo, IsInside, JoinsAll, LacksOne}
use Rattle.ps_fairness.specs.Marks.{Marks, IsEdge, IsFairCycle, Leads}
use Rattle.ps_fairness.specs.declared.edge.Edge.{Edge}
use Rattle.ps_fairness.proofs.InsideLemmas.{kept, one_number}

-- ## Longer walks

pub Leads-append : (g : Digraph) (xs ys : List Edge) (u v w : ℕ) → Leads g xs u v → Leads g ys v w →
    Leads g (xs ++ ys) u w
Leads-append g [] ys u v w there on = rw there on
Leads-append g (e ∷ es) ys u v w (at, (to, is, rest)) on = (at, (to, is, Leads-append g es ys to v w rest on))

pub GoesOnTo-none : {g : Digraph} {v w : ℕ} (walk : List Edge) → v ≡ w → GoesOnTo g v w walk walk
GoesOnTo-none walk same = record { more = []; new_is = sym (append-nil walk); leads = same }

pub GoesOnTo-push : {g : Digraph} {u v w : ℕ} {old new : List Edge} (e : Edge) → GoesOnTo g u v old new →
    e.vertex ≡ v → IsEdge g e w → GoesOnTo g u w old (new ++ e ∷ [])
GoesOnTo-push {g} {u} {v} {w} {old} {new} e h at is = record {
  more = h.more ++ e ∷ [];
  new_is = ap (λ (es : List Edge). es ++ e ∷ []) h.new_is ∙ append_assoc old h.more (e ∷ []);
  leads = Leads-append g h.more (e ∷ []) u v w h.leads (at, (w, is, refl));
}

pub Leads-more : (u : ℕ) {g : Digraph} {v w : ℕ} {old new : List Edge} → Leads g old u v → GoesOnTo g v w old new →
    Leads g new u w
Leads-more u {g} {v} {w} {old} there h = rw h.new_is (Leads-append g old h.more u v w there h.leads)

pub kept_more : {g : Digraph} {v w : ℕ} {old new : List Edge} → GoesOnTo g v w old new → (i : ℕ) (e : Edge) →
    slice_get old i ≡ Some e → slice_get new i ≡ Some e
kept_more {old} h i e at = rw h.new_is (kept old h.more i e at)

-- an edge leads to one vertex
pub one_end : {g : Digraph} {e : Edge} {v w : ℕ} → IsEdge g e v → IsEdge g e w → v ≡ w
one_end h k = cc (h.target, k.target)

pub fair_by : {g : Digraph} {marks : Marks} {c : ComponentsData} {number : ℕ} {edges walk : List Edge} →
    AreFull g marks c number edges → JoinsAll g edges walk → IsFairCycle g marks walk
fair_by full joins = record {
  some = joins.some;
  start = joins.start;
  returns = joins.returns;
  each = λ mark lt. (let on = full.each mark lt in
      let at = joins.each on.at on.edge on.is in
      record { at = at.0; edge = on.edge; is = at.1; has = on.bears lt });
}

-- ## Closed walks stay within a component

link_of : {g : Digraph} (e : Edge) (w : ℕ) → IsEdge g e w → Link g e.vertex w
link_of e w is = record { from = is.from; place = e.slot; at = is.at; target = is.target }

module _ {g : Digraph} {c : ComponentsData} (a : AreComponents g c) where
  walk_falls : (walk : List Edge) (v w k : ℕ) → Leads g walk v w → IsIn c v k → (m : ℕ) × IsIn c w m × (m ≤ k)
  walk_falls [] v w k same h = (k, rw same at h, omega arith)
  walk_falls (e ∷ es) v w k (at, (u, is, rest)) h =
      let here : IsIn c e.vertex k = rw at h in
      let m = a.falls e.vertex k u here (link_of e u is) in
      let n = walk_falls es u w m.0 rest m.1 in
      (n.0, n.1, omega (arith, n.2, m.2))

  walk_inside : (walk : List Edge) (v w k : ℕ) → Leads g walk v w → IsIn c v k → IsIn c w k → (i : ℕ) (e : Edge) →
      slice_get walk i ≡ Some e → IsInside g c k e
  walk_inside [] v w k leads here there i e h = cc
  walk_inside (f ∷ fs) v w k (at, (u, is, rest)) here there i e h =
      let from : IsIn c f.vertex k = rw at here in
      let m = a.falls f.vertex k u from (link_of f u is) in
      let n = walk_falls fs u w m.0 rest m.1 in
      let same : m.0 ≡ k = omega (arith, m.2, n.2, one_number c w n.0 k n.1 there) in
      let to : IsIn c u k = rw same at m.1 in
      go i h (record { to = u; edge = is; here = from; there = to }) (walk_inside fs u w k rest to there)
    where
      go : (i : ℕ) → slice_get (f ∷ fs) i ≡ Some e → IsInside g c k f
          → ((j : ℕ) (d : Edge) → slice_get fs j ≡ Some d → IsInside g c k d) → IsInside g c k e
      go zero first inside rest = (let same : f ≡ e = cc in rw same at inside)
      go (suc j) later inside rest = rest j e later

  pub none_fair : {marks : Marks} → AreAllMet g c → ((number : ℕ) → number < length c.order → LacksOne g marks c number) →
      (walk : List Edge) → IsFairCycle g marks walk → ⊥
  none_fair met lacks [] fair = absurd (let none = fair.some in omega arith)
  none_fair {marks} met lacks (e ∷ es) fair =
      let leads = fair.returns in
      let number = met e.vertex leads.1.1.from in
      let at : IsIn c fair.start number.0 = subst (λ (v : ℕ). IsIn c v number.0) leads.0 number.1 in
      let inside = walk_inside (e ∷ es) fair.start fair.start number.0 leads at at in
      let lack = lacks number.0 (a.below e.vertex number.0 number.1) in
      elim (cases_lt lack.mark marks.count) [
        | inl lt ↦
            let on = fair.each lack.mark lt in
            lack.none on.edge (record { inside = inside on.at on.edge on.is; bears = λ _. on.has })
        | inr le ↦ lack.none e (record { inside = inside 0 e refl; bears = λ lt. absurd (omega arith) })
      ]
