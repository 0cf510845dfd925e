-- The edges within a strongly connected component, and the graph that has only these.
-- - `reached_inside`: each vertex of a component can reach all others by edges within the component
-- - `none_at_end`, `none_at_other`: no wanted edge is within the component, if none leads from the vertices that are
--   listed from the component's number on, up to the end of the list or a vertex of another component
use Rattle.std.proofs.Common.{◌≡◌, ℕ, zero, suc, ◌+◌, ◌<◌, ◌≤◌, inl, inr, Bool, true, false, cond, List, [], ◌∷◌, ◌++◌}
use Rattle.std.proofs.Common.{length, get_or, slice_get, Option, None, Some, All, refl, ap, subst, ◌∙◌, arith, below_more}
use Rattle.std.proofs.lemmas.Bool.{cases_order}
use Rattle.std.proofs.lemmas.Option.{slice_get_within, slice_get-get_or, get_or_from_slice_get}
use Rattle.ps_components.specs.ComponentLists.{AreComponents, ComponentsData, IsIn}
use Rattle.ps_components.specs.Graphs.{Digraph, Link, SameOrWay, Way, last, next}
use Rattle.ps_components.specs.Trails.{IsTrail}
use Rattle.ps_components.proofs.Knots.{way_falls}
use Rattle.ps_fairness.specs.Inner.Inside.{AllInside, Bears, IsInside, IsOnOne, IsSlot, IsWalkBack, IsWanted, inner_graph, inner_target, is_number}
use Rattle.ps_fairness.specs.Marks.{Marks}
use Rattle.ps_fairness.specs.declared.edge.Edge.{Edge}

-- ## Entries of lists

-- an entry of a list is an entry of each list that begins with it
pub kept : (xs ys : List Edge) (i : ℕ) (e : Edge) → slice_get xs i ≡ Some e → slice_get (xs ++ ys) i ≡ Some e
kept [] ys i e h = cc
kept (x ∷ xs) ys zero e h = h
kept (x ∷ xs) ys (suc i) e h = kept xs ys i e h

pub at_last : (xs : List Edge) (e : Edge) → slice_get (xs ++ e ∷ []) (length xs) ≡ Some e
at_last [] e = refl
at_last (x ∷ xs) e = at_last xs e

-- the entry of a list that equals another list
pub entry : (xs ys : List ℕ) (i d : ℕ) → xs ≡ ys → i < length xs → slice_get ys i ≡ Some (get_or xs i d)
entry xs ys i d same lt =
    subst (λ (zs : List ℕ). slice_get zs i ≡ Some (get_or xs i d)) same (slice_get-get_or xs i d lt)

-- ## Numbers of components

-- a vertex has the number of at most one component
pub one_number : (c : ComponentsData) (v k m : ℕ) → IsIn c v k → IsIn c v m → k ≡ m
one_number c v k m h j = cc

pub within_numbers : (c : ComponentsData) (v k : ℕ) → IsIn c v k → v < length c.numbers
within_numbers c v k h = slice_get_within c.numbers v (Some k) h

-- ## The graph of a component

number_is : (o : Option ℕ) (k : ℕ) → is_number o k ≡ true → o ≡ Some k
number_is None k e = cc
number_is (Some n) k e = grind arith

pub is_in_true : (c : ComponentsData) (v k : ℕ) → v < length c.numbers → is_number (get_or c.numbers v None) k ≡ true →
    IsIn c v k
is_in_true c v k lt e = slice_get-get_or c.numbers v None lt ∙ ap Some (number_is (get_or c.numbers v None) k e)

number_same : (k : ℕ) → is_number (Some k) k ≡ true
number_same k = grind arith

pub is_in_number : (c : ComponentsData) (v k : ℕ) → IsIn c v k → is_number (get_or c.numbers v None) k ≡ true
is_in_number c v k h =
    ap (λ (o : Option ℕ). is_number o k) (get_or_from_slice_get c.numbers v (Some k) None h) ∙ number_same k

-- the graph of a component has the links of the graph that lead to the component
into : (c : ComponentsData) (k w : ℕ) (o : Option ℕ) → IsIn c w k → o ≡ Some w → inner_target c k o ≡ Some w
into c k w o h e = rw e (let t = is_in_number c w k h in rw t refl)

pub link_inside : (g : Digraph) (c : ComponentsData) (k v w : ℕ) → Link g v w → IsIn c w k →
    Link (inner_graph g c k) v w
link_inside g c k v w l h = record {
  from = l.from;
  place = l.place;
  at = l.at;
  target = into c k w (g.target v l.place) h l.target;
}

outer_target : (c : ComponentsData) (k : ℕ) (o : Option ℕ) (w : ℕ) → inner_target c k o ≡ Some w → o ≡ Some w
outer_target c k None w e = cc
outer_target c k (Some u) w e = go (is_number (get_or c.numbers u None) k) e
  where
    go : (b : Bool) → cond b (Some u) None ≡ Some w → Some u ≡ Some w
    go true e = e
    go false e = cc

pub link_outside : (g : Digraph) (c : ComponentsData) (k v w : ℕ) → Link (inner_graph g c k) v w → Link g v w
link_outside g c k v w l =
    record { from = l.from; place = l.place; at = l.at; target = outer_target c k (g.target v l.place) w l.target }

pub walk_back : (g : Digraph) (c : ComponentsData) (k : ℕ) (trail : List ℕ) (end start : ℕ) →
    IsTrail (inner_graph g c k) trail end start → IsWalkBack g trail
walk_back g c k trail end start t = record {
  some = slice_get_within trail 0 end t.first;
  links = λ i v w at next. link_outside g c k w v (t.links i v w at next);
}

module _ {g : Digraph} {c : ComponentsData} (a : AreComponents g c) (k : ℕ) where
  way_inside : (v w : ℕ) → Way (Link g) v w → IsIn c v k → IsIn c w k → Way (Link (inner_graph g c k)) v w
  way_inside v w (last l) here there = last (link_inside g c k v w l there)
  way_inside v w (next {j = u} l way) here there =
      let m = a.falls v k u here l in
      let n = way_falls a way m.1 in
      let same : m.0 ≡ k = omega (arith, m.2, n.2, one_number c w n.0 k n.1 there) in
      let at : IsIn c u k = rw same at m.1 in
      next (link_inside g c k v u l at) (way_inside u w way at there)

  pub reached_inside : (v w : ℕ) → IsIn c v k → IsIn c w k → SameOrWay (inner_graph g c k) v w
  reached_inside v w here there = elim (a.same v w k here there) [
    | inl same ↦ inl same
    | inr way ↦ inr (way_inside v w way here there)
  ]

-- ## The part of a component in the list of vertices

-- the vertex at the index `end` is in another component, so no vertex behind it is in this component
behind : {g : Digraph} {c : ComponentsData} (a : AreComponents g c) (number end i u v : ℕ) →
    slice_get c.order end ≡ Some u → (IsIn c u number → ⊥) → number ≤ end → slice_get c.order i ≡ Some v →
    IsIn c v number → i < end
behind {c} a number end i u v at not_in le at_v is_in =
    let m = a.ordered end u at in
    let b = a.begins v number is_in in
    elim (cases_order i end) [
      | inl same ↦ absurd (not_in (let e : v ≡ u = cc in rw e at is_in))
      | inr (inl less) ↦ less
      | inr (inr more) ↦
          let top = a.rises end i u v m.0 number more at at_v m.1 is_in in
          elim (cases_order number end) [
            | inl same ↦ absurd (not_in (let e : b.0 ≡ u = cc (b.1) in rw e at b.2))
            | inr (inl less) ↦
                let low = a.rises number end b.0 u number m.0 less b.1 at b.2 m.1 in
                let e : m.0 ≡ number = omega (arith, top, low) in
                absurd (not_in (rw e at m.1))
            | inr (inr beyond) ↦ absurd (omega arith)
          ]
    ]

module _ {g : Digraph} {c : ComponentsData} (a : AreComponents g c) (marks : Marks) (number mark : ℕ) where
  -- no vertex of the list from the index `number` on, up to the index `end`, has a wanted edge
  abbrev LackBefore : ℕ → Type 0
  LackBefore end = (i v : ℕ) → i < end → number ≤ i → slice_get c.order i ≡ Some v → (e : Edge) → e.vertex ≡ v →
      IsWanted g marks c number mark e → ⊥

  none_before : (end : ℕ) → LackBefore end → ((i v : ℕ) → slice_get c.order i ≡ Some v → IsIn c v number → i < end)
      → (e : Edge) → IsWanted g marks c number mark e → ⊥
  none_before end lack before e wanted =
      let here = wanted.inside.here in
      let l = a.listed e.vertex number here in
      lack l.0 e.vertex (before l.0 e.vertex l.1 here) (a.starts l.0 e.vertex number l.1 here) l.1 e refl wanted

  pub none_at_end : (end : ℕ) → LackBefore end → length c.order ≤ end → (e : Edge) → IsWanted g marks c number mark e →
      ⊥
  none_at_end end lack le =
      none_before end lack (λ i v at is_in. let lt = slice_get_within c.order i v at in omega arith)

  pub none_at_other : (end u : ℕ) → LackBefore end → slice_get c.order end ≡ Some u → (IsIn c u number → ⊥) →
      number ≤ end → (e : Edge) → IsWanted g marks c number mark e → ⊥
  none_at_other end u lack at not_in le =
      none_before end lack (λ i v at_v is_in. behind a number end i u v at not_in le at_v is_in)

-- ## Edges within a component

pub slots : (g : Digraph) (c : ComponentsData) (number : ℕ) (edges : List Edge) → AllInside g c number edges →
    All (IsSlot g) edges
slots g c number edges inside k d lt =
    let h = inside k (get_or edges k d) (slice_get-get_or edges k d lt) in
    record { from = h.edge.from; at = h.edge.at }

-- one more edge within the component, which bears the next mark
pub inside_push : (g : Digraph) (c : ComponentsData) (number : ℕ) (edges : List Edge) (e : Edge) →
    AllInside g c number edges → IsInside g c number e → AllInside g c number (edges ++ e ∷ [])
inside_push g c number [] e all here zero f at = (let same : e ≡ f = cc in rw same at here)
inside_push g c number [] e all here (suc i) f at = cc
inside_push g c number (x ∷ xs) e all here zero f at = all zero f at
inside_push g c number (x ∷ xs) e all here (suc i) f at = inside_push g c number xs e (λ j. all (suc j)) here i f at

pub each_push : (marks : Marks) (mark : ℕ) (edges : List Edge) (e : Edge) →
    ((m : ℕ) → m < mark → IsOnOne marks m edges) → Bears marks mark e
    → (m : ℕ) → m < mark + 1 → IsOnOne marks m (edges ++ e ∷ [])
each_push marks mark edges e each bears = below_more _ _
    (λ m lt. let on = each m lt in
    record { at = on.at; edge = on.edge; is = kept edges (e ∷ []) on.at on.edge on.is; bears = on.bears })
    (record { at = length edges; edge = e; is = at_last edges e; bears = bears })
