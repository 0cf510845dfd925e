-- Lists of vertices, and a row of edges for each of the first ones, that grow while a product is explored.
use Rattle.std.proofs.Common.{◌≡◌, ℕ, suc, zero, ◌+◌, ◌<◌, ◌≤◌, inl, inr, List, [], ◌∷◌, ◌++◌, Some, length, get_or}
use Rattle.std.proofs.Common.{sym, ap, subst, ◌∙◌, arith, length-append}
use Rattle.std.specs.List.{slice_get}
use Rattle.std.specs.Option.{option_map}
use Rattle.std.proofs.Math.ListN.{get_or-append}
use Rattle.std.proofs.Math.Seq.{get_or-append_seam}
use Rattle.std.proofs.lemmas.Bool.{cases_lt}
use Rattle.std.proofs.lemmas.List.{get_or_past}
use Rattle.std.proofs.lemmas.Option.{slice_get-get_or, slice_get_within}
use Rattle.ps_components.specs.Graphs.{Link, SameOrWay}
use Rattle.ps_components.specs.Graphs.Way.{last}
use Rattle.ps_components.proofs.Ways.{Way-join}
use Rattle.ps_diagram.proofs.ClassesOfLetters.Distinct.{at_left}
use Rattle.ps_product.specs.Words.{HasGrown}
use Rattle.ps_product.proofs.ExploredProducts.EdgeLemmas.{element}
use Rattle.ps_product.proofs.ExploredProducts.WordNumbers.{grown_none, grown_on, still_there}
use Rattle.ps_simulate.proofs.NamingLemmas.{some_same}
use Rattle.ps_tableau_product.specs.Inner.Growing.{GrowsBy, IsLedInto}
use Rattle.ps_tableau_product.specs.Graphs.{graph_of_rows}

-- ## One row more

module _ {X : Type 0} {made : List (List X)} (rows : List (List X)) (row : List X) (e : made ≡ rows ++ row ∷ []) where
  pub old_row : (i : ℕ) → i < length rows → get_or made i [] ≡ get_or rows i []
  old_row i lt = ap (λ (l : List (List X)). get_or l i []) e ∙ get_or-append rows (row ∷ []) [] i lt

  pub new_row : {vertex : ℕ} → length rows ≡ vertex → get_or made vertex [] ≡ row
  new_row {vertex} each = subst (λ (n : ℕ). get_or made n [] ≡ row) each
      (ap (λ (l : List (List X)). get_or l (length rows) []) e ∙ get_or-append_seam rows row [] [])

  pub one_row_more : {vertex : ℕ} → length rows ≡ vertex → length made ≡ vertex + 1
  one_row_more each = ap (λ (l : List (List X)). length l) e ∙ length-append rows (row ∷ []) ∙ ap (λ n. n + 1) each

-- ## More vertices

pub vertices_none : {V X : Type 0} {to : X → ℕ} (vertices : List V) (row : List X) → GrowsBy to vertices vertices row
vertices_none vertices row = record { grown = grown_none vertices; from = λ i v at. inl at }

pub vertices_on : {V X : Type 0} {to : X → ℕ} {a b c : List V} {row made : List X} (more : List X) →
    made ≡ row ++ more → GrowsBy to a b row → GrowsBy to b c made → GrowsBy to a c made
vertices_on {V} {X} {row = row} more e first second = record {
  grown = grown_on first.grown second.grown;
  from = λ i v at. elim (second.from i v at) [
    | inl old ↦ elim (first.from i v old) [
      | inl older ↦ inl older
      | inr led ↦ inr (
        led.0,
        led.1,
        subst (λ (l : List X). slice_get l led.0 ≡ Some led.1) (sym e) (at_left row more led.0 led.2),
        led.3,
      )
    ]
    | inr led ↦ inr led
  ];
}

module _ {V : Type 0} {before after : List V} (grown : HasGrown before after) where
  pub was_at : (i : ℕ) (v : V) → i < length before → slice_get after i ≡ Some v → slice_get before i ≡ Some v
  was_at i v lt at =
      let d = element before i lt in
      let w = get_or before i d in
      let there : slice_get before i ≡ Some w = slice_get-get_or before i d lt in
      let same : w ≡ v = some_same w v (sym (still_there i grown there) ∙ at) in
      there ∙ ap (λ (u : V). Some u) same

  -- a property of the first vertices, and of one more
  pub each_now : {vertex : ℕ} {here : V} (P : ℕ → V → Type 0) → slice_get before vertex ≡ Some here →
      ((i : ℕ) (v : V) → i < vertex → slice_get before i ≡ Some v → P i v) → P vertex here →
      (i : ℕ) (v : V) → i < vertex + 1 → slice_get after i ≡ Some v → P i v
  each_now {vertex} {here} P there old new i v lt at = elim (cases_lt i vertex) [
    | inl below ↦
        let few : i < length before = omega (arith, below, slice_get_within before vertex here there) in
        old i v below (was_at i v few at)
    | inr above ↦
        let same : i ≡ vertex = omega (arith, lt, above) in
        let there_now : slice_get after vertex ≡ Some v =
        subst (λ (j : ℕ). slice_get after j ≡ Some v) same at in
        let is : here ≡ v = some_same here v (sym (still_there vertex grown there) ∙ there_now) in
        subst (λ (j : ℕ). P j v) (sym same) (subst (P vertex) is new)
  ]

-- each vertex but the first is led to by an earlier one, also after one more vertex got its row
pub led_more : {V X : Type 0} {to : X → ℕ} {before after : List V} {rows made : List (List X)} {row : List X}
    {vertex : ℕ} → GrowsBy to before after row → made ≡ rows ++ row ∷ [] → length rows ≡ vertex →
    vertex < length before → ((i : ℕ) → 0 < i → i < length before → IsLedInto to rows i) → (i : ℕ) → 0 < i →
    i < length after → IsLedInto to made i
led_more {V} {X} {to} {before} {after} {rows} {made} {row} {vertex} grows e each few led i positive lt =
    let many = one_row_more rows row e each in
    elim (cases_lt i (length before)) [
      | inl below ↦
          let l = led i positive below in
          record {
            from = l.from;
            earlier = l.earlier;
            within = omega (arith, l.within, many, each);
            place = l.place;
            edge = l.edge;
            there = subst (λ (r : List X). slice_get r l.place ≡ Some l.edge) (sym (old_row rows row e l.from l.within))
                l.there;
            leads = l.leads;
          }
      | inr above ↦
          let d = element after i lt in
          let v = get_or after i d in
          let at : slice_get after i ≡ Some v = slice_get-get_or after i d lt in
          elim (grows.from i v at) [
            | inl old ↦ absurd (omega (arith, above, slice_get_within before i v old))
            | inr new ↦ record {
              from = vertex;
              earlier = omega (arith, few, above);
              within = omega (arith, many);
              place = new.0;
              edge = new.1;
              there = subst (λ (r : List X). slice_get r new.0 ≡ Some new.1) (sym (new_row rows row e each)) new.2;
              leads = new.3;
            }
          ]
    ]

-- ## Every vertex is reached

-- a vertex with an edge is one of the graph
pub row_low : {X : Type 0} (rows : List (List X)) (v k : ℕ) (x : X) → slice_get (get_or rows v []) k ≡ Some x →
    v < length rows
row_low {X} rows v k x there = elim (cases_lt v (length rows)) [
  | inl low ↦ low
  | inr high ↦
      let empty : get_or rows v [] ≡ [] = get_or_past rows v [] high in
      absurd (omega (arith, slice_get_within [] k x (ap (λ (r : List X). slice_get r k) (sym empty) ∙ there)))
]

module _ {X : Type 0} (to : X → ℕ) (rows : List (List X)) where
  led_link : (v : ℕ) (l : IsLedInto to rows v) → Link (graph_of_rows to rows) l.from v
  led_link v l = record {
    from = l.within;
    place = l.place;
    at = slice_get_within (get_or rows l.from []) l.place l.edge l.there;
    target = ap (option_map to) l.there ∙ ap (λ (n : ℕ). Some n) l.leads;
  }

  module _ (led : (v : ℕ) → 0 < v → v < length rows → IsLedInto to rows v) where
    reached_below : (n v : ℕ) → v ≤ n → v < length rows → SameOrWay (graph_of_rows to rows) 0 v
    reached_below zero v le lt = inl (omega arith)
    reached_below (suc n) v le lt = elim (cases_lt 0 v) [
      | inr none ↦ inl (omega (arith, none))
      | inl positive ↦
          let l = led v positive lt in
          let link = led_link v l in
          let earlier : l.from ≤ n = omega (arith, l.earlier, le) in
          elim (reached_below n l.from earlier l.within) [
            | inl same ↦
                inr (last (subst (λ (u : ℕ). Link (graph_of_rows to rows) u v) (sym same) link))
            | inr way ↦ inr (Way-join way (last link))
          ]
    ]

    pub all_reached : (v : ℕ) → v < length rows → SameOrWay (graph_of_rows to rows) 0 v
    all_reached v lt = reached_below v v (omega arith) lt
