-- The nodes of a table, added one after another, make the same table.
use Rattle.std.proofs.Common.{◌≡◌, ◌∙◌, ◌<◌, ◌++◌, ◌+◌, ◌∷◌, [], ℕ, List, Some, ap, arith, get_or, inl, inr, length}
use Rattle.std.proofs.Common.{sym, subst}
use Rattle.std.proofs.Common.{take}
use Rattle.std.proofs.lemmas.List.{length-take, take_more, get_or-take}
use Rattle.std.proofs.lemmas.Option.{slice_get-get_or}
use Rattle.std.specs.List.{slice_get}
use Rattle.ps_formula.specs.Formulas.{IsAdded, IsOver, IsTable}
use Rattle.ps_formula.specs.declared.node.Node.{Node}

module _ {nodes read : List Node} (same : read ≡ nodes) (table : IsTable nodes) {copy : List Node} {k : ℕ} (d : Node)
    (copied : copy ≡ take k nodes) (there : k < length read) where
  low : k < length nodes
  low = omega (arith, ap length same)

  count : length copy ≡ k
  count = let l = low in omega (arith, ap length copied, length-take k nodes)

  here : slice_get nodes k ≡ Some (get_or read k d)
  here = let l = low in slice_get-get_or nodes k d l ∙ ap (λ (x : List Node). Some (get_or x k d)) (sym same)

  pub over_next : IsOver (length copy) (get_or read k d)
  over_next = subst (λ (n : ℕ). IsOver n (get_or read k d)) (sym count) (table.earlier k (get_or read k d) here)

  -- the node is none of the nodes before it
  repeated : (j : ℕ) → j < length copy → get_or copy j (get_or read k d) ≡ get_or read k d → ⊥
  repeated j within is =
      let node = get_or read k d in
      let before : j < k = omega (arith, count) in
      let long = low in
      let there_j : j < length nodes = omega arith in
      let at : get_or nodes j node ≡ node =
      sym (get_or-take k nodes j node before) ∙ ap (λ (l : List Node). get_or l j node) (sym copied) ∙ is in
      let equal : j ≡ k = table.once j k node (slice_get-get_or nodes j node there_j ∙ ap Some at) here in
      omega arith

  pub copied_more : {new : List Node} {index : ℕ} → IsAdded copy (get_or read k d) new index → new ≡ take (k + 1) nodes
  copied_more {new} added = elim added.rest [
    | inl known ↦ absurd (repeated known.1.0 known.1.1 known.1.2)
    | inr fresh ↦
        fresh.0 ∙ ap (λ (l : List Node). l ++ get_or read k d ∷ []) copied
        ∙ ap (λ (x : Node). take k nodes ++ x ∷ []) (ap (λ (l : List Node). get_or l k d) same)
        ∙ sym (take_more nodes k d low)
  ]
