-- The trees of a table of any nodes: each node's tree is made from the trees of its operands, and stays if the table
-- grows.
use Rattle.std.proofs.Common.{◌≡◌, ℕ, ◌+◌, ◌<◌, suc, zero, List, [], ◌∷◌, ◌++◌, length, Some, append-nil, append_assoc}
use Rattle.std.proofs.Common.{refl, ap, sym, ◌∙◌, arith, get_or, length-append, zero-add, add-zero}
use Rattle.std.proofs.lemmas.Option.{none-some, same_Some}
use Rattle.std.proofs.lemmas.List.{get_or_append_left, get_or-append-add}
use Rattle.std.specs.List.{slice_get}
use Rattle.ps_formula.specs.Formulas.{trees_behind}

module _ {N T : Type 0} (default : T) (make : List T → N → T) (IsOver : ℕ → N → Type 0)
    (make-front : (known more : List T) (node : N) → IsOver (length known) node →
    make (known ++ more) node ≡ make known node) where
  -- more nodes append one tree for each of them
  grow : (known : List T) (nodes : List N) →
      (rest : List T) × (trees_behind make known nodes ≡ known ++ rest) × (length rest ≡ length nodes)
  grow known [] = ([], sym (append-nil known), refl)
  grow known (node ∷ nodes) =
      let t = make known node in
      let r = grow (known ++ t ∷ []) nodes in
      (t ∷ r.0, r.1 ∙ append_assoc known (t ∷ []) r.0, ap suc r.2)

  behind-append : (known : List T) (nodes more : List N) →
      trees_behind make known (nodes ++ more) ≡ trees_behind make (trees_behind make known nodes) more
  behind-append known [] more = refl
  behind-append known (node ∷ nodes) more = behind-append (known ++ make known node ∷ []) nodes more

  each_from : (known : List T) (nodes : List N) →
      ((k : ℕ) (node : N) → slice_get nodes k ≡ Some node → IsOver (length known + k) node) →
      (k : ℕ) (node : N) → slice_get nodes k ≡ Some node →
      get_or (trees_behind make known nodes) (length known + k) default ≡ make (trees_behind make known nodes) node
  each_from known [] over k node at = absurd (none-some node at)
  each_from known (x ∷ nodes) over zero node at =
      let t = make known x in
      let r = grow (known ++ t ∷ []) nodes in
      let is : trees_behind make known (x ∷ nodes) ≡ known ++ (t ∷ r.0) = r.1 ∙ append_assoc known (t ∷ []) r.0 in
      let here : x ≡ node = same_Some x node at in
      let low : IsOver (length known) node = rw add-zero at (over 0 node at) in
      rw (is, get_or-append-add known (t ∷ r.0) 0 default, make-front known (t ∷ r.0) node low) (ap (make known) here)
  each_from known (x ∷ nodes) over (suc k) node at =
      let t = make known x in
      let longer : length (known ++ t ∷ []) ≡ length known + 1 = length-append known (t ∷ []) in
      let place : length known + suc k ≡ length (known ++ t ∷ []) + k = omega arith in
      let later : (j : ℕ) (n : N) → slice_get nodes j ≡ Some n → IsOver (length (known ++ t ∷ []) + j) n =
      λ j n e. let same : length (known ++ t ∷ []) + j ≡ length known + suc j = omega arith in
      rw same (over (suc j) n e) in
      rw place (each_from (known ++ t ∷ []) nodes later k node at)

  -- the tree of a node is made from the trees of the table
  pub tree-node : (nodes : List N) (k : ℕ) (node : N) →
      ((j : ℕ) (n : N) → slice_get nodes j ≡ Some n → IsOver j n) → slice_get nodes k ≡ Some node →
      get_or (trees_behind make [] nodes) k default ≡ make (trees_behind make [] nodes) node
  tree-node nodes k node over at = rw zero-add at (each_from [] nodes (λ j n e. rw zero-add (over j n e)) k node at)

  pub length-trees : (nodes : List N) → length (trees_behind make [] nodes) ≡ length nodes
  length-trees nodes = let r = grow [] nodes in ap length r.1 ∙ r.2

  pub trees-append : (nodes more : List N) →
      (rest : List T) × (trees_behind make [] (nodes ++ more) ≡ trees_behind make [] nodes ++ rest)
  trees-append nodes more =
      let r = grow (trees_behind make [] nodes) more in
      (r.0, behind-append [] nodes more ∙ r.1)

  -- trees stay if a table grows
  pub tree-append : (nodes more : List N) (k : ℕ) → k < length nodes →
      get_or (trees_behind make [] (nodes ++ more)) k default ≡ get_or (trees_behind make [] nodes) k default
  tree-append nodes more k within =
      let r = trees-append nodes more in
      rw r.1 (get_or_append_left (trees_behind make [] nodes) r.0 default k (omega (arith, length-trees nodes)))
