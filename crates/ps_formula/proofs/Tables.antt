-- Tables of nodes: what a table is after a node was added.
use Rattle.std.proofs.Common.{◌≡◌, ℕ, ◌⊎◌, suc, zero, Bool, true, false, List, [], ◌∷◌, ◌++◌, length, Some}
use Rattle.std.proofs.Common.{refl, ap, sym, ◌∙◌, arith, inl, inr, get_or}
use Rattle.std.proofs.lemmas.Option.{none-some, same_Some, slice_get-get_or, slice_get_within, get_or_from_slice_get}
use Rattle.std.proofs.lemmas.Bool.{false≢true}
use Rattle.std.specs.Cmp.{IsEquivalence}
use Rattle.std.specs.List.{slice_get}
use Rattle.ps_keys.specs.Keys.{IsPlacedKey}
use Rattle.ps_formula.specs.NodeKeys.{same_node, same_normal_node}
use Rattle.ps_formula.specs.declared.node.Node.{Node}
use Rattle.ps_formula.specs.declared.normal_node.NormalNode.{NormalNode}
use Rattle.ps_formula.specs.contracts.node.NodePartialEq.TheImpl as node_eq
use Rattle.ps_formula.specs.contracts.node.NodeEq.TheImpl.Laws as node_laws
use Rattle.ps_formula.specs.contracts.normal_node.NormalNodePartialEq.TheImpl as normal_eq
use Rattle.ps_formula.specs.contracts.normal_node.NormalNodeEq.TheImpl.Laws as normal_laws
use Rattle.ps_formula.specs.Formulas.{IsAdded, IsTableOver}

-- ## Lists with an element at the end

pub get_front : {X : Type 0} (xs ys : List X) (y : X) (k : ℕ) → slice_get xs k ≡ Some y →
    slice_get (xs ++ ys) k ≡ Some y
get_front [] ys y k e = absurd (none-some y e)
get_front (x ∷ xs) ys y zero e = e
get_front (x ∷ xs) ys y (suc k) e = get_front xs ys y k e

pub get_pushed : {X : Type 0} (xs : List X) (x : X) → slice_get (xs ++ x ∷ []) (length xs) ≡ Some x
get_pushed [] x = refl
get_pushed (z ∷ xs) x = get_pushed xs x

-- an element of a list with one more element at its end is an element of the list, or the new one
pub old_or_pushed : {X : Type 0} (xs : List X) (x y : X) (k : ℕ) → slice_get (xs ++ x ∷ []) k ≡ Some y →
    (slice_get xs k ≡ Some y) ⊎ ((k ≡ length xs) × (x ≡ y))
old_or_pushed [] x y zero e = inr (refl, same_Some x y e)
old_or_pushed [] x y (suc k) e = absurd (none-some y e)
old_or_pushed (z ∷ xs) x y zero e = inl e
old_or_pushed (z ∷ xs) x y (suc k) e = elim (old_or_pushed xs x y k e) [
  | inl old ↦ inl old
  | inr new ↦ inr (ap suc new.0, new.1)
]

-- ## Tables

module _ {N : Type 0} where
  -- a key list in which equal keys are the same keys adds a node
  placed_is_added : (eq : N → N → Bool) → ((x y : N) → eq x y ≡ true → x ≡ y) → IsEquivalence eq →
      (old new : List N) (node : N) (place : ℕ) → IsPlacedKey eq old new node place → IsAdded old node new place
  placed_is_added eq same laws old new node place placed = elim placed [
    | inl known ↦
        let is : get_or old place node ≡ node = same (get_or old place node) node (known.2 node) in
        record {
          there = rw known.0 (slice_get-get_or old place node known.1 ∙ ap Some is);
          rest = inl (known.0, (place, known.1, is));
        }
    | inr fresh ↦ record {
      there = rw (fresh.0, fresh.1) (get_pushed old node);
      rest = inr (
        fresh.0,
        λ has.
            let other : eq (get_or old has.0 node) node ≡ false = fresh.2 has.0 node (omega arith) has.1 in
            let not : eq node node ≡ false = rw has.2 at other in
            absurd (false≢true (sym not ∙ laws.refl node)),
      );
    }
  ]

  pub table_with : {IsOver : ℕ → N → Type 0} {old new : List N} {node : N} {index : ℕ} → IsTableOver IsOver old →
      IsOver (length old) node → IsAdded old node new index → IsTableOver IsOver new
  table_with {IsOver} {old} {new} {node} table over added = elim added.rest [
    | inl known ↦ rw known.0 table
    | inr fresh ↦
        let lacks : (k : ℕ) (n : N) → slice_get old k ≡ Some n → node ≡ n → ⊥ =
        λ k n at is. fresh.1 (k, slice_get_within old k n at, get_or_from_slice_get old k n node at ∙ sym is) in
        rw fresh.0 (record {
          earlier = λ k n e. elim (old_or_pushed old node n k e) [
            | inl at ↦ table.earlier k n at
            | inr new ↦ rw (new.0, ← new.1) over
          ];
          once = λ j k n e f. elim (old_or_pushed old node n j e) [
            | inl at ↦ elim (old_or_pushed old node n k f) [
              | inl other ↦ table.once j k n at other
              | inr new ↦ absurd (lacks j n at new.1)
            ]
            | inr new ↦ elim (old_or_pushed old node n k f) [
              | inl other ↦ absurd (lacks k n other new.1)
              | inr too ↦ new.0 ∙ sym too.0
            ]
          ];
        })
  ]

pub is_added : {old new : List Node} {node : Node} {place : ℕ} →
    IsPlacedKey (node_eq.eq-value).it old new node place → IsAdded old node new place
is_added {old} {new} {node} {place} placed =
    placed_is_added (node_eq.eq-value).it same_node node_laws.laws-law old new node place placed

pub is_added_normal : {old new : List NormalNode} {node : NormalNode} {place : ℕ} →
    IsPlacedKey (normal_eq.eq-value).it old new node place → IsAdded old node new place
is_added_normal {old} {new} {node} {place} placed =
    placed_is_added (normal_eq.eq-value).it same_normal_node normal_laws.laws-law old new node place placed
