-- Tables that grow keep their formulas.
use Rattle.std.proofs.Common.{◌≡◌, ◌∙◌, ℕ, ◌<◌, List, [], ◌∷◌, ◌++◌, Some, length, length-append, map, refl, sym, ap}
use Rattle.std.proofs.Common.{append-nil, append_assoc, arith, get_or, inl, inr, subst, suc, zero}
use Rattle.std.proofs.lemmas.Option.{slice_get-get_or, slice_get_within}
use Rattle.std.specs.List.{AllByRecursion, slice_get}
use Rattle.std.specs.Prelude.{slice_index_or}
use Rattle.ps_formula.proofs.Trees.{formula_at-append, formula_at-node}
use Rattle.ps_formula.specs.Formulas.{IsAdded, IsOver, IsTable, formula_at, formula_of, formulas_of}
use Rattle.ps_formula.specs.declared.node.Node.{Node}
use Rattle.ps_sentences.specs.Tables.{AreIn, IsGrownTable, listed_formulas}

-- ## Lists

pub all_append : {X : Type 0} (P : X → Type 0) (xs ys : List X) → AllByRecursion P xs → AllByRecursion P ys →
    AllByRecursion P (xs ++ ys)
all_append P [] ys all more = more
all_append P (x ∷ xs) ys all more = (all.0, all_append P xs ys all.1 more)

pub all_front : {X : Type 0} (P : X → Type 0) (xs ys : List X) → AllByRecursion P (xs ++ ys) → AllByRecursion P xs
all_front P [] ys all = tt
all_front P (x ∷ xs) ys all = (all.0, all_front P xs ys all.1)

pub all_back : {X : Type 0} (P : X → Type 0) (xs ys : List X) → AllByRecursion P (xs ++ ys) → AllByRecursion P ys
all_back P [] ys all = all
all_back P (x ∷ xs) ys all = all_back P xs ys all.1

pub all_like : {X : Type 0} {P Q : X → Type 0} → ((x : X) → P x → Q x) → (xs : List X) → AllByRecursion P xs →
    AllByRecursion Q xs
all_like like [] all = tt
all_like like (x ∷ xs) all = (like x all.0, all_like like xs all.1)

-- ## Lists of what is made of elements

pub mapped_join : {X Y : Type 0} (P : Y → Type 0) (f : X → Y) (xs ys : List X) → AllByRecursion P (map f xs) →
    AllByRecursion P (map f ys) → AllByRecursion P (map f (xs ++ ys))
mapped_join P f [] ys all more = more
mapped_join P f (x ∷ xs) ys all more = (all.0, mapped_join P f xs ys all.1 more)

pub mapped_front : {X Y : Type 0} (P : Y → Type 0) (f : X → Y) (xs ys : List X) →
    AllByRecursion P (map f (xs ++ ys)) → AllByRecursion P (map f xs)
mapped_front P f [] ys all = tt
mapped_front P f (x ∷ xs) ys all = (all.0, mapped_front P f xs ys all.1)

pub mapped_back : {X Y : Type 0} (P : Y → Type 0) (f : X → Y) (xs ys : List X) →
    AllByRecursion P (map f (xs ++ ys)) → AllByRecursion P (map f ys)
mapped_back P f [] ys all = all
mapped_back P f (x ∷ xs) ys all = mapped_back P f xs ys all.1

pub mapped_over : {X Y : Type 0} (P : Y → Type 0) (f : X → Y) {xs ys : List X} → xs ≡ ys →
    AllByRecursion P (map f xs) → AllByRecursion P (map f ys)
mapped_over {X} P f same all = subst (λ (l : List X). AllByRecursion P (map f l)) same all

pub all_over : {X : Type 0} (P : X → Type 0) {xs ys : List X} → xs ≡ ys → AllByRecursion P xs → AllByRecursion P ys
all_over {X} P same all = subst (λ (l : List X). AllByRecursion P l) same all

-- what is true of each element is true of the one at an index
pub all_at : {X : Type 0} (P : X → Type 0) (xs : List X) (k : ℕ) (d : X) → AllByRecursion P xs → k < length xs →
    P (get_or xs k d)
all_at P [] k d all there = absurd (omega (arith, there))
all_at P (x ∷ xs) zero d all there = all.0
all_at P (x ∷ xs) (suc k) d all there = all_at P xs k d all.1 (omega (arith, there))

-- ## Growth

pub grown_refl : (nodes : List Node) → IsGrownTable nodes nodes
grown_refl nodes = record { more = []; is = sym (append-nil nodes) }

pub grown_trans : {a b c : List Node} → IsGrownTable a b → IsGrownTable b c → IsGrownTable a c
grown_trans {a} first second = record {
  more = first.more ++ second.more;
  is = second.is ∙ ap (λ (l : List Node). l ++ second.more) first.is ∙ append_assoc a first.more second.more;
}

pub still_in : {old new : List Node} → IsGrownTable old new → (k : ℕ) → k < length old → k < length new
still_in {old} {new} grows k there =
    let long : length new ≡ length (old ++ grows.more) = ap length grows.is in
    omega (arith, length-append old grows.more)

pub formula_kept : {old new : List Node} → IsGrownTable old new → (k : ℕ) → k < length old →
    formula_at new k ≡ formula_at old k
formula_kept {old} {new} grows k there =
    ap (λ (l : List Node). formula_at l k) grows.is ∙ formula_at-append old grows.more k there

pub are_still_in : {old new : List Node} → IsGrownTable old new → (ks : List ℕ) → AreIn old ks → AreIn new ks
are_still_in grows ks there = all_like (still_in grows) ks there

pub formulas_kept : {old new : List Node} → IsGrownTable old new → (ks : List ℕ) → AreIn old ks →
    listed_formulas new ks ≡ listed_formulas old ks
formulas_kept grows [] there = refl
formulas_kept grows (k ∷ ks) there =
    λ i. formula_kept grows k there.0 i ∷ formulas_kept grows ks there.1 i

-- ## Nodes that are added

module _ {old new : List Node} {node : Node} {index : ℕ} (added : IsAdded old node new index) where
  pub added_grows : IsGrownTable old new
  added_grows = elim added.rest [
    | inl known ↦ record { more = []; is = known.0 ∙ sym (append-nil old) }
    | inr fresh ↦ record { more = node ∷ []; is = fresh.0 }
  ]

  pub added_there : index < length new
  added_there = slice_get_within new index node added.there

  pub added_formula : IsTable new → formula_at new index ≡ formula_of (formulas_of new) node
  added_formula table = formula_at-node new index node table.earlier added.there

-- a node's formula, and that its operands are earlier
pub at_node : {nodes read : List Node} → read ≡ nodes → IsTable nodes → (k : ℕ) → k < length nodes → (d node : Node) →
    slice_index_or read k d ≡ node → (formula_at nodes k ≡ formula_of (formulas_of nodes) node) × IsOver k node
at_node {nodes} same table k there d node is =
    let at : slice_get nodes k ≡ Some node =
    slice_get-get_or nodes k d there ∙ ap Some (ap (λ (l : List Node). slice_index_or l k d) (sym same) ∙ is) in
    (formula_at-node nodes k node table.earlier at, table.earlier k node at)

-- ## Elements by their indices

pub mapped_at : {X Y : Type 0} (P : Y → Type 0) (f : X → Y) (xs : List X) (k : ℕ) (d : X) →
    AllByRecursion P (map f xs) → k < length xs → P (f (get_or xs k d))
mapped_at P f [] k d all there = absurd (omega (arith, there))
mapped_at P f (x ∷ xs) zero d all there = all.0
mapped_at P f (x ∷ xs) (suc k) d all there = mapped_at P f xs k d all.1 (omega (arith, there))

pub mapped_from : {X Y : Type 0} (P : Y → Type 0) (f : X → Y) (xs : List X) (d : X) →
    ((k : ℕ) → k < length xs → P (f (get_or xs k d))) → AllByRecursion P (map f xs)
mapped_from P f [] d each = tt
mapped_from P f (x ∷ xs) d each =
    (each zero (omega arith), mapped_from P f xs d (λ k there. each (suc k) (omega (arith, there))))
