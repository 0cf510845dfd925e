-- Disjunctions of many diagrams of truth values: the disjunction of each half of the list is made first, and then the
-- disjunction of the two results.
use Rattle.std.proofs.Common.{◌≡◌, ℕ, suc, Bool, true, false, cond, length, List, [], ◌∷◌, ◌++◌, All, Option, None}
use Rattle.std.proofs.Common.{take, drop, refl, ap, sym, subst, ◌∙◌, arith, rules}
use Rattle.std.proofs.lemmas.List.{map-append, take-append-drop}
use Rattle.std.proofs.lemmas.List.Elements.{All-drop, All-push, All-take}
use Rattle.ps_label.specs.Expression.{AreOver, Expression, operands_in}
use Rattle.ps_label.specs.Truth.{truth, all_true, any_true}
use Rattle.ps_diagram.specs.Labels.{HaveTruths, IsOneOrNone, one_where}
use Rattle.ps_diagram.specs.Leaves.{either_leaf}
use Rattle.ps_diagram.specs.Table.{Table, IsNode, Keeps, leaf_of}
use Rattle.ps_diagram.specs.Inner.Unions.{IsTruth, first_leaf, is_value, leaves_of}
use Rattle.ps_diagram.proofs.NodeTables.Cells.{keeps_refl}
use Rattle.ps_diagram.proofs.NodeTables.KnownLemmas.{keeps_trans}
use Rattle.ps_diagram.proofs.TreeOperations.Truths.{IsDecided, decided_more, joined_of, leaf_kept, truths_kept}

-- ## Leaves

joined_none : (a : Option ℕ) → either_leaf a None ≡ a
joined_none a = search rules

joined_assoc : (a b c : Option ℕ) → either_leaf (either_leaf a b) c ≡ either_leaf a (either_leaf b c)
joined_assoc a b c = search rules

pub first_leaf-append : (xs ys : List (Option ℕ)) → first_leaf (xs ++ ys) ≡ either_leaf (first_leaf xs) (first_leaf ys)
first_leaf-append [] ys = refl
first_leaf-append (x ∷ xs) ys = search (rules, joined_assoc, first_leaf-append xs ys)

-- Append a node to a list of nodes. At each letter, the first leaf of the list's nodes stays the same, or is the new
-- node's leaf if no old node has a leaf.
pub first_leaf-push : (t : Table) (nodes : List ℕ) {more : List ℕ} (node letter : ℕ) → more ≡ nodes ++ node ∷ [] →
    first_leaf (leaves_of t more letter) ≡ either_leaf (first_leaf (leaves_of t nodes letter)) (leaf_of t node letter)
first_leaf-push t nodes node letter e = search (rules, map-append, first_leaf-append, joined_none)

-- the first leaf of a list's nodes at a letter is in the first half of the list, or in the second half if no node of
-- the first half has a leaf
pub first_leaf-halves : (t : Table) (nodes : List ℕ) (m letter : ℕ) →
    either_leaf (first_leaf (leaves_of t (take m nodes) letter)) (first_leaf (leaves_of t (drop m nodes) letter))
    ≡ first_leaf (leaves_of t nodes letter)
first_leaf-halves t nodes m letter = sym (grind (arith, first_leaf-append))
    ∙ ap first_leaf (sym (map-append (λ n. leaf_of t n letter) (take m nodes) (drop m nodes)))
    ∙ ap (λ (ns : List ℕ). first_leaf (leaves_of t ns letter)) (take-append-drop m nodes)

-- ## Truths

pub truth_kept : {t u : Table} {node : ℕ} → Keeps t u → IsTruth t node → IsTruth u node
truth_kept {t} {u} {node} k h = record {
  held = k.held node h.held;
  leaf = λ letter. let one = h.leaf letter in (one.0, leaf_kept letter k h.held ∙ one.1);
}

pub all_kept : {t u : Table} (nodes : List ℕ) → Keeps t u → All (IsTruth t) nodes → All (IsTruth u) nodes
all_kept {t} {u} nodes k h = λ i d lt. truth_kept k (h i d lt)

tail_of : (t : Table) (node : ℕ) (nodes : List ℕ) → All (IsTruth t) (node ∷ nodes) → All (IsTruth t) nodes
tail_of t node nodes h = λ i d lt. h (suc i) d (omega arith)

pub leaves_kept : {t u : Table} (nodes : List ℕ) (letter : ℕ) → Keeps t u → All (IsTruth t) nodes →
    leaves_of u nodes letter ≡ leaves_of t nodes letter
leaves_kept [] letter k h = refl
leaves_kept {t} {u} (node ∷ nodes) letter k h = grind (
  arith,
  leaf_kept letter k (h 0 node (omega arith)).held,
  tail_of t node nodes h,
  leaves_kept nodes letter k (tail_of t node nodes h),
)

pub union_truth : (t : Table) (nodes : List ℕ) (letter : ℕ) → All (IsTruth t) nodes →
    IsOneOrNone (first_leaf (leaves_of t nodes letter))
union_truth t [] letter h = (false, refl)
union_truth t (node ∷ nodes) letter h =
    let one = (h 0 node (omega arith)).leaf letter in
    search (rules, tail_of, joined_of, union_truth t nodes letter (tail_of t node nodes h))

-- if one more diagram of truth values is appended to a list of diagrams of truth values, all items of the longer list
-- are diagrams of truth values in the grown table
pub truths_more : {t u : Table} (nodes : List ℕ) {more : List ℕ} {node : ℕ} → Keeps t u → All (IsTruth t) nodes →
    IsTruth u node → more ≡ nodes ++ node ∷ [] → All (IsTruth u) more
truths_more {t} {u} nodes {node} k h is e = subst (All (IsTruth u)) (sym e) (search (rules, All-push, all_kept))

pub union_more : {t u : Table} (nodes : List ℕ) {more : List ℕ} (node letter : ℕ) → Keeps t u → All (IsTruth t) nodes →
    more ≡ nodes ++ node ∷ [] →
    first_leaf (leaves_of u more letter) ≡ either_leaf (first_leaf (leaves_of t nodes letter)) (leaf_of u node letter)
union_more {t} {u} nodes {more} node letter k h e = first_leaf-push u nodes node letter e
    ∙ ap (λ xs. either_leaf (first_leaf xs) (leaf_of u node letter)) (leaves_kept nodes letter k h)

pub no_nodes : (t : Table) {nodes : List ℕ} → nodes ≡ [] → All (IsTruth t) nodes
no_nodes t e = subst (All (IsTruth t)) (sym e) (λ i d lt. absurd (omega arith))

-- ## The two halves, one made after the other

module _ {s t u : Table} (nodes : List ℕ) {front back : List ℕ} (m : ℕ) {one : ℕ} (other : ℕ)
    (is_front : front ≡ take m nodes) (is_back : back ≡ drop m nodes) (first : Keeps s t) (second : Keeps t u)
    (held : IsNode t one) (h : All (IsTruth s) nodes) (one_leaf : (letter : ℕ) →
    leaf_of t one letter ≡ first_leaf (leaves_of s front letter)) where
  pub front_truths : All (IsTruth s) front
  front_truths = subst (All (IsTruth s)) (sym is_front) (All-take (IsTruth s) m nodes h)

  pub one_truth : (letter : ℕ) → IsOneOrNone (leaf_of u one letter)
  one_truth letter = grind (arith, union_truth s front letter front_truths, leaf_kept letter second held)

  pub union_halves : (letter : ℕ) → leaf_of u other letter ≡ first_leaf (leaves_of t back letter) →
      either_leaf (leaf_of u one letter) (leaf_of u other letter) ≡ first_leaf (leaves_of s nodes letter)
  union_halves letter other_leaf =
      let back_truths = All-drop (IsTruth s) m nodes h in
      grind (
        arith,
        leaf_kept letter second held,
        leaves_kept (drop m nodes) letter first back_truths,
        first_leaf-halves s nodes m letter,
      )

pub back_kept : {s t : Table} (nodes : List ℕ) {back : List ℕ} (m : ℕ) → back ≡ drop m nodes → Keeps s t →
    All (IsTruth s) nodes → All (IsTruth t) back
back_kept {s} {t} nodes {back} m e k h = all_kept back k (grind (arith, All-drop (IsTruth s) m nodes h))

-- ## The operands of a label, one after another

-- The nodes are the diagrams of the truth values of those operands of a label that were visited so far. For a
-- conjunction, each node is the diagram of an operand's negation. If the visited operands do not decide the label's
-- truth value, the remaining ones do.
pub record AreOperands (any : Bool) (s t : Table) (named made : List ℕ) (rest : List Expression) (label : Expression) :
    Type 0 where
  pub keeps : Keeps s t
  pub nodes : All (IsTruth t) made
  pub aliases : (known : ℕ → List Bool) × HaveTruths t named known
  pub within : AreOver (length named) t.propositions (operands_in rest)
  pub leaf : (known : ℕ → List Bool) → HaveTruths s named known → (letter : ℕ) →
      IsDecided any (first_leaf (leaves_of t made letter)) (cond any (any_true (known letter) letter (operands_in rest))
      (all_true (known letter) letter (operands_in rest))) (truth (known letter) letter label)

pub no_operands : (any : Bool) {s : Table} {named made : List ℕ} {rest : List Expression} (label : Expression) →
    made ≡ [] → (known : ℕ → List Bool) × HaveTruths s named known →
    AreOver (length named) s.propositions (operands_in rest) → ((known : List Bool) (letter : ℕ) →
    cond any (any_true known letter (operands_in rest)) (all_true known letter (operands_in rest)) ≡ truth known letter
    label) →
    AreOperands any s s named made rest label
no_operands any {s} label none given within decides = grind (arith, keeps_refl, no_nodes)

pub operands_more : (any : Bool) {s t u : Table} {named made more : List ℕ} {e : Expression} {rest : List Expression}
    {label : Expression} {node : ℕ} → (known : ℕ → List Bool) × HaveTruths s named known →
    AreOperands any s t named made (e ∷ rest) label → Keeps t u → IsNode u node →
    ((known : ℕ → List Bool) → HaveTruths t named known → (letter : ℕ) → leaf_of u node letter ≡ one_where
    (cond any (truth (known letter) letter e) (cond (truth (known letter) letter e) false true))) →
    more ≡ made ++ node ∷ [] → AreOperands any s u named more rest label
operands_more any {made = made} {e = e} {rest = rest} {node = node} a v k held leaf is = record {
  keeps = keeps_trans v.keeps k;
  nodes = truths_more made k v.nodes (record {
    held = held;
    leaf = λ letter. (_, leaf a.0 (truths_kept v.keeps a.1) letter);
  }) is;
  aliases = (v.aliases.0, truths_kept k v.aliases.1);
  within = rw k.propositions v.within.1;
  leaf = λ known h letter. decided_more any (truth (known letter) letter e) _ (by any (truth (known letter) letter e)
      (any_true (known letter) letter (operands_in rest)) (all_true (known letter) letter (operands_in rest))
      (v.leaf known h letter)) (leaf known (truths_kept v.keeps h) letter) (union_more made node letter k v.nodes is);
}
  where
    by : (any b some all : Bool) {whole : Bool} {old : Option ℕ} →
        IsDecided any old (cond any (cond b true some) (cond b all false)) whole →
        IsDecided any old (cond b (cond any true (cond any some all)) (cond any (cond any some all) false)) whole
    by true b some all h = h
    by false b some all h = h

-- ## All operands

decided_by_all : (any : Bool) {leaf : Option ℕ} {whole : Bool} → IsDecided any leaf (cond any false true) whole →
    leaf ≡ one_where (is_value any whole)
decided_by_all true h = grind arith
decided_by_all false h = grind arith

-- once all operands were visited, the made nodes have the leaf 1 where one of them has the truth value `any`
pub operands_done : (any : Bool) {s t : Table} {named made : List ℕ} {rest : List Expression} {label : Expression} →
    rest ≡ [] → AreOperands any s t named made rest label → (known : ℕ → List Bool) → HaveTruths s named known →
    (letter : ℕ) →
    first_leaf (leaves_of t made letter) ≡ one_where (is_value any (truth (known letter) letter label))
operands_done any none v known h letter =
    decided_by_all any (rest_decides any (known letter) letter none (v.leaf known h letter))
  where
    rest_decides : (any : Bool) (values : List Bool) (x : ℕ) {es : List Expression} {leaf : Option ℕ} {whole : Bool} →
        es ≡ [] → IsDecided any leaf (cond any (any_true values x (operands_in es))
        (all_true values x (operands_in es))) whole → IsDecided any leaf (cond any false true) whole
    rest_decides any values x none h = rw none at h
