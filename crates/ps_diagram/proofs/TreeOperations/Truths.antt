-- Lemmas about diagrams of truth values, which have the leaf 1 for true and no leaf for false: such diagrams are made,
-- and stay the same when the table grows.
use Rattle.std.proofs.Common.{◌≡◌, ℕ, ◌+◌, ◌<◌, Bool, true, false, cond, List, [], ◌∷◌, ◌++◌, length, get_or, Option}
use Rattle.std.proofs.Common.{refl, ap, arith, drop, drop-cons, add-one, length-append, rules}
use Rattle.std.specs.Prelude.{not, option_map}
use Rattle.std.proofs.lemmas.List.{get_or-map, length-map}
use Rattle.ps_label.specs.declared.label.Label.{Label}
use Rattle.ps_label.specs.Expression.{constant, AreOrdered, expression}
use Rattle.ps_label.specs.Truth.{alias_truths, expressions, truth}
use Rattle.ps_label.proofs.Tables.{table}
use Rattle.ps_diagram.specs.Leaves.{either_leaf, opposite}
use Rattle.ps_diagram.specs.Labels.{leaf_where, one_where, HaveTruths}
use Rattle.ps_diagram.specs.Letters.{assignment}
use Rattle.ps_diagram.specs.Tree.{leaf_at}
use Rattle.ps_diagram.specs.Table.{Table, IsNode, Keeps, leaf_of}
use Rattle.ps_diagram.specs.Inner.Unions.{is_value}
use Rattle.ps_diagram.proofs.NodeTables.Cells.{push_each}

pub truths_kept : {t u : Table} {nodes : List ℕ} {known : ℕ → List Bool} → Keeps t u → HaveTruths t nodes known →
    HaveTruths u nodes known
truths_kept k h = search rules

-- the leaf of a node does not change when the table grows
pub leaf_kept : {t u : Table} {node : ℕ} (letter : ℕ) → Keeps t u → IsNode t node →
    leaf_of u node letter ≡ leaf_of t node letter
leaf_kept {node} letter k h = ap (λ x. leaf_at x (assignment letter)) (k.same node h)

pub leaf_one : (b : Bool) → leaf_where 1 b ≡ one_where b
leaf_one b = search rules

pub guarded_is : (value : ℕ) (b : Bool) → option_map (λ _. value) (one_where b) ≡ leaf_where value b
guarded_is value b = search rules

-- an expression has the other truth value where its negation has this one
pub value_of_opposite : (value b : Bool) → is_value (not value) b ≡ is_value value (cond b false true)
value_of_opposite true true = refl
value_of_opposite true false = refl
value_of_opposite false true = refl
value_of_opposite false false = refl

pub opposite_of_both : (value b : Bool) → is_value (not value) (cond b false true) ≡ is_value value b
opposite_of_both true true = refl
opposite_of_both true false = refl
opposite_of_both false true = refl
opposite_of_both false false = refl

pub value_turned : (kept b : Bool) → cond kept (one_where b) (opposite (one_where b)) ≡ one_where (is_value kept b)
value_turned true b = refl
value_turned false true = refl
value_turned false false = refl

pub joined_of : (a b : Bool) → either_leaf (one_where a) (one_where b) ≡ one_where (cond a true b)
joined_of a b = search rules

-- Of a label's operands, those that were visited so far decide the label's truth value, or the remaining ones decide
-- it. In a disjunction (`any` is true), a true operand decides; in a conjunction, a false operand decides.
pub record IsDecided (any : Bool) (leaf : Option ℕ) (rest whole : Bool) : Type 0 where
  pub so_far : Bool
  pub is : leaf ≡ one_where so_far
  pub decides : cond so_far any rest ≡ whole

decided_cases : (any a b rest : Bool) → cond (cond a true (cond any b (cond b false true))) any rest ≡ cond a any
    (cond b (cond any true rest) (cond any rest false))
decided_cases any a b rest = grind arith

pub decided_more : (any : Bool) {old new made : Option ℕ} (b rest : Bool) {whole : Bool} →
    IsDecided any old (cond b (cond any true rest) (cond any rest false)) whole →
    made ≡ one_where (cond any b (cond b false true)) → new ≡ either_leaf old made → IsDecided any new rest whole
decided_more any b rest h e j = grind (arith, joined_of, decided_cases)

-- the expressions from an index on are the expression at this index and those after it
pub drop_is : (items : List Label) (k : ℕ) {x : Label} → k < length items → x ≡ get_or items k x →
    expressions (drop k items) ≡ expression x ∷ expressions (drop (k + 1) items)
drop_is items k {x} lt is = rw (add-one, drop-cons items k x, ← is)

-- ## The nodes of aliases

-- if the diagram of the next alias is appended to the diagrams of the first aliases, the list has the diagrams of one
-- more alias
pub truths_push : {t u : Table} {nodes : List ℕ} {node : ℕ} {known : ℕ → List Bool} → Keeps t u →
    HaveTruths t nodes known → IsNode u node →
    ((letter : ℕ) → leaf_of u node letter ≡ one_where (get_or (known letter) (length nodes) false)) →
    HaveTruths u (nodes ++ node ∷ []) known
truths_push {t} {u} {nodes} {node} {known} k h held leaf =
    let old = truths_kept k h in
    let len = length-append nodes (node ∷ []) in
    record {
      held = λ j lt. push_each (λ i x. IsNode u x) 0 nodes node refl refl old.held held j (omega arith);
      leaf = λ j letter lt. push_each (λ i x. leaf_of u x letter ≡ one_where (get_or (known letter) i false)) 0 nodes
          node refl refl (λ i within. old.leaf i letter within) (leaf letter) j (omega arith);
    }

-- an alias has the truth value of its expression
pub alias_truth : (labels : List Label) (letter k : ℕ) {x : Label} → AreOrdered (expressions labels) →
    k < length labels → x ≡ get_or labels k x → get_or (alias_truths (expressions labels) letter) k false ≡ truth
    (alias_truths (expressions labels) letter) letter (expression x)
alias_truth labels letter k {x} o lt is = grind (
  arith,
  get_or-map expression labels k x (constant false) lt,
  table (expressions labels) letter o,
  length-map labels expression,
)
