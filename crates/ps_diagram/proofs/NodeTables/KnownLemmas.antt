-- When the table of nodes grows, or a memo table gets one more entry, each entry of the memo table still relates the
-- tree of its key to the tree of its result.
use Rattle.std.proofs.Common.{◌≡◌, ℕ, Bool, true, eqb, Ok, Option, Some, rules, sym, subst, ◌∙◌, ◌⊎◌, inl, inr}
use Rattle.std.specs.Option.{unwrap_or}
use Rattle.std.proofs.lemmas.Bool.{eqb-true}
use Rattle.ps_diagram.specs.Tree.{Tree}
use Rattle.ps_diagram.specs.Table.{Table, IsNode, Keeps, MakesTree, tree_of}
use Rattle.ps_diagram.specs.Inner.Known.{Knows, KnowsPairs, pair_eq}
use Rattle.ps_diagram.proofs.NodeTables.Cells.{keeps_refl}
use Rattle.ps_diagram.proofs.NodeTables.Keys.{and_both}

-- keeping nodes is transitive: if u keeps the nodes of t, and v keeps the nodes of u, then v keeps the nodes of t
pub keeps_trans : {t u v : Table} → Keeps t u → Keeps u v → Keeps t v
keeps_trans a b = search rules

pub keeps_three : {t u v w : Table} → Keeps t u → Keeps u v → Keeps v w → Keeps t w
keeps_three a b c = keeps_trans (keeps_trans a b) c

-- the table from which nodes are read (`other`, or t if `other` is None) keeps its nodes when t grows to u
pub read_keeps : (other : Option Table) {t u : Table} → Keeps t u → Keeps (unwrap_or other t) (unwrap_or other u)
read_keeps other h = search (rules, keeps_refl)

-- a property of a node's tree still holds when the table grows
pub kept : (P : Tree → Type 0) {t u : Table} → Keeps t u → {node : ℕ} → IsNode t node → P (tree_of t node) →
    P (tree_of u node)
kept P k {node} h p = rw (k.same node h) p

-- if Some x equals Some y, then x equals y
pub some_nat : (x y : ℕ) → Some x ≡ Some y → x ≡ y
some_nat x y e = cc

pub knows_kept : (R : Tree → Tree → Type 0) (s s' t t' : Table) (known : ℕ → Option ℕ) → Keeps s s' → Keeps t t' →
    Knows R s t known → Knows R s' t' known
knows_kept R s s' t t' known j k h node made e =
    let r = h node made e in (j.held node r.0, k.held made r.1, rw (j.same node r.0, k.same made r.1) r.2)

pub pairs_kept : (R : Tree → Tree → Tree → Type 0) {t u : Table} (known : ℕ × ℕ → Option ℕ) → Keeps t u →
    KnowsPairs R t known → KnowsPairs R u known
pairs_kept R known k h a b made e =
    let r = h a b made e in
    (k.held a r.0, k.held b r.1, k.held made r.2, rw (k.same a r.0, k.same b r.1, k.same made r.2) r.3)

-- the new map equals the old map, except that it may map `key` to `value`
abbrev pub MayBePut : {K : Type 0} → (K → K → Bool) → (known new : K → Option ℕ) → K → ℕ → Type 0
MayBePut {K} eq known new key value = (q : K) → (new q ≡ known q) ⊎ ((eq key q ≡ true) × (new q ≡ Some value))

pub one_more : {K : Type 0} (F : K → ℕ → Type 0) (eq : K → K → Bool) → ((a b : K) → eq a b ≡ true → a ≡ b) →
    (known new : K → Option ℕ) {key : K} {value : ℕ} →
    MayBePut eq known new key value → ((q : K) (made : ℕ) → known q ≡ Some made → F q made) → F key value → (q : K)
    (made : ℕ) → new q ≡ Some made → F q made
one_more F eq same known new {key} {value} put h f q made e = elim (put q) [
  | inl is ↦ h q made (sym is ∙ e)
  | inr is ↦ subst (λ k. F k made) (same key q is.0) (subst (F key) (some_nat value made (sym is.1 ∙ e)) f)
]

-- if the memo table maps one more node to a node, and R relates the trees of these two nodes, R still relates the two
-- trees of each entry
pub knows_more : (R : Tree → Tree → Type 0) (s t : Table) (known new : ℕ → Option ℕ) {key value : ℕ} →
    MayBePut eqb known new key value → Knows R s t known → IsNode s key → IsNode t value →
    R (tree_of s key) (tree_of t value) → Knows R s t new
knows_more R s t known new update h hk hv r = one_more (λ k v. IsNode s k × IsNode t v × R (tree_of s k) (tree_of t v))
    eqb eqb-true known new update h (hk, hv, r)

pub pair_same : (a b : ℕ × ℕ) → pair_eq a b ≡ true → a ≡ b
pair_same (x, y) (a, b) e = search (rules, and_both, eqb-true)

pub pairs_put : {E : Type 0} (R : Tree → Tree → Tree → Type 0) {s u t : Table} (known new : ℕ × ℕ → Option ℕ)
    {x y value : ℕ} → MayBePut pair_eq known new (x, y) value → Keeps u t → KnowsPairs R u known → IsNode s x →
    IsNode s y → MakesTree {E = E} s t (Ok value) (R (tree_of s x) (tree_of s y)) → KnowsPairs R t new
pairs_put R {t = t} known new update k h hx hy m a b =
    let j = m.keeps in
    one_more (λ q v. IsNode t q.0 × IsNode t q.1 × IsNode t v × R (tree_of t q.0) (tree_of t q.1) (tree_of t v)) pair_eq
    pair_same known new update (λ q. pairs_kept R known k h q.0 q.1)
    (j.held _ hx, j.held _ hy, m.held, rw (j.same _ hx, j.same _ hy) m.leaf) (a, b)
