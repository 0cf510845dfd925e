-- Diagrams whose leaves are node numbers.
use Rattle.std.proofs.Common.{◌≡◌, ℕ, ◌+◌, Bool, true, false, cond, Ok, Option, Some, ap, inl, inr, sym, ◌∙◌, rules}
use Rattle.std.specs.Prelude.{IsSomeAnd}
use Rattle.std.proofs.lemmas.Bool.{eqb-true}
use Rattle.ps_label.specs.Truth.{is_in}
use Rattle.ps_diagram.specs.Tree.{Tree, final, leaf_at, IsBlind, IsTestOf}
use Rattle.ps_diagram.specs.Table.{Table, IsNode, IsSoundTable, Keeps, MakesTree, tree_of}
use Rattle.ps_diagram.specs.Split.{IsSides, IsSplit}
use Rattle.ps_diagram.specs.Inner.Known.{Knows}
use Rattle.ps_diagram.specs.Inner.Rests.{mixed, AreLeading, AreTested, IsDivided, IsDividedTest, IsPlace, IsTested}
use Rattle.ps_diagram.specs.Inner.Rests.{KnowsTests, LeadsToNodes, test_eq}
use Rattle.ps_diagram.proofs.Canon.{same_cond}
use Rattle.ps_diagram.proofs.NodeTables.Cells.{bool_cases, keeps_refl}
use Rattle.ps_diagram.proofs.NodeTables.Keys.{and_both}
use Rattle.ps_diagram.proofs.TreeOperations.Clashing.{one_node}
use Rattle.ps_diagram.proofs.TreeOperations.Mapping.{on_side}
use Rattle.ps_diagram.specs.declared.split.Split.{Split}
use Rattle.ps_diagram.proofs.NodeTables.KnownLemmas.{MayBePut, keeps_trans, knows_kept, one_more}
use Rattle.ps_diagram.proofs.NodeTables.MadeDiagrams.{by-sides}

are_tested : {t : Table} {test : (ℕ → Bool) → Bool} {x y z : Option ℕ} {low high made : ℕ} → x ≡ Some low →
    y ≡ Some high → z ≡ Some made → IsNode t low → IsNode t high → IsNode t made →
    ((g : ℕ → Bool) → leaf_at (tree_of t made) g ≡ cond (test g) (leaf_at (tree_of t high) g)
    (leaf_at (tree_of t low) g)) → AreTested t test x y z
are_tested {low} {high} {made} low_is high_is made_is low_held high_held held leaf = search rules

-- the relations between a diagram and the nodes whose numbers are its leaves still hold when the table grows

pub divided_kept : {t u : Table} → Keeps t u → (mask : ℕ) (a d : Tree) → IsDivided t mask a d → IsDivided u mask a d
divided_kept k mask a d h f = let r = h f in (r.0, r.1, k.held r.0 r.2, λ g. rw (k.same r.0 r.2) (r.3 g))

pub leads_kept : {t u : Table} → Keeps t u → (level : ℕ) (d : Tree) → LeadsToNodes t level d → LeadsToNodes u level d
leads_kept k level d h f = let r = h f in (r.0, r.1, k.held r.0 r.2, rw (k.same r.0 r.2) r.3)

pub tested_kept : {t u : Table} → Keeps t u → {test : (ℕ → Bool) → Bool} {x y z : Option ℕ} → AreTested t test x y z →
    AreTested u test x y z
tested_kept k h = are_tested h.low_is h.high_is h.made_is (k.held h.low h.low_held) (k.held h.high h.high_held)
    (search rules) (λ g. rw (k.same h.made h.held, k.same h.high h.high_held, k.same h.low h.low_held) (h.leaf g))

-- Nodes with the same leaves are equal. The leaf of a diagram of cofactors (`IsDivided`) at a letter is the number of
-- the node for the letter's cofactor. So the diagram has the same leaf at two letters whose cofactors have the same
-- leaves.

pub divided_alike : {t : Table} → IsSoundTable t → (mask : ℕ) (a d : Tree) → IsDivided t mask a d → (f g : ℕ → Bool) →
    ((w : ℕ → Bool) → leaf_at a (mixed mask f w) ≡ leaf_at a (mixed mask g w)) → leaf_at d f ≡ leaf_at d g
divided_alike {t} s mask a d h f g e =
    let x = h f in
    let y = h g in
    x.1 ∙ ap (λ k. Some k) (one_node s x.2 y.2 (λ w. x.3 w ∙ e w ∙ sym (y.3 w))) ∙ sym y.1

pub divided_blind : {t : Table} → IsSoundTable t → (mask level : ℕ) (a d : Tree) → IsDivided t mask a d →
    IsBlind level a → IsBlind level d
divided_blind {t} s mask level a d h b f g e = divided_alike s mask a d h f g (λ w. search rules)

pub divided_leads : (t : Table) (mask level : ℕ) (a d : Tree) → IsDivided t mask a d → IsBlind level a →
    LeadsToNodes t level d
divided_leads t mask level a d h b f =
    let x = h f in search rules

tested_alike : {t : Table} → IsSoundTable t → (p : ℕ) (a b d : Tree) → IsTested t p a b d → (f g : ℕ → Bool) →
    leaf_at a f ≡ leaf_at a g → leaf_at b f ≡ leaf_at b g → leaf_at d f ≡ leaf_at d g
tested_alike {t} s p a b d h f g ea eb =
    let x = h f in
    let y = h g in
    let low : x.low ≡ y.low = cc in
    let high : x.high ≡ y.high = cc in
    let made : x.made ≡ y.made = one_node s x.held y.held (λ w. cc (x.leaf w, y.leaf w)) in
    cc

pub tested_blind : {t : Table} → IsSoundTable t → (p level : ℕ) (a b d : Tree) → IsTested t p a b d → IsBlind level a →
    IsBlind level b → IsBlind level d
tested_blind {t} s p level a b d h ba bb f g e = tested_alike s p a b d h f g (ba f g e) (bb f g e)

-- to divide a node, its low side and its high side are divided, and from the two diagrams, whose leaves are numbers of
-- nodes, one diagram is made

-- if a tree has the same leaf at every letter, or no leaf at any, it is its own cofactor for each letter
pub divided_here : {t u : Table} → Keeps t u → (mask : ℕ) {node place : ℕ} (a : Tree) {d : Tree} (leaf : Option ℕ) →
    ((f : ℕ → Bool) → leaf_at a f ≡ leaf) → IsNode t node → ((f : ℕ → Bool) → leaf_at (tree_of t node) f ≡ leaf) →
    place ≡ node → d ≡ final place → IsDivided u mask a d
divided_here k mask {node} a leaf all held c named is f = (node, rw (is, named), k.held node held, search rules)

divided_test : (t : Table) (mask p : ℕ) (a al ah d dl dh : Tree) → IsTestOf p al ah a →
    IsDividedTest t mask p dl dh d → IsDivided t mask al dl → IsDivided t mask ah dh → IsDivided t mask a d
divided_test t mask p a al ah d dl dh ta h il ih f =
    let x = h f in
    let l = il f in
    let r = ih f in
    search rules

-- if p is in the mask, the diagram d that tests p and has the sides a and b meets the condition `IsDividedTest`
pub divided_in : (t : Table) (mask p level : ℕ) (a b d : Tree) → is_in p mask ≡ true → LeadsToNodes t level a →
    LeadsToNodes t level b → IsTestOf p a b d → IsDividedTest t mask p a b d
divided_in t mask p level a b d is la lb td f =
    let x = la f in
    let y = lb f in
    search (rules, bool_cases, are_tested)

pub tested_same : (t : Table) (p level : ℕ) (a : Tree) → LeadsToNodes t level a → IsTested t p a a a
tested_same t p level a h f =
    let x = h f in
    are_tested x.1 x.1 x.1 x.2 x.2 x.2 (λ g. same_cond (g p) (leaf_at (tree_of t x.0) g))

-- the memo tables `known` and `tests` of `divided` stay right when the table of nodes grows, and `tests` also when an
-- entry is added

pub known_divided_kept : (s : Table) {t u : Table} (mask : ℕ) (known : ℕ → Option ℕ) → Keeps t u →
    Knows (IsDivided t mask) s t known → Knows (IsDivided u mask) s u known
known_divided_kept s {t} {u} mask known k h =
    knows_kept (IsDivided u mask) s s t u known (keeps_refl s) k (λ node made e. let r = h node made e in
    (r.0, r.1, divided_kept k mask (tree_of s node) (tree_of t made) r.2))

pub tests_kept : {t u : Table} (known : ℕ × ℕ × ℕ → Option ℕ) → Keeps t u → KnowsTests t known → KnowsTests u known
tests_kept known k h p a b made e = search (rules, tested_kept)

pub test_same : (a b : ℕ × ℕ × ℕ) → test_eq a b ≡ true → a ≡ b
test_same (n, x, y) (p, a, b) e = search (rules, and_both, eqb-true)

pub tests_put : {E : Type 0} {s u t : Table} (known new : ℕ × ℕ × ℕ → Option ℕ) (n : ℕ) {x y value : ℕ} →
    MayBePut test_eq known new (n, x, y) value → Keeps u t → KnowsTests u known → IsNode s x → IsNode s y →
    MakesTree {E = E} s t (Ok value) (IsTested t n (tree_of s x) (tree_of s y)) → KnowsTests t new
tests_put {t = t} known new n put k h hx hy m p a b =
    let j = m.keeps in
    one_more (λ q v. IsNode t q.1 × IsNode t q.2 × IsNode t v × IsTested t q.0 (tree_of t q.1) (tree_of t q.2)
    (tree_of t v)) test_eq test_same known new put (λ q. tests_kept known k h q.0 q.1 q.2)
    (j.held _ hx, j.held _ hy, m.held, rw (j.same _ hx, j.same _ hy) m.leaf) (p, a, b)

-- diagrams in which each leaf is the number of a node

pub names_of : (t : Table) (level : ℕ) (d : Tree) → LeadsToNodes t level d → (f : ℕ → Bool) →
    IsSomeAnd (leaf_at d f) (IsNode t)
names_of t level d h f = let r = h f in rw r.1 r.2

pub place_of : (t : Table) (level : ℕ) (d : Tree) → LeadsToNodes t level d → (node : ℕ) →
    ((f : ℕ → Bool) → leaf_at d f ≡ Some node) → IsNode t node × IsBlind level (tree_of t node)
place_of t level d h node e =
    let r = h (λ _. false) in
    search rules

-- At every letter, the trees a, b and d have as leaves the numbers of the nodes `low`, `high` and `made`. If `made`
-- tests p and has the sides `low` and `high`, the three trees meet the condition `IsTested`
pub tested_between : {t u v : Table} → Keeps t u → Keeps u v → (p : ℕ) (a b d : Tree) {low high made : ℕ} →
    ((f : ℕ → Bool) → leaf_at a f ≡ Some low) → ((f : ℕ → Bool) → leaf_at b f ≡ Some high) →
    ((f : ℕ → Bool) → leaf_at d f ≡ Some made) → IsNode t low → IsNode t high → IsNode u made →
    IsTestOf p (tree_of t low) (tree_of t high) (tree_of u made) → IsTested v p a b d
tested_between k m p a b d {low} {high} {made} ea eb ed hl hh hm h f =
    let j = keeps_trans k m in
    search (rules, are_tested)

side_kept : {t u : Table} → Keeps t u → (p : ℕ) {node : ℕ} → IsNode t node →
    LeadsToNodes t (p + 1) (tree_of t node) → LeadsToNodes u (p + 1) (tree_of u node)
side_kept {t} k p {node} held h = rw (k.same node held) (leads_kept k (p + 1) (tree_of t node) h)

-- if two nodes meet the condition `AreLeading`, so do their low sides, and so do their high sides, also in a table that
-- has grown
pub leading_side : (b : Bool) {t u : Table} {p low high : ℕ} {s : Split} → Keeps t u → IsSplit t low high s →
    AreLeading t p low high → AreLeading u p (cond b s.left.high s.left.low) (cond b s.right.high s.right.low)
leading_side b {t} {p = p} k s l = record {
  named = rw k.propositions l.named;
  low_held = k.held _ (held b s.first_sides);
  high_held = k.held _ (held b s.second_sides);
  low_leads = side_kept k p (held b s.first_sides) (on_side (IsPlace t (p + 1)) b s.first_sides l.low_leads);
  high_leads = side_kept k p (held b s.second_sides) (on_side (IsPlace t (p + 1)) b s.second_sides l.high_leads);
}
  where
    held : (b : Bool) {t : Table} {node q low high : ℕ} → IsSides t node q low high → IsNode t (cond b high low)
    held true s = s.high_held
    held false s = s.low_held

-- The diagram `made` meets the condition `IsTested` for the nodes a and b. Three calls make `low` from the low sides of
-- a and b, `high` from their high sides, and then `made`, a test with the sides `low` and `high`. The table may grow in
-- each call
pub sides_tested : {E : Type 0} {t u v w : Table} (p : ℕ) {a b low high made : ℕ} {s : Split} → IsSplit t a b s →
    MakesTree {E = E} t u (Ok low) (IsTested u p (tree_of t s.left.low) (tree_of t s.right.low)) →
    MakesTree {E = E} u v (Ok high) (IsTested v p (tree_of u s.left.high) (tree_of u s.right.high)) →
    MakesTree {E = E} v w (Ok made) (IsTestOf s.proposition (tree_of v low) (tree_of v high)) →
    MakesTree {E = E} t w (Ok made) (IsTested w p (tree_of t a) (tree_of t b))
sides_tested p {s = s} sides l h test =
    let sa = sides.first_sides in
    let sb = sides.second_sides in
    let k = l.keeps in
    let m = h.keeps in
    by-sides l h test (λ f. rw (sa.leaf f, sb.leaf f, test.leaf f) (elim (bool_cases (f s.proposition)) [
      | inl is ↦ rw (is, ← k.same _ sa.high_held, ← k.same _ sb.high_held) (tested_kept test.keeps (h.leaf f))
      | inr is ↦ rw (is, m.same _ l.held) (tested_kept test.keeps (tested_kept m (l.leaf f)))
    ]))

-- A diagram of cofactors (`IsDivided`) stays right when the table grows. The diagram of a node's cofactors is made from
-- those of its two sides.
pub divided_side : {t u : Table} → Keeps t u → (mask : ℕ) (a : Tree) {node : ℕ} → IsNode t node →
    IsDivided t mask a (tree_of t node) → IsDivided u mask a (tree_of u node)
divided_side {t} k mask a {node} held h = rw (k.same node held) (divided_kept k mask a (tree_of t node) h)

pub sides_divided : {E : Type 0} {s t u v w : Table} (mask : ℕ) {a p al ah low high made : ℕ} → IsSides s a p al ah →
    MakesTree {E = E} t u (Ok low) (IsDivided u mask (tree_of s al)) →
    MakesTree {E = E} u v (Ok high) (IsDivided v mask (tree_of s ah)) →
    MakesTree {E = E} v w (Ok made) (IsDividedTest w mask p (tree_of v low) (tree_of v high)) →
    MakesTree {E = E} t w (Ok made) (IsDivided w mask (tree_of s a))
sides_divided mask sides l h test =
    let k = h.keeps in
    let m = test.keeps in
    let held = l.held in
    let low = l.leaf in
    let high = h.leaf in
    let made = test.leaf in
    by-sides l h test (search (rules, divided_test, divided_kept, divided_side))
