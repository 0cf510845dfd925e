-- Ordered and reduced trees with the same leaves are equal. An ordered and reduced tree whose leaves depend only on
-- propositions from a level on tests no earlier proposition.
use Rattle.std.proofs.Common.{◌≡◌, ℕ, ◌+◌, ◌<◌, ◌≤◌, Bool, true, false, cond, Option, Some, None, eqb, refl, ap}
use Rattle.std.proofs.Common.{sym, ◌∙◌, arith, inl, inr}
use Rattle.std.proofs.lemmas.Bool.{cases_lt, cases_order, eq-eqb, eqb-false}
use Rattle.ps_diagram.specs.Tree.{Tree, empty, final, choice, leaf_at, IsFrom, IsReduced, IsBlind, HaveSameLeaves}
use Rattle.ps_diagram.specs.Tree.{IsTestOf}
use Rattle.ps_diagram.specs.Table.{Table, IsNode, IsSoundTable, tree_of}
use Rattle.ps_diagram.proofs.NodeTables.Cells.{bool_cases}

-- the letter f in which the proposition p is set to b
abbrev pub changed : (ℕ → Bool) → ℕ → Bool → ℕ → Bool
changed f p b q = cond (eqb q p) b (f q)

pub changed-here : (f : ℕ → Bool) (p : ℕ) (b : Bool) → changed f p b p ≡ b
changed-here f p b = rw (eq-eqb p p refl)

pub changed-other : (f : ℕ → Bool) (p : ℕ) (b : Bool) (q : ℕ) → (q ≡ p → ⊥) → changed f p b q ≡ f q
changed-other f p b q ne = grind (arith, bool_cases (eqb q p))

pub changed-later : (f : ℕ → Bool) (p : ℕ) (b : Bool) (q : ℕ) → p + 1 ≤ q → changed f p b q ≡ f q
changed-later f p b q le = changed-other f p b q (λ e. omega arith)

pub same_cond : (b : Bool) (x : Option ℕ) → x ≡ cond b x x
same_cond b x = grind arith

-- the leaves of an ordered tree depend only on the propositions that it may test, which are at least `level` and less
-- than n
pub from-blind : (level n : ℕ) (t : Tree) → IsFrom level n t → (f g : ℕ → Bool) →
    ((q : ℕ) → level ≤ q → q < n → f q ≡ g q) → leaf_at t f ≡ leaf_at t g
from-blind level n empty o f g e = refl
from-blind level n (final k) o f g e = refl
from-blind level n (choice p low high) o f g e =
    let later : (q : ℕ) → p + 1 ≤ q → q < n → f q ≡ g q = λ q h b. e q (omega (arith, o.0)) b in
    cc (e p o.0 o.1, from-blind (p + 1) n high o.3 f g later, from-blind (p + 1) n low o.2 f g later)

pub blind-from : (level n : ℕ) (t : Tree) → IsFrom level n t → IsBlind level t
blind-from level n t o f g e = from-blind level n t o f g (λ q h b. e q h)

-- at a letter in which p is set to v, a tree that tests p has the leaf of its high side if v is true, and of its low
-- side otherwise
pub side_leaf : (p : ℕ) (v : Bool) (t low high : Tree) → IsTestOf p low high t → IsBlind (p + 1) low →
    IsBlind (p + 1) high → (f : ℕ → Bool) → leaf_at t (changed f p v) ≡ cond v (leaf_at high f) (leaf_at low f)
side_leaf p v t low high h bl bh f = grind (arith, changed-here, changed-later)

choice_side : (n p : ℕ) (v : Bool) (low high : Tree) → IsFrom (p + 1) n low → IsFrom (p + 1) n high → (f : ℕ → Bool) →
    leaf_at (choice p low high) (changed f p v) ≡ cond v (leaf_at high f) (leaf_at low f)
choice_side n p v low high ol oh = grind (arith, blind-from (p + 1) n low ol, blind-from (p + 1) n high oh)

-- the tree that has the given leaf, or no leaf, at every letter
abbrev pub leaf_tree : Option ℕ → Tree
leaf_tree None = empty
leaf_tree (Some k) = final k

pub only_leaf : (level n : ℕ) (t : Tree) → IsFrom level n t → IsReduced t → (x : Option ℕ) →
    ((f : ℕ → Bool) → leaf_at t f ≡ x) → t ≡ leaf_tree x
only_leaf level n empty o r x e = ap leaf_tree (e (λ _. false))
only_leaf level n (final k) o r x e = ap leaf_tree (e (λ _. false))
only_leaf level n (choice p low high) o r x e =
    let same = λ (v : Bool) (f : ℕ → Bool). sym (choice_side n p v low high o.2 o.3 f) ∙ e (changed f p v) in
    absurd (r.0 (only_leaf (p + 1) n low o.2 r.1 x (same false) ∙ sym (only_leaf (p + 1) n high o.3 r.2 x (same true))))

-- every ordered and reduced tree with the same leaves as the tree t is equal to t
abbrev Only : ℕ → Tree → Type 0
Only n t = (u : Tree) (b : ℕ) → IsFrom b n u → IsReduced u → HaveSameLeaves t u → t ≡ u

-- if two trees that test p first have the same leaves, their low sides have the same leaves, and their high sides have
-- the same leaves
sides_alike : (n p : ℕ) (l h m g : Tree) → IsFrom (p + 1) n l → IsFrom (p + 1) n h → IsFrom (p + 1) n m →
    IsFrom (p + 1) n g → HaveSameLeaves (choice p l h) (choice p m g) → (v : Bool) (f : ℕ → Bool) →
    cond v (leaf_at h f) (leaf_at l f) ≡ cond v (leaf_at g f) (leaf_at m f)
sides_alike n p l h m g ol oh om og e v f = grind (arith, choice_side n p v l h ol oh f, choice_side n p v m g om og f)

module _ (n p : ℕ) (low high : Tree) (below : p < n) (ol : IsFrom (p + 1) n low) (oh : IsFrom (p + 1) n high)
    (differ : low ≡ high → ⊥) (il : Only n low) (ih : Only n high) where
  no_later : (u : Tree) → IsFrom (p + 1) n u → IsReduced u → HaveSameLeaves (choice p low high) u → ⊥
  no_later u o r e =
      let same = sides_alike n p low high u u ol oh o o (λ f. e f ∙ same_cond (f p) (leaf_at u f)) in
      differ (il u (p + 1) o r (same false) ∙ sym (ih u (p + 1) o r (same true)))

  same_choice : Only n (choice p low high)
  same_choice empty b o r e = absurd (no_later empty tt tt e)
  same_choice (final k) b o r e = absurd (no_later (final k) tt tt e)
  same_choice (choice q m g) b o r e = elim (cases_order p q) [
    | inl is ↦
        let same = sides_alike n q low high m g (rw is at ol) (rw is at oh) o.2 o.3 (rw is at e) in
        cc (is, il m (q + 1) o.2 r.1 (same false), ih g (q + 1) o.3 r.2 (same true))
    | inr (inl lt) ↦ absurd (no_later (choice q m g) (omega arith, o.1, o.2, o.3) r e)
    | inr (inr lt) ↦
        let t = choice p low high in
        let from : IsFrom (q + 1) n t = (omega arith, below, ol, oh) in
        let same = sides_alike n q t t m g from from o.2 o.3 (λ f. sym (same_cond (f q) (leaf_at t f)) ∙ e f) in
        absurd (r.0 (sym (same_choice m (q + 1) o.2 r.1 (same false)) ∙ same_choice g (q + 1) o.3 r.2 (same true)))
  ]

pub same_tree : (n : ℕ) (t : Tree) (a : ℕ) → IsFrom a n t → IsReduced t → (u : Tree) (b : ℕ) → IsFrom b n u →
    IsReduced u → HaveSameLeaves t u → t ≡ u
same_tree n empty a o r = λ u b ou ru e. sym (only_leaf b n u ou ru None (λ f. sym (e f)))
same_tree n (final k) a o r = λ u b ou ru e. sym (only_leaf b n u ou ru (Some k) (λ f. sym (e f)))
same_tree n (choice p low high) a o r =
    same_choice n p low high o.1 o.2 o.3 r.0 (same_tree n low (p + 1) o.2 r.1) (same_tree n high (p + 1) o.3 r.2)

pub from-level : (n : ℕ) (t : Tree) (level : ℕ) → IsFrom 0 n t → IsReduced t → IsBlind level t → IsFrom level n t
from-level n empty level o r b = tt
from-level n (final k) level o r b = tt
from-level n (choice p low high) level o r b = elim (cases_lt p level) [
  | inl lt ↦
      let side = λ (v : Bool). choice_side n p v low high o.2 o.3 in
      let same : HaveSameLeaves low high = λ f. sym (side false f)
      ∙ b (changed f p false) (changed f p true) (λ q h. let ne : q ≡ p → ⊥ = λ e. omega arith in
      changed-other f p false q ne ∙ sym (changed-other f p true q ne)) ∙ side true f in
      absurd (r.0 (same_tree n low (p + 1) o.2 r.1 high (p + 1) o.3 r.2 same))
  | inr le ↦ (le, o.1, o.2, o.3)
]

-- a test can be added to the table: its tree is ordered and reduced
pub record Ready (t : Table) (p low high : ℕ) : Type 0 where
  pub ordered : IsFrom 0 t.propositions (choice p (tree_of t low) (tree_of t high))
  pub reduced : IsReduced (choice p (tree_of t low) (tree_of t high))

pub ready : {t : Table} → IsSoundTable t → (p : ℕ) {low high : ℕ} → p < t.propositions → IsNode t low → IsNode t high →
    IsBlind (p + 1) (tree_of t low) → IsBlind (p + 1) (tree_of t high) → eqb low high ≡ false → Ready t p low high
ready {t} s p {low} {high} named hl hh bl bh ne = grind (arith, from-level, eqb-false)
