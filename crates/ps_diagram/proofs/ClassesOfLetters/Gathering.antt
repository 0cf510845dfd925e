-- The leaves of a node are collected from its low side first, each with the least letter that leads to it.
use Rattle.std.proofs.Common.{◌≡◌, ℕ, suc, ◌+◌, ◌*◌, ◌%◌, ◌^◌, ◌<◌, ◌≤◌, Bool, true, false, List, [], ◌∷◌, ◌++◌}
use Rattle.std.proofs.Common.{rules, Option, Some, None, nat_eq, eqb, refl, ap, sym, subst, ◌∙◌, arith, append_assoc}
use Rattle.std.proofs.Common.{inl, inr}
use Rattle.std.proofs.lemmas.Bool.{cases_order, eq-eqb, eqb-true}
use Rattle.std.proofs.lemmas.List.Elements.{All-from_recursion}
use Rattle.std.proofs.lemmas.List.Kept.{AllPairs-cons}
use Rattle.std.proofs.Math.Nat.{pow-suc}
use Rattle.std.proofs.Math.Pow.{pow_mono}
use Rattle.std.specs.Prelude.{AllPairs, Any, is_none, is_some, length}
use Rattle.std.specs.List.{AllByRecursion}
use Rattle.std.specs.Map.{lookup}
use Rattle.ps_label.specs.Truth.{is_in}
use Rattle.ps_diagram.specs.Leaves.{either_leaf}
use Rattle.ps_diagram.specs.Letters.{assignment, IsBefore, IsLeastLetter}
use Rattle.ps_diagram.specs.Inner.LeafTables.{place_in}
use Rattle.ps_diagram.specs.Inner.Numbered.{pair_at}
use Rattle.ps_diagram.specs.Inner.Parts.{IsChoice}
use Rattle.ps_diagram.specs.Reached.{LeadsToLeaf, AreLeaves, IsFound, IsFirstLetterTo, AreRising, Gathers, IsGathered}
use Rattle.ps_diagram.specs.Reached.{HaveFound}
use Rattle.ps_diagram.specs.Split.{root_of}
use Rattle.ps_diagram.specs.Table.{Table, tree_of}
use Rattle.ps_diagram.specs.Tree.{Tree, final, choice, leaf_at, IsFrom}
use Rattle.ps_diagram.proofs.NodeTables.Cells.{bool_cases}
use Rattle.ps_diagram.proofs.NodeTables.KnownLemmas.{MayBePut}
use Rattle.ps_diagram.proofs.NodeTables.LeafTables.{no_place_found, place_at}
use Rattle.ps_diagram.proofs.TreesFromData.Halving.{one_bit}
use Rattle.ps_diagram.proofs.Letters.{no_bit, top_bit, lower_bit}

-- ## Lists of leaves

lookup-append : (test : ℕ → Bool) (xs ys : List (ℕ × ℕ)) →
    lookup test (xs ++ ys) ≡ either_leaf (lookup test xs) (lookup test ys)
lookup-append test [] ys = refl
lookup-append test (x ∷ xs) ys = search (rules, bool_cases, lookup-append test xs ys)

none_front : (a b : Option ℕ) → either_leaf a b ≡ None → a ≡ None
none_front a b h = search rules

found_last : (xs : List (ℕ × ℕ)) (k z : ℕ) → lookup (nat_eq k) xs ≡ None →
    lookup (nat_eq k) (xs ++ (k, z) ∷ []) ≡ Some z
found_last xs k z e = rw (lookup-append (nat_eq k) xs ((k, z) ∷ []), e, eq-eqb k k refl)

pub found_more : (xs ys : List (ℕ × ℕ)) (leaf : ℕ) → IsFound xs leaf → IsFound (xs ++ ys) leaf
found_more xs ys leaf h = (h.0, rw (lookup-append (nat_eq leaf) xs ys, h.1))

all_map : (P Q : ℕ × ℕ → Type 0) (xs : List (ℕ × ℕ)) → ((x : ℕ × ℕ) → P x → Q x) → AllByRecursion P xs →
    AllByRecursion Q xs
all_map P Q [] f h = tt
all_map P Q (x ∷ xs) f h = (f x h.0, all_map P Q xs f h.1)

all_both : (P Q S : ℕ × ℕ → Type 0) (xs : List (ℕ × ℕ)) → ((x : ℕ × ℕ) → P x → Q x → S x) → AllByRecursion P xs →
    AllByRecursion Q xs → AllByRecursion S xs
all_both P Q S [] f h g = tt
all_both P Q S (x ∷ xs) f h g = (f x h.0 g.0, all_both P Q S xs f h.1 g.1)

all_append : (P : ℕ × ℕ → Type 0) (xs ys : List (ℕ × ℕ)) → AllByRecursion P xs → AllByRecursion P ys →
    AllByRecursion P (xs ++ ys)
all_append P [] ys h g = g
all_append P (x ∷ xs) ys h g = (h.0, all_append P xs ys h.1 g)

rising_append : (P Q : ℕ × ℕ → Type 0) (xs ys : List (ℕ × ℕ)) → ((x y : ℕ × ℕ) → P x → Q y → IsBefore x.1 y.1) →
    AllByRecursion P xs → AllByRecursion Q ys → AreRising xs → AreRising ys → AreRising (xs ++ ys)
rising_append P Q [] ys f ps qs h g = g
rising_append P Q (x ∷ xs) ys f ps qs h g = search (rules, all_append, all_map, rising_append P Q xs ys f ps.1 qs h.1 g)

pub some_of : (o : Option ℕ) → is_none o ≡ false → (z : ℕ) × (o ≡ Some z)
some_of o h = search rules

pub none_of : (o : Option ℕ) → is_none o ≡ true → o ≡ None
none_of o h = search rules

-- ## Nodes at which no new leaves are found

pub gathers_none : (n : ℕ) (t : Tree) (letter : ℕ) (old : List (ℕ × ℕ)) →
    ((f : ℕ → Bool) (leaf : ℕ) → leaf_at t f ≡ Some leaf → IsFound old leaf) → Gathers n t letter old old
gathers_none n t letter old h = search rules

pub leaf_found : {t : Tree} (k : ℕ) {letter : ℕ} (found : List (ℕ × ℕ)) → t ≡ final k →
    lookup (nat_eq k) found ≡ Some letter → (f : ℕ → Bool) (leaf : ℕ) → leaf_at t f ≡ Some leaf → IsFound found leaf
leaf_found k {letter} found e is f leaf leads =
    let there = rw e at leads in
    let same : k ≡ leaf = cc in
    rw (← same) (letter, is)

pub gathers_leaf : (n : ℕ) {t : Tree} (k letter : ℕ) (old : List (ℕ × ℕ)) {new : List (ℕ × ℕ)} → t ≡ final k →
    letter < 2 ^ root_of n t → lookup (nat_eq k) old ≡ None → new ≡ old ++ (k, letter) ∷ [] → Gathers n t letter old new
gathers_leaf n {t} k letter old {new} e lt none is = record {
  added = (k, letter) ∷ [];
  is = is;
  first = search rules;
  fresh = (none, tt);
  rising = (tt, tt);
  whole = leaf_found k new e (ap (lookup (nat_eq k)) is ∙ found_last old k letter none);
}

-- ## Tests

pub root_later : (n p : ℕ) (t : Tree) → IsFrom (p + 1) n t → p < n → p < root_of n t
root_later n p t h k = search rules

first_low : {n : ℕ} (p : ℕ) {letter : ℕ} {low : Tree} (high : Tree) → letter < 2 ^ p → p < root_of n low →
    {leaf place : ℕ} → IsFirstLetterTo n low letter leaf place → IsFirstLetterTo n (choice p low high) letter leaf place
first_low p {letter} {low} high lt root {place} h = search (rules, no_bit, bool_cases, cases_order)

first_high : {n : ℕ} (p letter : ℕ) (low : Tree) {high : Tree} → letter < 2 ^ p → p < root_of n high →
    {leaf place : ℕ} → ((f : ℕ → Bool) → leaf_at low f ≡ Some leaf → ⊥) →
    IsFirstLetterTo n high (letter + 2 ^ p) leaf place →
    IsFirstLetterTo n (choice p low high) letter leaf place
first_high p letter low {high} lt root {place} fresh h =
    let bit : is_in p place ≡ true = h.same p root ∙ top_bit p letter lt in
    record {
      within = h.within;
      there = rw bit h.there;
      same = λ q less. h.same q (omega arith) ∙ lower_bit p letter q less;
      least = λ x e before. elim (bool_cases (is_in p x)) [
        | inl is ↦
            let there = h.least x (rw is at e) before in
            elim (cases_order before.first p) [
              | inl same ↦ let not = rw same at before.is_false in cc
              | inr (inl less) ↦ sym (lower_bit p letter before.first less) ∙ there
              | inr (inr less) ↦
                  let none = no_bit (suc p) (letter + 2 ^ p) before.first (omega (arith, pow-suc 2 p)) (omega arith) in
                  cc
            ]
        | inr isnt ↦ absurd (fresh (assignment x) (rw isnt at e))
      ];
    }

low_before_high : {n : ℕ} (p : ℕ) {letter : ℕ} {low high : Tree} → letter < 2 ^ p → p < root_of n low →
    p < root_of n high → {k x m y : ℕ} → IsFirstLetterTo n low letter k x →
    IsFirstLetterTo n high (letter + 2 ^ p) m y → IsBefore x y
low_before_high p {letter} lt rl rh a b = grind (arith, no_bit, top_bit, lower_bit)

not_found : (found : List (ℕ × ℕ)) (leaf : ℕ) → lookup (nat_eq leaf) found ≡ None → IsFound found leaf → ⊥
not_found found leaf none h = cc

gathers_choice : {n : ℕ} (p : ℕ) {letter : ℕ} {low high : Tree} {old mid new : List (ℕ × ℕ)} → letter < 2 ^ p →
    p < root_of n low → p < root_of n high → Gathers n low letter old mid → Gathers n high (letter + 2 ^ p) mid new →
    Gathers n (choice p low high) letter old new
gathers_choice {n} p {letter} {low} {high} {old} {mid} {new} lt rl rh a b =
    let L : ℕ × ℕ → Type 0 = λ pair. IsFirstLetterTo n low letter pair.0 pair.1 in
    let H : ℕ × ℕ → Type 0 = λ pair. IsFirstLetterTo n high (letter + 2 ^ p) pair.0 pair.1 in
    let C : ℕ × ℕ → Type 0 = λ pair. IsFirstLetterTo n (choice p low high) letter pair.0 pair.1 in
    let N : ℕ × ℕ → Type 0 = λ pair. lookup (nat_eq pair.0) mid ≡ None in
    let O : ℕ × ℕ → Type 0 = λ pair. lookup (nat_eq pair.0) old ≡ None in
    record {
      added = a.added ++ b.added;
      is = rw (b.is, a.is) (append_assoc old a.added b.added);
      first = all_append C a.added b.added (all_map L C a.added (λ pair h. first_low p high lt rl h) a.first)
          (all_both N H C b.added (λ pair none h. search (rules, first_high, not_found, a.whole)) b.fresh b.first);
      fresh = search (rules, all_append, all_map, none_front, lookup-append, a.added, b.added, a.fresh, a.is, b.fresh);
      rising = search (rules, rising_append, low_before_high);
      whole = λ f leaf e. elim (bool_cases (f p)) [
        | inl is ↦ b.whole f leaf (rw is at e)
        | inr isnt ↦ rw b.is (found_more mid b.added leaf (a.whole f leaf (rw isnt at e)))
      ];
    }

pub begun_below : {t : Table} {node p low high : ℕ} (letter : ℕ) → IsChoice t node p low high →
    letter < 2 ^ root_of t.propositions (tree_of t node) → letter < 2 ^ p
begun_below letter h lt = rw h.tree at lt

pub begun_low : {t : Table} {node p low high : ℕ} (letter : ℕ) → IsChoice t node p low high →
    letter < 2 ^ root_of t.propositions (tree_of t node) → letter < 2 ^ root_of t.propositions (tree_of t low)
begun_low {t} {node} {p} {low} {high} letter h lt = search (rules, root_later, begun_below, pow_mono)

-- the code's shift of 1 by p computes 2^p, the number with only bit p
pub set_bit : {t : Table} {node p low high : ℕ} → IsChoice t node p low high → 1 * 2 ^ p % 2 ^ 64 ≡ 2 ^ p
set_bit {p} h = search (rules, one_bit)

pub begun_high : {t : Table} {node p low high : ℕ} (letter : ℕ) → IsChoice t node p low high →
    letter < 2 ^ root_of t.propositions (tree_of t node) → letter + 2 ^ p < 2 ^ root_of t.propositions (tree_of t high)
begun_high {t} {node} {p} {low} {high} letter h lt =
    let r = root_later t.propositions p (tree_of t high) h.high_from h.below in
    let le : suc p ≤ root_of t.propositions (tree_of t high) = omega (arith, r) in
    grind (
      arith,
      pow-suc 2 p,
      begun_below letter h lt,
      pow_mono {i = suc p} {j = root_of t.propositions (tree_of t high)} le,
    )

pub gathers_test : {t : Table} {node p low high letter : ℕ} {old mid new : List (ℕ × ℕ)} → IsChoice t node p low high →
    letter < 2 ^ root_of t.propositions (tree_of t node) →
    Gathers t.propositions (tree_of t low) letter old mid → Gathers t.propositions (tree_of t high) (letter + 2 ^ p) mid
    new → Gathers t.propositions (tree_of t node) letter old new
gathers_test {t} {node} {p} {low} {high} {letter} {old} {mid} {new} h lt a b =
    search (rules, gathers_choice, begun_below, root_later)

-- the list has all leaves of the visited nodes, also after one more node has been visited
pub seen_more : (t : Table) (old new : ℕ → Option ℕ) (node value : ℕ) (found : List (ℕ × ℕ)) →
    MayBePut eqb old new node value → HaveFound t (λ q. is_some (old q)) found →
    ((f : ℕ → Bool) (leaf : ℕ) → leaf_at (tree_of t node) f ≡ Some leaf → IsFound found leaf) →
    HaveFound t (λ q. is_some (new q)) found
seen_more t old new node value found put h own q is f leaf e = elim (put q) [
  | inl same ↦ h q (ap is_some (sym same) ∙ is) f leaf e
  | inr here ↦ own f leaf (rw (eqb-true node q here.0) e)
]

-- ## The leaves of the whole node

zero_bit : (q : ℕ) → is_in q 0 ≡ false
zero_bit q = no_bit 0 0 q (omega arith) (omega arith)

least_of : (t : Table) (node : ℕ) {leaf place : ℕ} → IsFirstLetterTo t.propositions (tree_of t node) 0 leaf place →
    IsLeastLetter (LeadsToLeaf t node leaf) place
least_of t node h = search (rules, zero_bit)

-- collecting leaves from an empty list finds each leaf with the least letter that leads to it
firsts : {t : Table} {node : ℕ} {found : List (ℕ × ℕ)} → IsGathered t node found →
    AllByRecursion (λ pair. IsFirstLetterTo t.propositions (tree_of t node) 0 pair.0 pair.1) found
firsts h = rw h.all.is h.all.first

any_of_found : (es : List (ℕ × ℕ)) (leaf : ℕ) {z : ℕ} → lookup (nat_eq leaf) es ≡ Some z →
    Any (λ pair. pair.0 ≡ leaf) es
any_of_found [] leaf e = cc
any_of_found ((k, place) ∷ es) leaf e = elim (bool_cases (nat_eq leaf k)) [
  | inl is ↦ (0, (k, place), omega arith, refl, sym (eqb-true leaf k is))
  | inr isnt ↦
      let later = any_of_found es leaf (rw isnt at e) in
      (suc later.0, later.1, omega (arith, later.2), later.3, later.4)
]

pairs_of : (es : List (ℕ × ℕ)) → AreRising es → AllPairs (λ a b. IsBefore a.1 b.1) es
pairs_of [] h = λ i j d lt below. absurd (omega arith)
pairs_of (x ∷ es) h = search (rules, AllPairs-cons, All-from_recursion, pairs_of es h.1)

pub are_leaves : {t : Table} {node : ℕ} {found : List (ℕ × ℕ)} → IsGathered t node found → AreLeaves t node found
are_leaves {t} {node} {found} h = record {
  least = grind (arith, All-from_recursion, all_map, least_of, firsts);
  each = search (rules, any_of_found, h.all.whole);
  rising = pairs_of found (subst AreRising (sym h.all.is) h.all.rising);
}

-- ## One leaf of the whole node

pub path_none : {t : Table} {node : ℕ} (leaf : ℕ) {found : List (ℕ × ℕ)} → IsGathered t node found →
    place_in found leaf ≡ None → (letter : ℕ) → LeadsToLeaf t node leaf letter → ⊥
path_none leaf {found} h none letter at =
    not_found found leaf (no_place_found found leaf none) (h.all.whole (assignment letter) leaf at.1)

pub path_some : {t : Table} {node : ℕ} (leaf i : ℕ) {found : List (ℕ × ℕ)} → IsGathered t node found →
    place_in found leaf ≡ Some i → (i < length found) × IsLeastLetter (LeadsToLeaf t node leaf) (pair_at found i).1
path_some {t} {node} leaf i {found} h e =
    let at = place_at found leaf i e in
    let all = are_leaves h in
    (at.0, rw at.1 at (all.least i (0, 0) at.0))
