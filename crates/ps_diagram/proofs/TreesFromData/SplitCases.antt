-- A diagram by cases is made from the diagrams of its two sides, or from the only leaf.
use Rattle.std.proofs.Common.{◌≡◌, ℕ, zero, suc, ◌+◌, ◌-◌, ◌<◌, ◌≤◌, Bool, true, false, cond, List, length, get_or}
use Rattle.std.proofs.Common.{Option, Some, refl, sym, ap, subst, ◌∙◌, arith, ◌++◌, take, drop, IsPermutation}
use Rattle.std.specs.List.{Contains, filter, slice_get}
use Rattle.std.specs.Prelude.{◌&&◌}
use Rattle.std.proofs.lemmas.List.{get_or_default, take-append-drop}
use Rattle.std.proofs.lemmas.Option.{slice_get_within, slice_get-get_or}
use Rattle.std.proofs.lemmas.List.Sorted.{Contains-permutation, IsPermutation-append_left, IsPermutation-sym}
use Rattle.std.proofs.lemmas.List.Sorted.{IsPermutation-trans}
use Rattle.ps_diagram.specs.Letters.{assignment}
use Rattle.ps_diagram.specs.Products.{IsLeafByCases, all_allowed, allows, meets}
use Rattle.ps_diagram.specs.Split.{IsConstant}
use Rattle.ps_diagram.specs.Table.{Table, IsNode, Keeps, leaf_of, tree_of}
use Rattle.ps_diagram.specs.Tree.{Tree, leaf_at, IsBlind, IsTestOf}
use Rattle.ps_diagram.specs.Inner.Splitting.{AreUntested, IsByCases, IsProduct, holds_from}
use Rattle.ps_diagram.specs.declared.cases.Case.{Case}
use Rattle.ps_diagram.proofs.TreesFromData.Alone.{test_blind}
use Rattle.ps_diagram.proofs.TreesFromData.CaseLists.{from_filter, in_filter}
use Rattle.ps_diagram.proofs.NodeTables.Keys.{and_both}
use Rattle.ps_diagram.proofs.TreesFromData.Literals.{product_blind}

same_some : (x y : Case) → Some x ≡ Some y → x ≡ y
same_some x y e = cc

-- ## Propositions without literals

-- a rule that allows both truth values of each of the next `gap` propositions decides by the propositions after them
skip : (may : ℕ → Bool → Bool) (f : ℕ → Bool) (level gap count total : ℕ) → total ≡ gap + count →
    ((q : ℕ) → level ≤ q → q < level + gap → (b : Bool) → may q b ≡ true) →
    all_allowed may f level total ≡ all_allowed may f (level + gap) count
unfolding all_allowed
skip may f level zero count total is free =
    let none : level + 0 ≡ level = omega arith in
    let same : total ≡ count = omega arith in
    rw (none, same) refl
skip may f level (suc gap) count zero is free = absurd (omega arith)
skip may f level (suc gap) count (suc total) is free =
    let next : level + suc gap ≡ level + 1 + gap = omega arith in
    rw (free level (omega arith) (omega arith) (f level), next)
    (skip may f (level + 1) gap count total (omega arith) (λ q le lt. free q (omega arith) (omega arith)))

-- the first proposition on which a rule may not allow both truth values is p
first_is : (may : ℕ → Bool → Bool) (f : ℕ → Bool) (n level p : ℕ) → level ≤ p → p < n →
    ((q : ℕ) → level ≤ q → q < p → (b : Bool) → may q b ≡ true) →
    all_allowed may f level (n - level) ≡ (may p (f p) && all_allowed may f (p + 1) (n - (p + 1)))
unfolding all_allowed
first_is may f n level p le lt free =
    let there : level + (p - level) ≡ p = omega arith in
    let more : n - p ≡ suc (n - (p + 1)) = omega arith in
    skip may f level (p - level) (n - p) (n - level) (omega arith) (λ q low high. free q low (omega arith))
    ∙ rw (there, more) refl

-- a rule that allows all truth values
all_free : (may : ℕ → Bool → Bool) (f : ℕ → Bool) (n level : ℕ) →
    ((q : ℕ) → level ≤ q → q < n → (b : Bool) → may q b ≡ true) → all_allowed may f level (n - level) ≡ true
unfolding all_allowed
all_free may f n level free =
    skip may f level (n - level) 0 (n - level) (omega arith) (λ q low high. free q low (omega arith))

-- ## One leaf

-- the tree that has the only leaf of all cases, none of which has a literal
pub untested_made : {t : Table} {level node : ℕ} {cases : List Case} {other : Tree} (first : Case) →
    Contains cases first →
    AreUntested level t.propositions cases → IsNode t node →
    ((f : ℕ → Bool) → leaf_at (tree_of t node) f ≡ Some first.leaf) →
    ((case : Case) → Contains cases case → (case.leaf ≡ first.leaf) × (case.kind ≡ first.kind)) →
    IsByCases t level cases other node
untested_made {t} {level} {node} {cases} {other} first there free held leaf alike = record {
  held = held;
  later = λ f g same. leaf f ∙ sym (leaf g);
  leaf = λ f. record {
    each = λ case in_cases holds. leaf f ∙ ap Some (sym (alike case in_cases).0);
    none = λ no. absurd (no first there (all_free (allows first.product) f t.propositions level (free first there)));
    kind = λ one more in_one in_more holds holds_too. (alike one in_one).1 ∙ sym (alike more in_more).1;
  };
}

-- the diagram of no case
pub none_made : {t : Table} {level other : ℕ} {cases : List Case} → length cases < 1 → IsNode t other →
    IsConstant (tree_of t other) → IsByCases t level cases (tree_of t other) other
none_made {t} {level} {other} {cases} few held constant = record {
  held = held;
  later = λ f g same. constant.1 f ∙ sym (constant.1 g);
  leaf = λ f. record {
    each = λ case (k, low, is) holds. absurd (omega arith);
    none = λ no. refl;
    kind = λ one more (k, low, is) in_more holds holds_too. absurd (omega arith);
  };
}

by_bool : (b : Bool) (x : ℕ) (miss : Option ℕ) → (b ≡ true → ⊥) → cond b (Some x) miss ≡ miss
by_bool false x miss never = refl
by_bool true x miss never = absurd (never refl)

-- the diagram of one case
pub one_made : {t u v : Table} {level other node : ℕ} {cases : List Case} (hit : ℕ) (case : Case) → length cases < 2 →
    slice_get cases 0 ≡ Some case → IsNode t other → IsConstant (tree_of t other) → Keeps t u → Keeps u v →
    ((f : ℕ → Bool) → leaf_at (tree_of u hit) f ≡ Some case.leaf) → IsNode v node →
    IsProduct u.propositions level case.product (tree_of u hit) (tree_of u other) (tree_of v node) →
    IsByCases v level cases (tree_of t other) node
one_made {t} {u} {v} {level} {other} {node} {cases} hit case few at other_held constant first second leaf held path =
    record {
      held = held;
      later = product_blind (Some case.leaf, leaf) (rw other_tree constant) path;
      leaf = λ f.
          let is : leaf_at (tree_of v node) f ≡ cond (holds_from v.propositions level f case) (Some case.leaf)
          (leaf_at (tree_of t other) f) = rw (← other_tree, ← leaf f) (path_now.leaf f) in
          record {
            each = λ x in_cases holds. let same = only x in_cases in rw (is, same, rw same at holds) refl;
            none = λ never.
                is ∙ by_bool (holds_from v.propositions level f case) case.leaf (leaf_at (tree_of t other) f)
                (never case there);
            kind = λ one more in_one in_more holds holds_too.
                ap (λ (c : Case). c.kind) (only one in_one ∙ sym (only more in_more));
          };
    }
  where
    other_tree : tree_of u other ≡ tree_of t other
    other_tree = first.same other other_held

    path_now : IsProduct v.propositions level case.product (tree_of u hit) (tree_of u other) (tree_of v node)
    path_now = subst (λ n. IsProduct n level case.product (tree_of u hit) (tree_of u other) (tree_of v node))
        (sym second.propositions) path

    within : 0 < length cases
    within = slice_get_within cases 0 case at

    first_case : get_or cases 0 case ≡ case
    first_case = same_some (get_or cases 0 case) case (sym (slice_get-get_or cases 0 case within) ∙ at)

    there : Contains cases case
    there = (0, within, first_case)

    only : (x : Case) → Contains cases x → x ≡ case
    only x (k, low, is) =
        let zeroth : k ≡ 0 = omega arith in
        sym is ∙ ap (λ i. get_or cases i x) zeroth ∙ get_or_default cases 0 x case within ∙ first_case

-- ## Two sides

-- the cases of a side are those that allow the truth value b of the proposition p
pub record IsSideOf (p : ℕ) (b : Bool) (cases side : List Case) : Type 0 where
  pub from : (case : Case) → Contains side case → Contains cases case × (allows case.product p b ≡ true)
  pub there : (case : Case) → Contains cases case → allows case.product p b ≡ true → Contains side case

pub side_from : (p : ℕ) (b : Bool) (cases moved side : List Case) → IsPermutation cases moved →
    side ≡ filter (λ case. allows case.product p b) moved → IsSideOf p b cases side
side_from p b cases moved side same is = record {
  from = λ case c.
      let r = from_filter (λ case. allows case.product p b) moved case (rw is at c) in
      (Contains-permutation moved cases case (IsPermutation-sym cases moved same) r.0, r.1);
  there = λ case c allowed.
      rw is (in_filter (λ case. allows case.product p b) moved case (Contains-permutation cases moved case same c)
      allowed);
}

both_true : (a b : Bool) → a ≡ true → b ≡ true → (a && b) ≡ true
both_true a b e f = rw (e, f) refl

-- a letter at which the proposition p has the truth value b has the leaf of the side for b
at_side : {n level p : ℕ} (b : Bool) {cases side : List Case} {miss leaf : Option ℕ} (f : ℕ → Bool) → level ≤ p →
    p < n → AreUntested level p cases → f p ≡ b → IsSideOf p b cases side →
    IsLeafByCases (holds_from n (p + 1) f) side miss leaf → IsLeafByCases (holds_from n level f) cases miss leaf
at_side {n} {level} {p} b {cases} {side} {miss} {leaf} f le lt free is of_side by = record {
  each = λ case c h. let s = split case c h in by.each case s.0 s.1;
  none = λ no. by.none (λ case c h. let r = of_side.from case c in no case r.0 (join case r.0 r.1 h));
  kind = λ one more c d h k. let s = split one c h in let t = split more d k in by.kind one more s.0 t.0 s.1 t.1;
}
  where
    first : (case : Case) → Contains cases case →
        holds_from n level f case ≡ (allows case.product p b && holds_from n (p + 1) f case)
    first case c = first_is (allows case.product) f n level p le lt (free case c)
        ∙ ap (λ v. allows case.product p v && holds_from n (p + 1) f case) is

    split : (case : Case) → Contains cases case → holds_from n level f case ≡ true →
        Contains side case × (holds_from n (p + 1) f case ≡ true)
    split case c h =
        let both = and_both (allows case.product p b) (holds_from n (p + 1) f case) (sym (first case c) ∙ h) in
        (of_side.there case c both.0, both.1)

    join : (case : Case) → Contains cases case → allows case.product p b ≡ true → holds_from n (p + 1) f case ≡ true →
        holds_from n level f case ≡ true
    join case c allowed h = first case c
        ∙ both_true (allows case.product p b) (holds_from n (p + 1) f case) allowed h

over : {m n : ℕ} (level : ℕ) (f : ℕ → Bool) {cases : List Case} {miss leaf : Option ℕ} → m ≡ n →
    IsLeafByCases (holds_from n level f) cases miss leaf → IsLeafByCases (holds_from m level f) cases miss leaf
over {m} {n} level f {cases} {miss} {leaf} is =
    subst (λ k. IsLeafByCases (holds_from k level f) cases miss leaf) (sym is)

-- the diagram by cases from those of its two sides
pub sides_made : {old u v w : Table} {cases lows highs : List Case} {level p other low high made : ℕ} → level ≤ p →
    p < old.propositions → AreUntested level p cases → IsNode old other → Keeps old u → Keeps u v → Keeps v w →
    IsSideOf p false cases lows → IsSideOf p true cases highs → IsByCases u (p + 1) lows (tree_of old other) low →
    IsByCases v (p + 1) highs (tree_of u other) high → IsNode w made →
    IsTestOf p (tree_of v low) (tree_of v high) (tree_of w made) → IsByCases w level cases (tree_of old other) made
sides_made {old} {u} {v} {w} {cases} {lows} {highs} {level} {p} {other} {low} {high} {made} le lt free held first second
    third low_side high_side of_low of_high made_held test =
    record { held = made_held; later = later; leaf = λ f. leaf f (f p) refl }
  where
    low_tree : tree_of v low ≡ tree_of u low
    low_tree = second.same low of_low.held

    other_tree : tree_of u other ≡ tree_of old other
    other_tree = first.same other held

    later : IsBlind level (tree_of w made)
    later f g same = test_blind p (tree_of v low) (tree_of v high) (tree_of w made) test (rw low_tree of_low.later)
        of_high.later f g (λ q high. same q (omega arith))

    count_u : u.propositions ≡ old.propositions
    count_u = first.propositions

    count_v : v.propositions ≡ old.propositions
    count_v = second.propositions ∙ count_u

    count_w : w.propositions ≡ old.propositions
    count_w = third.propositions ∙ count_v

    leaf : (f : ℕ → Bool) (b : Bool) → f p ≡ b → IsLeafByCases (holds_from w.propositions level f) cases
        (leaf_at (tree_of old other) f) (leaf_at (tree_of w made) f)
    leaf f false is = rw (test f, is, low_tree) (over level f count_w
        (at_side false f le lt free is low_side (over (p + 1) f (sym count_u) (of_low.leaf f))))
    leaf f true is = rw (test f, is) (over level f count_w
        (at_side true f le lt free is high_side (over (p + 1) f (sym count_v) (rw other_tree at (of_high.leaf f)))))

-- at each letter, the diagram by cases from the first proposition on has the leaf of the cases that hold there
pub at_letter : {t : Table} {node other n : ℕ} {cases : List Case} {miss : Tree} → IsByCases t 0 cases miss node →
    t.propositions ≡ n → ((f : ℕ → Bool) → leaf_at miss f ≡ Some other) → (letter : ℕ) →
    IsLeafByCases (λ case. meets n case.product letter) cases (Some other) (leaf_of t node letter)
at_letter {t} {node} {other} {n} {cases} {miss} by same is letter =
    let f = assignment letter in
    let all : t.propositions - 0 ≡ n = omega (arith, same) in
    rw is at (subst (λ k. IsLeafByCases (λ case. all_allowed (allows case.product) f 0 k) cases (leaf_at miss f)
    (leaf_of t node letter)) all (by.leaf f))

-- ## The order of the cases

-- the first k cases of a reordered list are reordered once more
pub moved_front : (k : ℕ) {cases moved : List Case} {front : List Case} → IsPermutation cases moved →
    IsPermutation (take k moved) front → IsPermutation cases (front ++ drop k moved)
moved_front k {cases} {moved} {front} first second = IsPermutation-trans cases moved (front ++ drop k moved) first
    (rw take-append-drop at (IsPermutation-append_left (drop k moved) (take k moved) front second))

-- the list is reordered, then its first cases, then the whole list, and then its first cases again
pub moved_twice : (lows highs : ℕ) {cases moved front again last : List Case} → IsPermutation cases moved →
    IsPermutation (take lows moved) front → IsPermutation (front ++ drop lows moved) again →
    IsPermutation (take highs again) last → IsPermutation cases (last ++ drop highs again)
moved_twice lows highs {cases} {moved} {front} {again} first second third fourth = moved_front highs
    (IsPermutation-trans cases (front ++ drop lows moved) again (moved_front lows first second) third) fourth
