-- Trees of which the propositions of a mask are hidden.
use Rattle.std.proofs.Common.{◌≡◌, ℕ, Result, ◌/◌, ◌+◌, ◌^◌, ◌<◌, ◌≤◌, Bool, Ok, true, false, cond, refl, sym, ap, ◌∙◌}
use Rattle.std.proofs.Common.{bit_or, subst, arith, inl, inr, Option, Some, None}
use Rattle.std.specs.Option.{MatchOption, IsSome, option_map}
use Rattle.std.proofs.Math.Bool.{or-false, or-true}
use Rattle.std.proofs.lemmas.Bool.{cases_lt, eq-eqb, ne_eqb}
use Rattle.std.proofs.lemmas.Nat.{or_lt, pow_below, pow_pos}
use Rattle.std.proofs.lemmas.Nat.Bits.{bit_at-lt, shr_and_one}
use Rattle.std.specs.Prelude.{bit_and}
use Rattle.ps_label.specs.Truth.{is_in}
use Rattle.ps_diagram.specs.Inner.Hiding.{hidden_leaf, IsHidden, IsHiddenTest}
use Rattle.ps_diagram.specs.Inner.Chosen.{IsChosen}
use Rattle.ps_diagram.specs.Inner.Parts.{IsChoice}
use Rattle.ps_diagram.specs.Inner.Rests.{mixed}
use Rattle.ps_diagram.specs.Leaves.{chosen, either_leaf}
use Rattle.ps_diagram.specs.Letters.{assignment}
use Rattle.ps_diagram.specs.Table.{Table, MakesTree, tree_of}
use Rattle.ps_diagram.specs.Tree.{Tree, empty, final, choice, leaf_at, IsBlind, IsFrom}
use Rattle.ps_diagram.proofs.TreesFromData.Alone.{bit_true}
use Rattle.ps_diagram.proofs.Canon.{blind-from}
use Rattle.ps_diagram.proofs.NodeTables.Cells.{bool_cases, keeps_refl, true_is_not_false}
use Rattle.ps_diagram.proofs.Letters.{no_bit}
use Rattle.ps_diagram.proofs.TreesFromData.Literals.{in_or, in_power}
use Rattle.ps_diagram.proofs.NodeTables.MadeDiagrams.{by-last, by-sides}
use Rattle.ps_diagram.specs.Inner.Bits.{Agree}

-- ## The steps of the call

-- the leaf with hidden propositions depends only on the propositions from `level` on that are not hidden
pub hidden_same : (mask level n : ℕ) (a : Tree) → IsFrom level n a → (f g : ℕ → Bool) →
    ((q : ℕ) → level ≤ q → is_in q mask ≡ false → f q ≡ g q) → hidden_leaf mask a f ≡ hidden_leaf mask a g
hidden_same mask level n empty o f g e = refl
hidden_same mask level n (final k) o f g e = refl
hidden_same mask level n (choice p low high) o f g e =
    let later : (q : ℕ) → p + 1 ≤ q → is_in q mask ≡ false → f q ≡ g q = λ q le isnt. e q (omega (arith, o.0)) isnt in
    let l = hidden_same mask (p + 1) n low o.2 f g later in
    let r = hidden_same mask (p + 1) n high o.3 f g later in
    elim (bool_cases (is_in p mask)) [
      | inl is ↦ rw (is, l, r) refl
      | inr isnt ↦ rw (isnt, e p o.0 isnt, l, r) refl
    ]

pub hidden_blind : (mask level n : ℕ) (a d : Tree) → IsFrom level n a → IsHidden mask a d → IsBlind level d
hidden_blind mask level n a d o is f g e = is f ∙ hidden_same mask level n a o f g (λ q le _. e q le) ∙ sym (is g)

-- the propositions are hidden in the low side of a test first, then in its high side, while the table grows
pub hidden_sides : {E : Type 0} (mask : ℕ) {t u v w : Table} {a p al ah low high made : ℕ} → IsChoice t a p al ah →
    MakesTree {E = E} t u (Ok low) (IsHidden mask (tree_of t al)) →
    MakesTree {E = E} u v (Ok high) (IsHidden mask (tree_of u ah)) →
    MakesTree {E = E} v w (Ok made) (IsHiddenTest mask p (tree_of v low) (tree_of v high)) →
    MakesTree {E = E} t w (Ok made) (IsHidden mask (tree_of t a))
hidden_sides mask part l g test = by-sides l g test (λ f. rw (
  part.tree,
  test.leaf f,
  g.keeps.same _ l.held,
  l.leaf f,
  g.leaf f,
  l.keeps.same _ part.high_held,
) refl)

pub bit_not_zero : (mask p : ℕ) → (bit_and (mask / 2 ^ p) 1 ≡ 0 → ⊥) → is_in p mask ≡ true
bit_not_zero mask p ne =
    let one : bit_and (mask / 2 ^ p) 1 ≡ 1 = omega (arith, shr_and_one mask p, bit_at-lt mask p) in bit_true mask p one

pub first_chosen : (l h : Option ℕ) → chosen l l h ≡ either_leaf l h
first_chosen None h = refl
first_chosen (Some y) h = refl

-- the proposition of a test is hidden
pub test_whether : {E : Type 0} {s t : Table} {result : Result ℕ E} (mask p low high : ℕ) → is_in p mask ≡ true →
    MakesTree s t result (IsChosen (tree_of s low) (tree_of s low) (tree_of s high)) →
    MakesTree s t result (IsHiddenTest mask p (tree_of s low) (tree_of s high))
test_whether {s = s} mask p low high is = by-last (keeps_refl s)
    (λ made choice f. rw (is, choice f) (first_chosen (leaf_at (tree_of s low) f) (leaf_at (tree_of s high) f)))

-- ## The least letter

in_more : (q p y : ℕ) → (q ≡ p → ⊥) → is_in q (bit_or y (2 ^ p)) ≡ is_in q y
in_more q p y ne = rw (in_or q y (2 ^ p), in_power q p, ne_eqb q p ne) (or-false (is_in q y))

in_same : (p y : ℕ) → is_in p (bit_or y (2 ^ p)) ≡ true
in_same p y = rw (in_or p y (2 ^ p), in_power p p, eq-eqb p p refl) (or-true (is_in p y))

pub none_some : {leaf : Option ℕ} → leaf ≡ None → IsSome leaf → ⊥
none_some none some = true_is_not_false (sym (subst IsSome none some))

-- no letter that agrees with f outside the mask leads to a leaf
pub record LeadsNowhere (mask : ℕ) (a : Tree) (f : ℕ → Bool) : Type 0 where
  pub none : (g : ℕ → Bool) → Agree mask f g → leaf_at a g ≡ None

-- at the proposition q of the mask, g is false and y is true; between the level and q, they agree on the mask
pub record IsEarlier (mask level : ℕ) (g : ℕ → Bool) (y q : ℕ) : Type 0 where
  pub masked : is_in q mask ≡ true
  pub is_false : g q ≡ false
  pub is_true : is_in q y ≡ true
  pub same : (r : ℕ) → level ≤ r → r < q → is_in r mask ≡ true → g r ≡ is_in r y

-- y is the least letter over those propositions of the mask that are at least `level` and less than n such that f, with
-- the values of y on the mask, leads to a leaf
pub record IsLeastAt (mask level n : ℕ) (a : Tree) (f : ℕ → Bool) (y : ℕ) : Type 0 where
  pub own : (q : ℕ) → is_in q mask ≡ false → is_in q y ≡ false
  pub later : (q : ℕ) → q < level → is_in q y ≡ false
  pub within : y < 2 ^ n
  pub there : IsSome (leaf_at a (mixed mask (assignment y) f))
  pub least : (g : ℕ → Bool) → Agree mask f g → IsSome (leaf_at a g) → (q : ℕ) → IsEarlier mask level g y q → ⊥

module _ (mask level n p : ℕ) (low high : Tree) (f : ℕ → Bool) (le : level ≤ p) (lt : p < n)
    (from_high : IsFrom (p + 1) n high) where
  later_false : (y : ℕ) → ((q : ℕ) → q < p + 1 → is_in q y ≡ false) → (q : ℕ) → q < level → is_in q y ≡ false
  later_false y h q before = h q (omega arith)

  -- a proposition after p at which a letter is earlier
  on_later : {g : ℕ → Bool} {y z q : ℕ} → IsEarlier mask level g z q → is_in q y ≡ true →
      ((r : ℕ) → p < r → is_in r z ≡ is_in r y) → IsEarlier mask (p + 1) g y q
  on_later e is more = record {
    masked = e.masked;
    is_false = e.is_false;
    is_true = is;
    same = λ r after before in_mask. e.same r (omega arith) before in_mask ∙ more r (omega arith);
  }

  -- p is hidden, and the low side leads to a leaf
  on_low : {y : ℕ} → is_in p mask ≡ true → IsLeastAt mask (p + 1) n low f y →
      IsLeastAt mask level n (choice p low high) f y
  on_low {y} is h =
      let off : is_in p y ≡ false = h.later p (omega arith) in record {
        own = h.own;
        later = later_false y h.later;
        within = h.within;
        there = rw (is, off) h.there;
        least = λ g agree leaf q e. elim (bool_cases (g p)) [
          | inl here ↦ elim (cases_lt p q) [
            | inl after ↦ true_is_not_false (sym here ∙ e.same p le after is ∙ off)
            | inr before ↦ true_is_not_false (sym e.is_true ∙ h.later q (omega arith))
          ]
          | inr not ↦ h.least g agree (rw not at leaf) q (on_later e e.is_true (λ r after. refl))
        ];
      }

  -- p is hidden, and only the high side leads to a leaf
  on_high : {y : ℕ} → is_in p mask ≡ true → LeadsNowhere mask low f → IsLeastAt mask (p + 1) n high f y →
      IsLeastAt mask level n (choice p low high) f (bit_or y (2 ^ p))
  on_high {y} is none h =
      let z = bit_or y (2 ^ p) in
      let other : (q : ℕ) → (q ≡ p → ⊥) → is_in q z ≡ is_in q y = λ q ne. in_more q p y ne in
      let same : leaf_at high (mixed mask (assignment z) f) ≡ leaf_at high (mixed mask (assignment y) f) =
      blind-from (p + 1) n high from_high (mixed mask (assignment z) f) (mixed mask (assignment y) f)
      (λ q after. ap (λ (b : Bool). cond (is_in q mask) b (f q)) (other q (λ e. omega arith))) in
      record {
        own = λ q isnt. other q (λ e. true_is_not_false (sym is ∙ ap (λ (r : ℕ). is_in r mask) (sym e) ∙ isnt))
            ∙ h.own q isnt;
        later = λ q before. other q (λ e. omega arith) ∙ h.later q (omega arith);
        within = or_lt n y (2 ^ p) h.within (pow_below p n lt);
        there = rw (is, in_same p y, same) h.there;
        least = λ g agree leaf q e. elim (bool_cases (g p)) [
          | inl here ↦
              let ne : q ≡ p → ⊥ = λ eq. true_is_not_false (sym here ∙ ap g (sym eq) ∙ e.is_false) in
              h.least g agree (rw here at leaf) q
              (on_later e (sym (other q ne) ∙ e.is_true) (λ r after. other r (λ eq. omega arith)))
          | inr not ↦ none_some (none.none g agree) (rw not at leaf)
        ];
      }

  nowhere : LeadsNowhere mask low f → LeadsNowhere mask high f → LeadsNowhere mask (choice p low high) f
  nowhere l h = record { none = λ g agree. grind (arith, l.none g agree, h.none g agree) }

  joined : (l r : Option ℕ) → is_in p mask ≡ true →
      MatchOption l (LeadsNowhere mask low f) (IsLeastAt mask (p + 1) n low f) →
      MatchOption r (LeadsNowhere mask high f) (IsLeastAt mask (p + 1) n high f) →
      MatchOption (either_leaf l (option_map (λ y. bit_or y (2 ^ p)) r)) (LeadsNowhere mask (choice p low high) f)
      (IsLeastAt mask level n (choice p low high) f)
  joined (Some y) r is l h = on_low is l
  joined None (Some y) is l h = on_high is l h
  joined None None is l h = nowhere l h

  -- p is not hidden
  side : (v : Bool) (g : ℕ → Bool) → g p ≡ v → leaf_at (choice p low high) g ≡ leaf_at (cond v high low) g
  side true g is = rw is refl
  side false g is = rw is refl

  passed : (v : Bool) (leaf : Option ℕ) → is_in p mask ≡ false → f p ≡ v →
      MatchOption leaf (LeadsNowhere mask (cond v high low) f) (IsLeastAt mask (p + 1) n (cond v high low) f) →
      MatchOption leaf (LeadsNowhere mask (choice p low high) f) (IsLeastAt mask level n (choice p low high) f)
  passed v None isnt is h = record { none = λ g agree. side v g (sym (agree p isnt) ∙ is) ∙ h.none g agree }
  passed v (Some y) isnt is h =
      let m = mixed mask (assignment y) f in
      let here : m p ≡ v = rw isnt is in
      record {
        own = h.own;
        later = later_false y h.later;
        within = h.within;
        there = subst IsSome (sym (side v m here)) h.there;
        least = λ g agree leaf q e. h.least g agree (subst IsSome (side v g (sym (agree p isnt) ∙ is)) leaf) q
            (on_later e e.is_true (λ r after. refl));
      }

-- the least letter, over the mask, that together with f leads to a leaf of the tree
abbrev pub least_leaf : ℕ → Tree → (ℕ → Bool) → Option ℕ
least_leaf mask empty f = None
least_leaf mask (final k) f = Some 0
least_leaf mask (choice p low high) f = cond (is_in p mask)
    (either_leaf (least_leaf mask low f) (option_map (λ y. bit_or y (2 ^ p)) (least_leaf mask high f)))
    (cond (f p) (least_leaf mask high f) (least_leaf mask low f))

zero_off : (q : ℕ) → is_in q 0 ≡ false
zero_off q = no_bit 0 0 q (omega arith) (omega arith)

pub least_hidden : (mask level n : ℕ) (a : Tree) → IsFrom level n a → (f : ℕ → Bool) →
    MatchOption (least_leaf mask a f) (LeadsNowhere mask a f) (IsLeastAt mask level n a f)
least_hidden mask level n empty o f = record { none = λ g agree. refl }
least_hidden mask level n (final k) o f = record {
  own = λ q _. zero_off q;
  later = λ q _. zero_off q;
  within = pow_pos n;
  there = refl;
  least = λ g agree leaf q e. true_is_not_false (sym e.is_true ∙ zero_off q);
}
least_hidden mask level n (choice p low high) o f =
    let l = least_hidden mask (p + 1) n low o.2 f in
    let h = least_hidden mask (p + 1) n high o.3 f in
    elim (bool_cases (is_in p mask)) [
      | inl is ↦ rw is (joined mask level n p low high f o.0 o.1 o.3 (least_leaf mask low f)
          (least_leaf mask high f) is l h)
      | inr isnt ↦ elim (bool_cases (f p)) [
        | inl here ↦ rw (isnt, here) (passed mask level n p low high f o.0 o.1 o.3 true
            (least_leaf mask high f) isnt here h)
        | inr not ↦ rw (isnt, not) (passed mask level n p low high f o.0 o.1 o.3 false
            (least_leaf mask low f) isnt not l)
      ]
    ]
