-- The leaves of diagrams with hidden propositions, and of diagrams behind a letter, at letters given as numbers.
use Rattle.std.proofs.Common.{◌≡◌, ℕ, ◌+◌, Bool, true, false, refl, sym, ap, ◌∙◌, arith, inl, inr, Option, Some, None}
use Rattle.std.proofs.Common.{◌^◌, bit_or, subst}
use Rattle.std.specs.Option.{MatchOption, IsSome, option_map}
use Rattle.ps_label.specs.Truth.{is_in}
use Rattle.ps_diagram.specs.Hidden.{HasLeafBehind, HasNoLeafBehind, IsBehind, IsClear, IsLeafBehind}
use Rattle.ps_diagram.specs.Hidden.{IsOver, IsProjection}
use Rattle.ps_diagram.specs.Inner.Hiding.{hidden_leaf, IsHidden}
use Rattle.ps_diagram.specs.Inner.Rests.{mixed, IsCofactor}
use Rattle.ps_diagram.specs.Leaves.{either_leaf}
use Rattle.ps_diagram.specs.Letters.{assignment, AgreeOff, IsLeastLetter}
use Rattle.ps_diagram.specs.Table.{Table, IsNode, IsSoundTable, leaf_of, tree_of}
use Rattle.ps_diagram.specs.Tree.{Tree, empty, final, choice, leaf_at}
use Rattle.ps_diagram.proofs.Canon.{from-blind}
use Rattle.ps_diagram.proofs.NodeTables.Cells.{bool_cases, true_is_not_false}
use Rattle.ps_diagram.proofs.TreeOperations.Hiding.{hidden_same, least_hidden, least_leaf, none_some}
use Rattle.ps_diagram.proofs.TreeOperations.Hiding.{IsEarlier}
use Rattle.ps_diagram.proofs.TreeOperations.Hiding.{IsLeastAt, LeadsNowhere}
use Rattle.ps_diagram.proofs.ClassesOfLetters.LetterSums.{in_sum}

match_ones : (o : Option ℕ) {P Q : Type 0} {F : ℕ → Type 0} (G : ℕ → Type 0) → (P → Q) → ((x : ℕ) → F x → G 1) →
    MatchOption o P F → MatchOption (option_map (λ _. 1) o) Q G
match_ones None G none some h = none h
match_ones (Some x) G none some h = some x h

one_joined : (p : ℕ) (l h : Option ℕ) → either_leaf (option_map (λ _. 1) l) (option_map (λ _. 1) h)
    ≡ option_map (λ _. 1) (either_leaf l (option_map (λ y. bit_or y (2 ^ p)) h))
one_joined p (Some y) h = refl
one_joined p None (Some y) = refl
one_joined p None None = refl

-- the leaf 1 stands where the least letter does
pub ones : (mask : ℕ) (a : Tree) (f : ℕ → Bool) →
    hidden_leaf mask a f ≡ option_map (λ _. 1) (least_leaf mask a f)
ones mask empty f = refl
ones mask (final k) f = refl
ones mask (choice p low high) f = elim (bool_cases (is_in p mask)) [
  | inl is ↦ rw (is, ones mask low f, ones mask high f)
      (one_joined p (least_leaf mask low f) (least_leaf mask high f))
  | inr isnt ↦ elim (bool_cases (f p)) [
    | inl here ↦ rw (isnt, here) (ones mask high f)
    | inr not ↦ rw (isnt, not) (ones mask low f)
  ]
]

-- the diagram `made` has the leaves of the node, with the propositions of the mask hidden
module _ {s : Table} (mask node : ℕ) (sound : IsSoundTable s) (held : IsNode s node) where
  -- the leaf at x + y is the leaf at the letter mixed of y on the mask and of x elsewhere
  pub sum_leaf : (x y : ℕ) → IsClear mask x → IsOver mask y →
      leaf_at (tree_of s node) (mixed mask (assignment y) (assignment x)) ≡ leaf_of s node (x + y)
  sum_leaf x y clear over = from-blind 0 s.propositions (tree_of s node) (sound.ordered node held)
      (mixed mask (assignment y) (assignment x)) (assignment (x + y)) (λ q _ _. sym (in_sum mask x y clear over q))

  no_leaf : (x : ℕ) → IsClear mask x → LeadsNowhere mask (tree_of s node) (assignment x) → HasNoLeafBehind s node mask x
  no_leaf x clear none y b =
      let agree = λ (q : ℕ) (isnt : is_in q mask ≡ false). sym (rw isnt at (in_sum mask x y clear b.own q)) in
      none_some (none.none (assignment (x + y)) agree) b.leaf

  there : (x y : ℕ) → IsClear mask x → IsLeastAt mask 0 s.propositions (tree_of s node) (assignment x) y →
      HasLeafBehind s node mask x y
  there x y clear h =
      record { within = h.within; own = h.own; leaf = subst IsSome (sum_leaf x y clear h.own) h.there }

  pub least : (x y : ℕ) → IsClear mask x → IsLeastAt mask 0 s.propositions (tree_of s node) (assignment x) y →
      IsLeastLetter (HasLeafBehind s node mask x) y
  least x y clear h = record {
    here = there x y clear h;
    none_before = λ z b before.
        let q = before.first in
        let bit : (r : ℕ) → is_in r mask ≡ true → is_in r (x + z) ≡ is_in r z =
        λ r is. rw is at (in_sum mask x z clear b.own r) in
        let agree = λ (r : ℕ) (isnt : is_in r mask ≡ false). sym (rw isnt at (in_sum mask x z clear b.own r)) in
        elim (bool_cases (is_in q mask)) [
          | inl is ↦
              let earlier : IsEarlier mask 0 (assignment (x + z)) y q = record {
                masked = is;
                is_false = bit q is ∙ before.is_false;
                is_true = before.is_true;
                same = λ r _ lt in_mask. bit r in_mask ∙ before.same r lt;
              } in
              h.least (assignment (x + z)) agree b.leaf q earlier
          | inr isnt ↦ true_is_not_false (sym before.is_true ∙ h.own q isnt)
        ];
  }

  -- ## Whether there is a leaf

  pub is_projection : {t : Table} (made : ℕ) → IsHidden mask (tree_of s node) (tree_of t made) →
      IsProjection s t node mask made
  is_projection {t} made h = record {
    others = λ u v off. h (assignment u)
        ∙ hidden_same mask 0 s.propositions (tree_of s node) (sound.ordered node held) (assignment u) (assignment v)
        (λ q _ isnt. off q isnt) ∙ sym (h (assignment v));
    leaf = λ x clear. rw (h (assignment x), ones mask (tree_of s node) (assignment x))
        (match_ones (least_leaf mask (tree_of s node) (assignment x)) (IsLeafBehind s node mask x)
        (no_leaf x clear) (λ y l. record { one = refl; letter = y; there = there x y clear l })
        (least_hidden mask 0 s.propositions (tree_of s node) (sound.ordered node held) (assignment x)));
  }

  -- ## Behind a letter

  pub is_behind : {t : Table} (letter made : ℕ) → IsOver mask letter →
      IsCofactor mask letter (tree_of s node) (tree_of t made) →
      IsBehind s t node mask letter made
  is_behind {t} letter made over h = record {
    others = λ u v off. h (assignment u)
        ∙ from-blind 0 s.propositions (tree_of s node) (sound.ordered node held) (mixed mask (assignment letter)
        (assignment u)) (mixed mask (assignment letter) (assignment v)) (λ q _ _. elim (bool_cases (is_in q mask)) [
          | inl is ↦ rw is refl
          | inr isnt ↦ rw isnt (off q isnt)
        ]) ∙ sym (h (assignment v));
    leaf = λ y clear.
        let turned : y + letter ≡ letter + y = omega arith in
        h (assignment y) ∙ sum_leaf y letter clear over ∙ ap (λ x. leaf_of s node x) turned;
  }
