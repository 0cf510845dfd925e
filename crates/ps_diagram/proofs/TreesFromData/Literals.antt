-- Lemmas about products (conjunctions) of literals: a literal is added to a product, or a product is made into a tree.
use Rattle.std.proofs.Common.{◌≡◌, ℕ, zero, suc, ◌+◌, ◌-◌, ◌*◌, ◌^◌, ◌%◌, ◌<◌, ◌≤◌, Bool, true, false, cond, Option}
use Rattle.std.proofs.Common.{refl, sym, ◌∙◌, ◌/◌, ◌∷◌, [], List, arith, nat_eq, bit_or, ◌⊎◌, inl, inr}
use Rattle.std.specs.Prelude.{◌&&◌, ◌||◌}
use Rattle.std.proofs.lemmas.Nat.{one_shl}
use Rattle.std.proofs.lemmas.Nat.Bits.{bit_at_or, bit_at-lt, bit_at-pow_same, bit_at-pow_other}
use Rattle.ps_label.specs.Expression.{literal_expressions, operands_in, signed}
use Rattle.ps_label.specs.Truth.{is_in}
use Rattle.ps_diagram.specs.Letters.{assignment}
use Rattle.ps_diagram.specs.Products.{allows, all_allowed, are_products, is_product, meets}
use Rattle.ps_diagram.specs.Split.{IsConstant}
use Rattle.ps_diagram.specs.Tree.{Tree, leaf_at, IsBlind, IsTestOf}
use Rattle.ps_diagram.specs.Inner.Splitting.{IsProduct}
use Rattle.ps_diagram.specs.declared.products.Product.{Product}

pub in_or : (p a b : ℕ) → is_in p (bit_or a b) ≡ (is_in p a || is_in p b)
in_or p a b = grind (arith, bit_at_or a b p, bit_at-lt a p, bit_at-lt b p)

pub in_power : (p m : ℕ) → is_in p (2 ^ m) ≡ nat_eq p m
in_power p m = grind (arith, bit_at-pow_same m, bit_at-pow_other m p)

in_more : (q p bits : ℕ) → p < 64 → is_in q (bit_or bits (1 * 2 ^ p % 2 ^ 64)) ≡ (is_in q bits || nat_eq q p)
in_more q p bits small = rw (one_shl p 64 small, in_or q bits (2 ^ p), in_power q p) refl

-- the order of two conjuncts does not matter
and_swap : (a rest here : Bool) → ((a && here) && rest) ≡ ((a && rest) && here)
and_swap false rest here = refl
and_swap true false false = refl
and_swap true false true = refl
and_swap true true false = refl
and_swap true true true = refl

pub and_in : (a rest here : Bool) → (a && (rest && here)) ≡ ((a && rest) && here)
and_in false rest here = refl
and_in true rest here = refl

at_or_above : (level p : ℕ) → level ≤ p → (level ≡ p) ⊎ (level < p)
at_or_above level p le = grind arith

-- two rules on the truth values of propositions from `level` on agree if they differ only at a proposition before
-- `level`
same_allowed : (may more : ℕ → Bool → Bool) (f : ℕ → Bool) (p level count : ℕ) →
    ((q : ℕ) (b : Bool) → (q ≡ p → ⊥) → more q b ≡ may q b) → p < level →
    all_allowed more f level count ≡ all_allowed may f level count
unfolding all_allowed
same_allowed may more f p level zero same before = refl
same_allowed may more f p level (suc count) same before =
    rw (same level (f level) (omega arith), same_allowed may more f p (level + 1) count same (omega arith)) refl

-- a rule with one more condition on one proposition allows exactly the letters that meet the old rule and the condition
one_more_allowed : (may more : ℕ → Bool → Bool) (f : ℕ → Bool) (p level count : ℕ) (here : Bool) →
    ((q : ℕ) (b : Bool) → (q ≡ p → ⊥) → more q b ≡ may q b) → more p (f p) ≡ (may p (f p) && here) → level ≤ p →
    p < level + count → all_allowed more f level count ≡ (all_allowed may f level count && here)
unfolding all_allowed
one_more_allowed may more f p level zero here same one le lt = absurd (omega arith)
one_more_allowed may more f p level (suc count) here same one le lt = elim (at_or_above level p le) [
  | inl is ↦ rw (is, one, same_allowed may more f p (p + 1) count same (omega arith))
      (and_swap (may p (f p)) (all_allowed may f (p + 1) count) here)
  | inr above ↦ rw (
    same level (f level) (omega arith),
    one_more_allowed may more f p (level + 1) count here same one (omega arith) (omega arith),
  ) (and_in (may level (f level)) (all_allowed may f (level + 1) count) here)
]

or_false : (a : Bool) → (a || false) ≡ a
or_false false = refl
or_false true = refl

or_true : (a : Bool) → (a || true) ≡ true
or_true false = refl
or_true true = refl

and_true : (a : Bool) → (a && true) ≡ a
and_true false = refl
and_true true = refl

and_false : (a : Bool) → (a && false) ≡ false
and_false false = refl
and_false true = refl

other_number : (q p : ℕ) → (q ≡ p → ⊥) → nat_eq q p ≡ false
other_number q p ne = grind arith

same_number : (p : ℕ) → nat_eq p p ≡ true
same_number p = grind arith

-- the product of literals that is made from `product` by adding the literal that p is true
abbrev pub with_positive : Product → ℕ → Product
with_positive product p = record {
  positive = bit_or product.positive (1 * 2 ^ p % 2 ^ 64);
  negative = product.negative;
}

abbrev pub with_negative : Product → ℕ → Product
with_negative product p = record {
  positive = product.positive;
  negative = bit_or product.negative (1 * 2 ^ p % 2 ^ 64);
}

positive_same : (product : Product) (p : ℕ) → p < 64 → (q : ℕ) (b : Bool) → (q ≡ p → ⊥) →
    allows (with_positive product p) q b ≡ allows product q b
positive_same product p small q true ne = refl
positive_same product p small q false ne =
    rw (in_more q p product.positive small, other_number q p ne, or_false (is_in q product.positive)) refl

negative_same : (product : Product) (p : ℕ) → p < 64 → (q : ℕ) (b : Bool) → (q ≡ p → ⊥) →
    allows (with_negative product p) q b ≡ allows product q b
negative_same product p small q false ne = refl
negative_same product p small q true ne =
    rw (in_more q p product.negative small, other_number q p ne, or_false (is_in q product.negative)) refl

positive_here : (product : Product) (p : ℕ) → p < 64 → (b : Bool) →
    allows (with_positive product p) p b ≡ (allows product p b && b)
positive_here product p small true = sym (and_true (cond (is_in p product.negative) false true))
positive_here product p small false =
    rw (in_more p p product.positive small, same_number p, or_true (is_in p product.positive))
    (sym (and_false (cond (is_in p product.positive) false true)))

negative_here : (product : Product) (p : ℕ) → p < 64 → (b : Bool) →
    allows (with_negative product p) p b ≡ (allows product p b && cond b false true)
negative_here product p small false = sym (and_true (cond (is_in p product.positive) false true))
negative_here product p small true =
    rw (in_more p p product.negative small, same_number p, or_true (is_in p product.negative))
    (sym (and_false (cond (is_in p product.negative) false true)))

pub meets_positive : (product : Product) (p n letter : ℕ) → p < 64 → p < n →
    meets n (with_positive product p) letter ≡ (meets n product letter && is_in p letter)
meets_positive product p n letter small lt =
    one_more_allowed (allows product) (allows (with_positive product p)) (assignment letter) p 0 n (is_in p letter)
    (positive_same product p small) (positive_here product p small (is_in p letter)) (omega arith) (omega arith)

pub meets_negative : (product : Product) (p n letter : ℕ) → p < 64 → p < n →
    meets n (with_negative product p) letter ≡ (meets n product letter && cond (is_in p letter) false true)
meets_negative product p n letter small lt =
    one_more_allowed (allows product) (allows (with_negative product p)) (assignment letter) p 0 n
    (cond (is_in p letter) false true) (negative_same product p small)
    (negative_here product p small (is_in p letter)) (omega arith) (omega arith)

-- the empty product is true at each letter
none_allows : (q : ℕ) (b : Bool) → allows (record { positive = 0; negative = 0 }) q b ≡ true
none_allows q true = grind arith
none_allows q false = grind arith

signed_is_product : (negated : Bool) (p : ℕ) → is_product (signed negated p) ≡ true
signed_is_product true p = refl
signed_is_product false p = refl

pub literals_are_products : (codes : List ℕ) → are_products (operands_in (literal_expressions codes)) ≡ true
literals_are_products [] = refl
literals_are_products (code ∷ codes) =
    rw (signed_is_product (nat_eq (code % 2) 1) (code / 2)) (literals_are_products codes)

pub meets_none : (f : ℕ → Bool) (level n : ℕ) →
    all_allowed (allows (record { positive = 0; negative = 0 })) f level n ≡ true
unfolding all_allowed
meets_none f level zero = refl
meets_none f level (suc n) = rw (none_allows level (f level)) (meets_none f (level + 1) n)

same_letters : (may : ℕ → Bool → Bool) (f g : ℕ → Bool) (level count : ℕ) → ((q : ℕ) → level ≤ q → f q ≡ g q) →
    all_allowed may f level count ≡ all_allowed may g level count
unfolding all_allowed
same_letters may f g level zero same = refl
same_letters may f g level (suc count) same =
    rw (same level (omega arith), same_letters may f g (level + 1) count (λ q le. same q (omega arith))) refl

constant_same : (t : Tree) → IsConstant t → (f g : ℕ → Bool) → leaf_at t f ≡ leaf_at t g
constant_same t c f g = c.1 f ∙ sym (c.1 g)

pub constant_blind : (t : Tree) → IsConstant t → (level : ℕ) → IsBlind level t
constant_blind t c level f g same = constant_same t c f g

-- b chooses one of two conditions, and the condition chooses one of two leaves
tested : (b x y rest : Bool) (one other : Option ℕ) →
    cond b (cond (x && rest) one other) (cond (y && rest) one other) ≡ cond (cond b x y && rest) one other
tested true x y rest one other = refl
tested false x y rest one other = refl

side_leaf : (hit miss : Tree) (b : Bool) (node side : Tree) (f : ℕ → Bool) (rest : Bool) → side ≡ cond b miss node →
    leaf_at node f ≡ cond rest (leaf_at hit f) (leaf_at miss f) →
    leaf_at side f ≡ cond (cond b false true && rest) (leaf_at hit f) (leaf_at miss f)
side_leaf hit miss true node side f rest e h = rw e refl
side_leaf hit miss false node side f rest e h = rw e h

no_literal : (positive negative : Bool) → (positive || negative) ≡ false → (positive ≡ false) × (negative ≡ false)
no_literal positive negative h = grind arith

same_leaf : (b : Bool) (leaf : Option ℕ) → cond b leaf leaf ≡ leaf
same_leaf true leaf = refl
same_leaf false leaf = refl

-- A product is made into a tree: the literals on propositions from `level` on lead to the tree `hit` where they are
-- true, and elsewhere to the tree `miss`.
module _ {n : ℕ} {product : Product} {hit miss : Tree} (hit_constant : IsConstant hit) (miss_constant : IsConstant miss)
  where
    pub product_blind : {level : ℕ} {t : Tree} → IsProduct n level product hit miss t → IsBlind level t
    product_blind {level} {t} h f g same = h.leaf f ∙ rw (
      same_letters (allows product) f g level (n - level) same,
      constant_same hit hit_constant f g,
      constant_same miss miss_constant f g,
    ) (sym (h.leaf g))

    pub product_begins : IsProduct n n product hit miss hit
    unfolding all_allowed
    product_begins = record { leaf = λ f. let none : n - n ≡ 0 = omega arith in rw none refl }

    pub side_blind : {level : ℕ} (b : Bool) (node side : Tree) → side ≡ cond b miss node →
        IsProduct n level product hit miss node → IsBlind level side
    side_blind {level} true node side e h = rw e (constant_blind miss miss_constant level)
    side_blind false node side e h = rw e (product_blind h)

    -- each iteration of the loop, which goes through the propositions from the last to the first, adds the product's
    -- literal on one more proposition to the tree
    pub product_next : {i : ℕ} (node low high made : Tree) → 0 < i → i ≤ n → IsProduct n i product hit miss node →
        low ≡ cond (is_in (i - 1) product.positive) miss node → high ≡ cond (is_in (i - 1) product.negative) miss node →
        IsTestOf (i - 1) low high made → IsProduct n (i - 1) product hit miss made
    unfolding all_allowed
    product_next {i} node low high made some le h lo hi is = record {
      leaf = λ f.
          let next : i - 1 + 1 ≡ i = omega arith in
          let count : n - (i - 1) ≡ suc (n - i) = omega arith in
          let rest = all_allowed (allows product) f i (n - i) in
          let down : leaf_at low f ≡ cond (cond (is_in (i - 1) product.positive) false true && rest) (leaf_at hit f)
          (leaf_at miss f) = side_leaf hit miss (is_in (i - 1) product.positive) node low f rest lo (h.leaf f) in
          let up : leaf_at high f ≡ cond (cond (is_in (i - 1) product.negative) false true && rest) (leaf_at hit f)
          (leaf_at miss f) = side_leaf hit miss (is_in (i - 1) product.negative) node high f rest hi (h.leaf f) in
          rw (count, next, is f, down, up) (tested (f (i - 1)) (cond (is_in (i - 1) product.negative) false true)
          (cond (is_in (i - 1) product.positive) false true) rest (leaf_at hit f) (leaf_at miss f));
    }

    -- a proposition without a literal adds nothing
    pub product_stays : {i : ℕ} (node : Tree) → 0 < i → i ≤ n → IsProduct n i product hit miss node →
        (is_in (i - 1) product.positive || is_in (i - 1) product.negative) ≡ false →
        IsProduct n (i - 1) product hit miss node
    product_stays {i} node some le h none =
        let neither = no_literal (is_in (i - 1) product.positive) (is_in (i - 1) product.negative) none in
        product_next node node node node some le h (rw neither.0 refl) (rw neither.1 refl)
        (λ f. sym (same_leaf (f (i - 1)) (leaf_at node f)))
