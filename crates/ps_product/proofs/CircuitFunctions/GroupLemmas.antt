-- Diagrams whose leaves also distinguish the values that given Boolean functions have at a letter.
use Rattle.std.proofs.Common.{◌≡◌, ℕ, suc, ◌^◌, ◌<◌, Bool, true, false, cond, List, [], ◌∷◌, ◌++◌, Option, None}
use Rattle.std.proofs.Common.{Some, All}
use Rattle.std.proofs.Common.{refl, ap, sym, ◌∙◌, arith, get_or, length, Result, Ok, Err, IfOk, take}
use Rattle.std.specs.Prelude.{is_some, slice_get}
use Rattle.std.proofs.lemmas.List.{get_or-map, map-append}
use Rattle.std.proofs.lemmas.List.Elements.{All-take}
use Rattle.std.specs.List.{IsDistinct}
use Rattle.std.specs.Option.{unwrap_or}
use Rattle.ps_diagram.specs.Inner.Known.{pair_eq}
use Rattle.ps_diagram.proofs.NodeTables.KnownLemmas.{some_nat}
use Rattle.ps_diagram.proofs.ClassesOfLetters.Distinct.{one_place}
use Rattle.ps_simulate.proofs.NamingLemmas.{some_same}
use Rattle.ps_diagram.specs.Labels.{IsOneOrNone}
use Rattle.ps_diagram.specs.Pairs.{IsPaired}
use Rattle.ps_diagram.specs.Table.{Table, IsNode, Keeps, leaf_of}
use Rattle.ps_diagram.proofs.TreeOperations.Truths.{leaf_kept}
use Rattle.ps_diagram.proofs.TreeOperations.Pairing.{pair_decides}
use Rattle.ps_product.specs.Groups.{IsGroupedBy, IsTotal}
use Rattle.ps_product.specs.Inner.Edges.{IsToldApart}
use Rattle.ps_product.specs.Truths.{IsTruth, bits_of, with_sign, truth_at}
use Rattle.ps_product.specs.declared.truth.Truth.{Truth}
use Rattle.ps_product.specs.declared.truth.Truth.TheVariants.{Sometimes}
use Rattle.ps_product.proofs.CircuitFunctions.TruthLemmas.{signed_same, truth_same}

-- ## No function, and one function more

pub bits_same : {t u : Table} (truths : List Truth) → Keeps t u → All (IsTruth t) truths → (letter : ℕ) →
    bits_of u truths letter ≡ bits_of t truths letter
bits_same [] k all letter = refl
bits_same {t} {u} (m ∷ ms) k all letter =
    ap (λ b. b ∷ bits_of u ms letter) (truth_same k m (all 0 m (omega arith)) letter)
    ∙ ap (λ (bs : List Bool). truth_at t m letter ∷ bs)
    (bits_same ms k (λ i d lt. all (suc i) d (omega (arith, lt))) letter)

pub grouped_none : {t u : Table} {node : ℕ} → Keeps t u → IsNode t node → IsTotal t node →
    IsGroupedBy t u node node []
grouped_none {t} {u} {node} k held total = record {
  total = λ x lt. ap is_some (leaf_kept x k held) ∙ total x lt;
  same = λ x y lx ly e. (sym (leaf_kept x k held) ∙ e ∙ leaf_kept y k held, refl);
  one = λ x y lx ly e bits. leaf_kept x k held ∙ e ∙ sym (leaf_kept y k held);
}

last_bits : (xs ys : List Bool) (a b : Bool) → xs ++ a ∷ [] ≡ ys ++ b ∷ [] → (xs ≡ ys) × (a ≡ b)
last_bits [] [] a b e = (refl, cc)
last_bits [] (y ∷ []) a b e = absurd (cc)
last_bits [] (y ∷ z ∷ ys) a b e = absurd (cc)
last_bits (x ∷ []) [] a b e = absurd (cc)
last_bits (x ∷ z ∷ xs) [] a b e = absurd (cc)
last_bits (x ∷ xs) (y ∷ ys) a b e =
    let h : x ≡ y = cc in
    let t : xs ++ a ∷ [] ≡ ys ++ b ∷ [] = cc in
    let r = last_bits xs ys a b t in
    let s = r.0 in
    (cc, r.1)

pub grouped_more : {s t u : Table} {node made : ℕ} (truths : List Truth) (truth : Truth) (next : ℕ) → Keeps s t →
    All (IsTruth s) truths → IsTruth s truth → IsGroupedBy s t node made truths →
    IsGroupedBy t u made next (truth ∷ []) → IsGroupedBy s u node next (truths ++ truth ∷ [])
grouped_more {s} {t} {u} {node} {made} truths truth next k all is g h =
    let here = λ (x : ℕ) (lt : x < 2 ^ s.propositions).
    let low : x < 2 ^ t.propositions = rw k.propositions lt in low in
    let bits = λ (x : ℕ). map-append (λ m. truth_at s m x) truths (truth ∷ []) in
    let kept = λ (x : ℕ). truth_same k truth is x in
    record {
      total = λ x lt. h.total x (here x lt);
      same = λ x y lx ly e.
          let r = h.same x y (here x lx) (here y ly) e in
          let b : truth_at t truth x ≡ truth_at t truth y =
          let both = r.1 in cc in
          let q = g.same x y lx ly r.0 in (
            q.0,
            bits x ∙ ap (λ (bs : List Bool). bs ++ truth_at s truth x ∷ []) q.1
                ∙ ap (λ c. bits_of s truths y ++ c ∷ []) (sym (kept x) ∙ b ∙ kept y) ∙ sym (bits y),
          );
      one = λ x y lx ly e b.
          let r = last_bits (bits_of s truths x) (bits_of s truths y) (truth_at s truth x) (truth_at s truth y)
          (sym (bits x) ∙ b ∙ bits y) in
          h.one x y (here x lx) (here y ly) (g.one x y lx ly e r.0)
          (ap (λ c. c ∷ []) (kept x ∙ r.1 ∙ sym (kept y)));
    }

-- ## A single function

abbrev digit : Bool → ℕ
digit b = cond b 1 0

-- if a function's missing leaf is replaced by 0, its leaf at a letter is 1 if the function is true there, and otherwise
-- 0
filled : (leaf : Option ℕ) → IsOneOrNone leaf → unwrap_or leaf 0 ≡ digit (is_some leaf)
filled None h = refl
filled (Some k) (true, e) = cc
filled (Some k) (false, e) = cc

bit_from : (a b : Bool) → digit a ≡ digit b → a ≡ b
bit_from true true e = refl
bit_from false false e = refl
bit_from true false e = absurd (omega (arith, e))
bit_from false true e = absurd (omega (arith, e))

-- for three leaves with `IsPaired`: if the first two exist, the third exists, namely the index of their pair in `pairs`
paired_some : (pairs : List (ℕ × ℕ)) (a : Option ℕ) (m : ℕ) (c : Option ℕ) → is_some a ≡ true →
    IsPaired pairs a (Some m) c → is_some c ≡ true
paired_some pairs None m c some h = absurd (cc)
paired_some pairs (Some k) m c some h = ap is_some h.1

paired_same : (pairs : List (ℕ × ℕ)) (a b : Option ℕ) (m n : ℕ) (c d : Option ℕ) → is_some a ≡ true →
    is_some b ≡ true → IsPaired pairs a (Some m) c → IsPaired pairs b (Some n) d → c ≡ d → (a ≡ b) × (m ≡ n)
paired_same pairs None b m n c d sa sb h g e = absurd (cc)
paired_same pairs (Some k) None m n c d sa sb h g e = absurd (cc)
paired_same pairs (Some k) (Some l) m n c d sa sb h g e =
    let place : h.0 ≡ g.0 = some_nat h.0 g.0 (sym h.1 ∙ e ∙ g.1) in
    let pair : Some (k, m) ≡ Some (l, n) =
    sym h.2 ∙ ap (slice_get pairs) place ∙ g.2 in
    let both : (k, m) ≡ (l, n) = some_same (k, m) (l, n) pair in
    (ap (λ (p : ℕ × ℕ). Some p.0) both, ap (λ (p : ℕ × ℕ). p.1) both)

paired_alike : (pairs : List (ℕ × ℕ)) → IsDistinct pair_eq pairs → (a : Option ℕ) (m : ℕ) (c d : Option ℕ) →
    IsPaired pairs a (Some m) c → IsPaired pairs a (Some m) d → c ≡ d
paired_alike pairs once None m c d p q = p ∙ sym q
paired_alike pairs once (Some k) m c d p q =
    p.1 ∙ ap (λ x. Some x) (one_place pair_eq pair_decides pairs once p.0 q.0 p.2 q.2) ∙ sym q.1

pub split_by_truth : {s t u : Table} {node condition made : ℕ} (sign : Bool) (sides : ℕ) (pairs : List (ℕ × ℕ)) →
    Keeps s t →
    IsNode s node → IsTotal s node → IsTruth s (Sometimes sign condition) → IsDistinct pair_eq pairs →
    ((x : ℕ) → leaf_of t sides x ≡ Some (unwrap_or (leaf_of s condition x) 0)) →
    ((x : ℕ) → IsPaired pairs (leaf_of t node x) (leaf_of t sides x) (leaf_of u made x)) →
    IsGroupedBy s u node made (Sometimes sign condition ∷ [])
split_by_truth {s} {t} {u} {node} {condition} {made} sign sides pairs k held total is once side paired =
    let bit = λ (x : ℕ). digit (is_some (leaf_of s condition x)) in
    let at : (x : ℕ) → IsPaired pairs (leaf_of s node x) (Some (bit x)) (leaf_of u made x) =
    λ x. rw (← leaf_kept x k held, ← filled (leaf_of s condition x) (is.leaves x), ← side x) (paired x) in
    record {
      total = λ x lt. paired_some pairs (leaf_of s node x) (bit x) (leaf_of u made x) (total x lt) (at x);
      same = λ x y lx ly e.
          let r = paired_same pairs (leaf_of s node x) (leaf_of s node y) (bit x) (bit y) (leaf_of u made x)
          (leaf_of u made y) (total x lx) (total y ly) (at x) (at y) e in (
            r.0,
            ap (λ b. with_sign sign b ∷ [])
                (bit_from (is_some (leaf_of s condition x)) (is_some (leaf_of s condition y)) r.1),
          );
      one = λ x y lx ly e bits.
          let b : is_some (leaf_of s condition x) ≡ is_some (leaf_of s condition y) =
          signed_same sign _ _ (ap (λ (bs : List Bool). get_or bs 0 false) bits) in
          paired_alike pairs once (leaf_of s node x) (bit x) (leaf_of u made x) (leaf_of u made y) (at x)
          (rw (e, b) (at y));
    }

-- a function with the same value at every letter distinguishes no letters
pub split_by_none : {t : Table} {node : ℕ} (truth : Truth) → IsTotal t node →
    ((x y : ℕ) → truth_at t truth x ≡ truth_at t truth y) → IsGroupedBy t t node node (truth ∷ [])
split_by_none truth total same = record {
  total = total;
  same = λ x y lx ly e. (e, ap (λ b. b ∷ []) (same x y));
  one = λ x y lx ly e bits. e;
}

-- a function that others tell apart need not be told apart once more
pub grouped_again : {s t : Table} {node made : ℕ} (truths : List Truth) (truth : Truth) →
    IsToldApart s truths truth → IsGroupedBy s t node made truths → IsGroupedBy s t node made (truths ++ truth ∷ [])
grouped_again {s} truths truth told g =
    let bits = λ (x : ℕ). map-append (λ m. truth_at s m x) truths (truth ∷ []) in
    record {
      total = g.total;
      same = λ x y lx ly e.
          let r = g.same x y lx ly e in (
            r.0,
            bits x ∙ ap (λ (bs : List Bool). bs ++ truth_at s truth x ∷ []) r.1
                ∙ ap (λ c. bits_of s truths y ++ c ∷ []) (told x y lx ly r.1) ∙ sym (bits y),
          );
      one = λ x y lx ly e b.
          let r = last_bits (bits_of s truths x) (bits_of s truths y) (truth_at s truth x) (truth_at s truth y)
          (sym (bits x) ∙ b ∙ bits y) in
          g.one x y lx ly e r.0;
    }

-- if functions tell a function apart in a table that has grown, they do so in the old table
pub told_before : {s t : Table} (truths : List Truth) (truth : Truth) → Keeps s t → All (IsTruth s) truths →
    IsTruth s truth → IsToldApart t truths truth → IsToldApart s truths truth
told_before {s} {t} truths truth k all is told x y lx ly e =
    let low = λ (z : ℕ) (lt : z < 2 ^ s.propositions). let below : z < 2 ^ t.propositions = rw k.propositions lt in
    below
    in
    sym (truth_same k truth is x)
    ∙ told x y (low x lx) (low y ly) (bits_same truths k all x ∙ e ∙ sym (bits_same truths k all y))
    ∙ truth_same k truth is y

-- if one of several functions tells a function apart, they do
pub told_by_one : (t : Table) (truths : List Truth) (k : ℕ) (d truth : Truth) → k < length truths →
    IsToldApart t (get_or truths k d ∷ []) truth → IsToldApart t truths truth
told_by_one t truths k d truth lt told x y lx ly e =
    let at = λ (z : ℕ). get_or-map (λ m. truth_at t m z) truths k d false lt in
    let one : truth_at t (get_or truths k d) x ≡ truth_at t (get_or truths k d) y =
    sym (at x) ∙ ap (λ (bs : List Bool). get_or bs k false) e ∙ at y in
    told x y lx ly (ap (λ b. b ∷ []) one)

-- a function that is not constant tells itself and its negation apart
pub told_by_same : (t : Table) (m n : Bool) (one other : ℕ) →
    ((letter : ℕ) → letter < 2 ^ t.propositions → leaf_of t one letter ≡ leaf_of t other letter) →
    IsToldApart t (Sometimes m one ∷ []) (Sometimes n other)
told_by_same t m n one other same x y lx ly e =
    let bit : is_some (leaf_of t one x) ≡ is_some (leaf_of t one y) =
    signed_same m _ _ (ap (λ (bs : List Bool). get_or bs 0 false) e) in
    ap (with_sign n) (ap is_some (sym (same x lx)) ∙ bit ∙ ap is_some (same y ly))

-- when the table grows, a node that distinguishes the values of given functions still distinguishes their values
pub grouped_now : {s u : Table} {node made : ℕ} (truths : List Truth) → IsNode s node →
    All (IsTruth s) truths → IsGroupedBy s u node made truths → Keeps s u → IsGroupedBy u u node made truths
grouped_now {s} {u} {node} {made} truths held all g k =
    let low = λ (x : ℕ) (lt : x < 2 ^ u.propositions).
    let below : x < 2 ^ s.propositions = rw (← k.propositions) lt in below in
    record {
      total = λ x lt. g.total x (low x lt);
      same = λ x y lx ly e.
          let r = g.same x y (low x lx) (low y ly) e in (
            leaf_kept x k held ∙ r.0 ∙ sym (leaf_kept y k held),
            bits_same truths k all x ∙ r.1 ∙ sym (bits_same truths k all y),
          );
      one = λ x y lx ly e bits. g.one x y (low x lx) (low y ly)
          (sym (leaf_kept x k held) ∙ e ∙ leaf_kept y k held)
          (sym (bits_same truths k all x) ∙ bits ∙ bits_same truths k all y);
    }

pub ok_map : {X E : Type 0} (P Q : X → Type 0) (result : Result X E) → IfOk result P → ((x : X) → P x → Q x) →
    IfOk result Q
ok_map P Q (Ok x) h f = f x h
ok_map P Q (Err e) h f = tt

-- a property of all entries of a list is a property of its first i entries
pub taken : {X : Type 0} (P : X → Type 0) (xs : List X) (i : ℕ) → All P xs → All P (take i xs)
taken P xs i all = All-take P i xs all
