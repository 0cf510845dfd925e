-- The ascending list of the numbers less than n with a property is unique. The list for n + 1 is the list for n, with n
-- appended if n has the property. In ascending order, the code lists the propositions that a machine reads, and those
-- that it outputs.
use Rattle.std.proofs.Common.{◌≡◌, ◌≢◌, ℕ, zero, suc, ◌+◌, ◌<◌, Bool, true, false, cond, List, [], ◌∷◌, ◌++◌, length}
use Rattle.std.proofs.Common.{get_or, nat_eq, refl, ap, sym, ◌∙◌, arith, inl, inr, rules}
use Rattle.std.proofs.lemmas.Bool.{cases_Bool, cases_eq, eq-eqb, ne_eqb}
use Rattle.std.specs.List.{Contains}
use Rattle.std.proofs.lemmas.List.Quantifiers.{all_pairs_push}
use Rattle.ps_diagram.proofs.NodeTables.Cells.{true_is_not_false}
use Rattle.ps_hoa.specs.Files.{is_among}
use Rattle.ps_machine.specs.Inner.Assembling.{AreListedBelow}
use Rattle.ps_machine.proofs.Uniqueness.Rising.{Within, same_numbers}

always : (b : Bool) → cond b true true ≡ true
always b = search rules

among_push : (p n : ℕ) (list : List ℕ) → p ≢ n → is_among p (list ++ n ∷ []) ≡ is_among p list
among_push p n [] other = ap (λ (b : Bool). cond b true false) (ne_eqb p n other)
among_push p n (m ∷ list) other = ap (λ (b : Bool). cond (nat_eq p m) true b) (among_push p n list other)

among_last : (p : ℕ) (list : List ℕ) → is_among p (list ++ p ∷ []) ≡ true
among_last p [] = ap (λ (b : Bool). cond b true false) (eq-eqb p p refl)
among_last p (m ∷ list) = cc (among_last p list, always (nat_eq p m))

pub get_among : (list : List ℕ) (k d : ℕ) → k < length list → is_among (get_or list k d) list ≡ true
get_among [] k d within = absurd (omega arith)
get_among (m ∷ list) zero d within = ap (λ (b : Bool). cond b true (is_among m list)) (eq-eqb m m refl)
get_among (m ∷ list) (suc k) d within = search (rules, nat_eq, always, get_among list k d (omega arith))

pub among_there : (p : ℕ) (list : List ℕ) → is_among p list ≡ true → Contains list p
among_there p [] among = absurd (true_is_not_false (sym among))
among_there p (m ∷ list) among = elim (cases_eq p m) [
  | inl same ↦ (0, omega arith, sym same)
  | inr other ↦ (let c = among_there p list (grind (arith, ne_eqb)) in (suc c.0, omega (arith, c.1), c.2))
]

pub there_among : (p : ℕ) (list : List ℕ) → Contains list p → is_among p list ≡ true
there_among p list c = rw c.2 at (get_among list c.0 p c.1)

-- the ascending list of the numbers less than n with a property is unique
pub one_listed : {n : ℕ} {is : ℕ → Bool} {xs ys : List ℕ} → AreListedBelow n is xs → AreListedBelow n is ys → xs ≡ ys
one_listed {n} {is} {xs} {ys} a b = same_numbers a.rising b.rising (into xs ys a b) (into ys xs b a)
  where
    into : (us vs : List ℕ) → AreListedBelow n is us → AreListedBelow n is vs → Within us vs
    into us vs l m p c = search (rules, there_among, among_there)

pub listed_none : (is : ℕ → Bool) → AreListedBelow 0 is []
listed_none is = search (rules, true_is_not_false)

pub listed_with : {n : ℕ} {is : ℕ → Bool} {list new : List ℕ} → is n ≡ true → new ≡ list ++ n ∷ [] →
    AreListedBelow n is list → AreListedBelow (n + 1) is new
listed_with {n} {is} {list} here e l = rw e (record {
  rising = all_pairs_push (λ p q. p < q) list n l.rising (λ k d within. grind (arith, get_among list k d within));
  within = search (rules, cases_eq, among_push);
  are = λ p less. elim (cases_eq p n) [
    | inl same ↦ rw same (among_last n list ∙ sym here)
    | inr other ↦ among_push p n list other ∙ l.are p (omega arith)
  ];
})

pub listed_without : {n : ℕ} {is : ℕ → Bool} {list new : List ℕ} → is n ≡ false → new ≡ list →
    AreListedBelow n is list → AreListedBelow (n + 1) is new
listed_without {n} {is} {list} isnt e l = search (rules, cases_eq, cases_Bool)
