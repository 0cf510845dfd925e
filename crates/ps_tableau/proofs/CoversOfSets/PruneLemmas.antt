-- Pruning cover by cover.
use Rattle.std.proofs.Common.{ℕ, zero, suc, ◌<◌, ◌⊎◌, inl, inr, List, [], ◌∷◌, ◌++◌, Option, Some, None, arith}
use Rattle.std.proofs.Common.{get_or, length, refl, set, subst, sym}
use Rattle.std.proofs.lemmas.Bool.{false≢true}
use Rattle.std.proofs.lemmas.List.Elements.{Contains-append_cases, Contains-append_left, Contains-append_right}
use Rattle.std.specs.List.{Contains}
use Rattle.std.specs.Prelude.{IsTrue, is_some}
use Rattle.ps_diagram.specs.Leaves.{chosen}
use Rattle.ps_tableau.proofs.CoversOfSets.Brought.{brought_more}
use Rattle.ps_tableau.proofs.Members.{first_in, in_more, in_none, in_one, later_in}
use Rattle.ps_tableau.proofs.CoversOfSets.Products.{better_refl, pruned_refl}
use Rattle.ps_tableau.specs.Covers.{Cover, of_known}
use Rattle.ps_tableau.specs.Operators.{ArePruned, IsBetter}
use Rattle.ps_tableau.specs.Inner.Pruning.{AsksLess}

pub better_trans : {a b c : Cover} {letter : ℕ} → IsBetter a b letter → IsBetter b c letter → IsBetter a c letter
better_trans {a} {b} {c} {letter} first second = record {
  serves = first.serves;
  next = λ f asked. brought_more (Contains b.next) (Contains c.next) second.next (first.next f asked);
  postponed = λ f asked. second.postponed f (first.postponed f asked);
}

-- a cover that serves and asks for no more is better
pub better_by : {a c : Cover} (letter : ℕ) → AsksLess a c → IsTrue (a.guard letter) → IsBetter a c letter
better_by letter less serves = record {
  serves = serves;
  next = λ f asked. of_known (less.next f asked);
  postponed = less.postponed;
}

-- ## Lists

in_end : (xs : List Cover) (x : Cover) → Contains (xs ++ x ∷ []) x
in_end xs x = Contains-append_right xs (x ∷ []) x (first_in x [])

pub pruned_push : {xs ys zs : List Cover} (c : Cover) → ArePruned xs ys → ArePruned (ys ++ c ∷ []) zs →
    ArePruned (xs ++ c ∷ []) zs
pruned_push {xs} {ys} {zs} c first second = record {
  sound = λ d letter there serves.
      let e = second.sound d letter there serves in
      elim (Contains-append_cases ys (c ∷ []) e.0 e.1) [
        | inl old ↦
            let f = first.sound e.0 letter old e.2.serves in
            (f.0, Contains-append_left xs (c ∷ []) f.0 f.1, better_trans f.2 e.2)
        | inr new ↦ (e.0, Contains-append_right xs (c ∷ []) e.0 new, e.2)
      ];
  complete = λ d letter there serves. elim (Contains-append_cases xs (c ∷ []) d there) [
    | inl old ↦
        let e = first.complete d letter old serves in
        let f = second.complete e.0 letter (Contains-append_left ys (c ∷ []) e.0 e.1) e.2.serves in
        (f.0, f.1, better_trans f.2 e.2)
    | inr new ↦ second.complete d letter (Contains-append_right ys (c ∷ []) d new) serves
  ];
}

-- lists of the same covers
pub pruned_same : {xs ys : List Cover} → ((c : Cover) → Contains xs c → Contains ys c) →
    ((c : Cover) → Contains ys c → Contains xs c) → ArePruned xs ys
pruned_same there back = record {
  sound = λ c letter new serves. (c, back c new, better_refl c letter serves);
  complete = λ c letter old serves. (c, there c old, better_refl c letter serves);
}

swapped : (xs ys : List Cover) (c : Cover) → Contains (xs ++ ys) c → Contains (ys ++ xs) c
swapped xs ys c h = elim (Contains-append_cases xs ys c h) [
  | inl l ↦ Contains-append_right ys xs c l
  | inr r ↦ Contains-append_left ys xs c r
]

pub pruned_turned : (xs ys : List Cover) → ArePruned (xs ++ ys) (ys ++ xs)
pruned_turned xs ys = pruned_same (swapped xs ys) (swapped ys xs)

pub pruned_trans : {xs ys zs : List Cover} → ArePruned xs ys → ArePruned ys zs → ArePruned xs zs
pruned_trans first second = record {
  sound = λ c letter there serves.
      let d = second.sound c letter there serves in
      let e = first.sound d.0 letter d.1 d.2.serves in
      (e.0, e.1, better_trans e.2 d.2);
  complete = λ c letter there serves.
      let d = first.complete c letter there serves in
      let e = second.complete d.0 letter d.1 d.2.serves in
      (e.0, e.1, better_trans e.2 d.2);
}

pub pruned_both : (xs ys us vs : List Cover) → ArePruned xs ys → ArePruned us vs → ArePruned (xs ++ us) (ys ++ vs)
pruned_both xs ys us vs first second = record {
  sound = λ c letter there serves. elim (Contains-append_cases ys vs c there) [
    | inl l ↦ let d = first.sound c letter l serves in (d.0, Contains-append_left xs us d.0 d.1, d.2)
    | inr r ↦ let d = second.sound c letter r serves in (d.0, Contains-append_right xs us d.0 d.1, d.2)
  ];
  complete = λ c letter there serves. elim (Contains-append_cases xs us c there) [
    | inl l ↦ let d = first.complete c letter l serves in (d.0, Contains-append_left ys vs d.0 d.1, d.2)
    | inr r ↦ let d = second.complete c letter r serves in (d.0, Contains-append_right ys vs d.0 d.1, d.2)
  ];
}

-- what is left of a cover beside one of others, beside all of them
two_in : (kept : List Cover) (a other c : Cover) → Contains kept other → Contains (a ∷ other ∷ []) c →
    Contains (kept ++ a ∷ []) c
two_in kept a other c there h = elim (in_more a (other ∷ []) c h) [
  | inl is ↦ subst (λ (d : Cover). Contains (kept ++ a ∷ []) d) is (in_end kept a)
  | inr is ↦ Contains-append_left kept (a ∷ []) c (subst (λ (d : Cover). Contains kept d) (in_one other c is) there)
]

one_of_two : (a other c : Cover) → Contains (a ∷ []) c → Contains (a ∷ other ∷ []) c
one_of_two a other c h = subst (λ (d : Cover). Contains (a ∷ other ∷ []) d) (in_one a c h) (first_in a (other ∷ []))

pub beside_more : (kept : List Cover) (a b other : Cover) → Contains kept other →
    ArePruned (a ∷ other ∷ []) (b ∷ other ∷ []) → ArePruned (kept ++ a ∷ []) (kept ++ b ∷ [])
beside_more kept a b other there now = record {
  sound = λ c letter h serves. elim (Contains-append_cases kept (b ∷ []) c h) [
    | inl k ↦ (c, Contains-append_left kept (a ∷ []) c k, better_refl c letter serves)
    | inr is ↦
        let d = now.sound c letter (one_of_two b other c is) serves in
        (d.0, two_in kept a other d.0 there d.1, d.2)
  ];
  complete = λ c letter h serves. elim (Contains-append_cases kept (a ∷ []) c h) [
    | inl k ↦ (c, Contains-append_left kept (b ∷ []) c k, better_refl c letter serves)
    | inr is ↦
        let d = now.complete c letter (one_of_two a other c is) serves in
        (d.0, two_in kept b other d.0 there d.1, d.2)
  ];
}

-- one of the covers becomes one with another
pub pruned_at : (xs : List Cover) (i : ℕ) (u c : Cover) → i < length xs →
    ArePruned (get_or xs i c ∷ c ∷ []) (u ∷ []) → ArePruned (xs ++ c ∷ []) (set xs i u)
pruned_at [] i u c within now = absurd (omega (arith, within))
pruned_at (x ∷ xs) zero u c within now = pruned_trans
    (pruned_both (x ∷ []) (x ∷ []) (xs ++ c ∷ []) (c ∷ xs) (pruned_refl (x ∷ [])) (pruned_turned xs (c ∷ [])))
    (pruned_both (x ∷ c ∷ []) (u ∷ []) xs xs now (pruned_refl xs))
pruned_at (x ∷ xs) (suc i) u c within now = pruned_both (x ∷ []) (x ∷ []) (xs ++ c ∷ []) (set xs i u)
    (pruned_refl (x ∷ [])) (pruned_at xs i u c (omega (arith, within)) now)

-- the cover that is left is added at the end
pub pruned_last : {xs : List Cover} (ys : List Cover) {zs : List Cover} (c : Cover) → ArePruned xs (ys ++ c ∷ []) →
    ArePruned (c ∷ []) zs →
    ArePruned xs (ys ++ zs)
pruned_last {xs} ys {zs} c first second = record {
  sound = λ d letter there serves. elim (Contains-append_cases ys zs d there) [
    | inl l ↦ first.sound d letter (Contains-append_left ys (c ∷ []) d l) serves
    | inr r ↦
        let e = second.sound d letter r serves in
        let f = first.sound e.0 letter (Contains-append_right ys (c ∷ []) e.0 e.1) e.2.serves in
        (f.0, f.1, better_trans f.2 e.2)
  ];
  complete = λ d letter there serves.
      let e = first.complete d letter there serves in
      elim (Contains-append_cases ys (c ∷ []) e.0 e.1) [
        | inl l ↦ (e.0, Contains-append_left ys zs e.0 l, e.2)
        | inr r ↦
            let f = second.complete e.0 letter r e.2.serves in
            (f.0, Contains-append_right ys zs f.0 f.1, better_trans f.2 e.2)
      ];
}

-- ## Two covers

-- a cover that serves at no letter is left out
pub pruned_none : (c : Cover) → ((letter : ℕ) → IsTrue (c.guard letter) → ⊥) → ArePruned (c ∷ []) []
pruned_none c never = record {
  sound = λ d letter there serves. in_none d there;
  complete = λ d letter there serves. absurd (never letter (subst (λ (e : Cover). IsTrue (e.guard letter))
      (sym (in_one c d there)) serves));
}

-- the letters of a cover go to another that asks for no more
pub pruned_two : (a b c : Cover) → AsksLess b a → AsksLess c a → AsksLess a c →
    ((letter : ℕ) → IsTrue (c.guard letter) → IsTrue (a.guard letter)) →
    ((letter : ℕ) → IsTrue (a.guard letter) → IsTrue (b.guard letter) ⊎ IsTrue (c.guard letter)) →
    ArePruned (a ∷ b ∷ []) (c ∷ b ∷ [])
pruned_two a b c less same back inside outside = record {
  sound = λ d letter there serves. elim (in_more c (b ∷ []) d there) [
    | inl is ↦
        let on = subst (λ (e : Cover). IsTrue (e.guard letter)) (sym is) serves in (
          a,
          first_in a (b ∷ []),
          subst (λ (e : Cover). IsBetter a e letter) is (better_by letter back (inside letter on)),
        )
    | inr is ↦ (d, later_in a (b ∷ []) d is, better_refl d letter serves)
  ];
  complete = λ d letter there serves. elim (in_more a (b ∷ []) d there) [
    | inl is ↦
        let on = subst (λ (e : Cover). IsTrue (e.guard letter)) (sym is) serves in
        elim (outside letter on) [
          | inl other ↦ (
            b,
            later_in c (b ∷ []) b (first_in b []),
            subst (λ (e : Cover). IsBetter b e letter) is (better_by letter less other),
          )
          | inr left ↦ (
            c,
            first_in c (b ∷ []),
            subst (λ (e : Cover). IsBetter c e letter) is (better_by letter same left),
          )
        ]
    | inr is ↦ (d, later_in c (b ∷ []) d is, better_refl d letter serves)
  ];
}

-- two covers that ask for the same are one
pub pruned_one : (a b c : Cover) → AsksLess c a → AsksLess a c → AsksLess c b → AsksLess b c →
    ((letter : ℕ) → IsTrue (c.guard letter) → IsTrue (a.guard letter) ⊎ IsTrue (b.guard letter)) →
    ((letter : ℕ) → IsTrue (a.guard letter) → IsTrue (c.guard letter)) →
    ((letter : ℕ) → IsTrue (b.guard letter) → IsTrue (c.guard letter)) → ArePruned (a ∷ b ∷ []) (c ∷ [])
pruned_one a b c ca ac cb bc outside first second = record {
  sound = λ d letter there serves.
      let is = in_one c d there in
      let on = subst (λ (e : Cover). IsTrue (e.guard letter)) (sym is) serves in
      elim (outside letter on) [
        | inl l ↦ (a, first_in a (b ∷ []), subst (λ (e : Cover). IsBetter a e letter) is (better_by letter ac l))
        | inr r ↦ (
          b,
          later_in a (b ∷ []) b (first_in b []),
          subst (λ (e : Cover). IsBetter b e letter) is (better_by letter bc r),
        )
      ];
  complete = λ d letter there serves. elim (in_more a (b ∷ []) d there) [
    | inl is ↦
        let on = subst (λ (e : Cover). IsTrue (e.guard letter)) (sym is) serves in
        (c, first_in c [], subst (λ (e : Cover). IsBetter c e letter) is (better_by letter ca (first letter on)))
    | inr more ↦
        let is = in_one b d more in
        let on = subst (λ (e : Cover). IsTrue (e.guard letter)) (sym is) serves in
        (c, first_in c [], subst (λ (e : Cover). IsBetter c e letter) is (better_by letter cb (second letter on)))
  ];
}

-- ## Guards

pub less_guard : (x y : Option ℕ) → IsTrue (is_some (chosen x None y)) → IsTrue (is_some y)
less_guard None y h = h
less_guard (Some k) y h = absurd (false≢true h)

pub less_or : (x y : Option ℕ) → IsTrue (is_some y) → IsTrue (is_some x) ⊎ IsTrue (is_some (chosen x None y))
less_or None y h = inr h
less_or (Some k) y h = inl refl

pub one_guard : (x y : Option ℕ) → IsTrue (is_some (chosen x x y)) → IsTrue (is_some x) ⊎ IsTrue (is_some y)
one_guard None y h = inr h
one_guard (Some k) y h = inl refl

pub first_guard : (x y : Option ℕ) → IsTrue (is_some x) → IsTrue (is_some (chosen x x y))
first_guard None y h = absurd (false≢true h)
first_guard (Some k) y h = refl

pub second_guard : (x y : Option ℕ) → IsTrue (is_some y) → IsTrue (is_some (chosen x x y))
second_guard None y h = h
second_guard (Some k) y h = refl
