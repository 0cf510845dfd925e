-- Covers made from other covers: products, unions, and the covers of each operator.
use Rattle.std.proofs.Common.{◌≡◌, ℕ, ◌+◌, ◌⊎◌, inl, inr, Bool, true, false, cond, List, [], ◌∷◌, ◌++◌, ◌&&◌}
use Rattle.std.proofs.Common.{arith, refl, subst, sym}
use Rattle.std.proofs.Math.Nat.{eq-or-lt_of_le}
use Rattle.std.proofs.lemmas.Bool.{false≢true}
use Rattle.std.proofs.lemmas.List.Elements.{Contains-append_cases, Contains-append_left, Contains-append_right}
use Rattle.std.specs.List.{Contains}
use Rattle.std.specs.Prelude.{IsTrue}
use Rattle.ps_label.specs.Truth.{is_in}
use Rattle.ps_formula.specs.NormalForms.{NormalFormula, truth, literal, both, either, after, reaches, keeps, plain}
use Rattle.ps_formula.specs.Satisfaction.{IsDecidedWord, Keeps, Reaches, Satisfies}
use Rattle.ps_tableau.specs.Covers.{AreCoversOf, Brings, Cover, Covers, Fits, Postpones, SatisfiesAll, of_known}
use Rattle.ps_tableau.specs.Operators.{AreProducts, ArePruned, IsJoin, free_cover, literal_cover, next_cover}
use Rattle.ps_tableau.specs.Operators.{postponing_cover}
use Rattle.ps_tableau.proofs.CoversOfSets.Brought.{brought_holds, brought_more, release_now}
use Rattle.ps_tableau.proofs.Members.{first_in, in_none, in_one}

-- ## Covers that ask for more

-- a cover that asks for more is enough for what the other is enough for
pub Covers-more : (a c : Cover) (letter : ℕ) → ((f : NormalFormula) → Contains a.next f → Brings (Contains c.next) f) →
    ((f : NormalFormula) → Contains a.postponed f → Contains c.postponed f) → (f : NormalFormula) →
    Covers a letter f → Covers c letter f
Covers-more a c letter next postponed (truth b) h = h
Covers-more a c letter next postponed (literal true p) h = h
Covers-more a c letter next postponed (literal false p) h = h
Covers-more a c letter next postponed (both f g) h =
    (Covers-more a c letter next postponed f h.0, Covers-more a c letter next postponed g h.1)
Covers-more a c letter next postponed (either f g) (inl h) = inl (Covers-more a c letter next postponed f h)
Covers-more a c letter next postponed (either f g) (inr h) = inr (Covers-more a c letter next postponed g h)
Covers-more a c letter next postponed (after f) h = brought_more (Contains a.next) (Contains c.next) next h
Covers-more a c letter next postponed (reaches f g) (inl h) = inl (Covers-more a c letter next postponed g h)
Covers-more a c letter next postponed (reaches f g) (inr h) =
    inr (
      Covers-more a c letter next postponed f h.0,
      brought_more (Contains a.next) (Contains c.next) next h.1,
      postponed (reaches f g) h.2,
    )
Covers-more a c letter next postponed (keeps f g) h = (
  Covers-more a c letter next postponed g h.0,
  elim h.1 [
    | inl now ↦ inl (Covers-more a c letter next postponed f now)
    | inr later ↦ inr (brought_more (Contains a.next) (Contains c.next) next later)
  ],
)

-- subsumption letter by letter keeps covers
pub pruned_covers : (obligations : List NormalFormula) (old new : List Cover) → AreCoversOf obligations old →
    ArePruned old new → AreCoversOf obligations new
pruned_covers obligations old new covers pruned = record {
  enough = λ c there. record {
    each = λ f asked letter serves.
        let d = pruned.sound c letter there serves in
        Covers-more d.0 c letter d.2.next d.2.postponed f
        ((covers.enough d.0 d.1).each f asked letter d.2.serves);
  };
  usable = λ w i decided satisfied.
      let used = covers.usable w i decided satisfied in
      let d = pruned.complete used.0 (w i) used.1 used.2.guard in (
        d.0,
        d.1,
        record {
          guard = d.2.serves;
          next = λ f asked. brought_holds (Contains used.0.next) w (i + 1) used.2.next (d.2.next f asked);
          postponed = λ f asked. used.2.postponed f (d.2.postponed f asked);
        },
      );
}

-- ## Ways

-- the covers of what E says of a cover, and of what H says of a word
pub record AreWays (E : Cover → ℕ → Type 0) (H : (ℕ → ℕ) → ℕ → Type 0) (covers : List Cover) : Type 0 where
  pub enough : (c : Cover) → Contains covers c → (letter : ℕ) → IsTrue (c.guard letter) → E c letter
  pub usable : (w : ℕ → ℕ) (i : ℕ) → IsDecidedWord w → H w i → (c : Cover) × Contains covers c × Fits c w i

-- what is true of a cover stays true of one that asks for more
abbrev IsMonotone : (Cover → ℕ → Type 0) → Type 0
IsMonotone E = (a c : Cover) (letter : ℕ) → ((f : NormalFormula) → Contains a.next f → Brings (Contains c.next) f) →
    ((f : NormalFormula) → Contains a.postponed f → Contains c.postponed f) → E a letter → E c letter

reword : {E F : Cover → ℕ → Type 0} {H K : (ℕ → ℕ) → ℕ → Type 0} {covers : List Cover} → AreWays E H covers →
    ((c : Cover) (letter : ℕ) → E c letter → F c letter) →
    ((w : ℕ → ℕ) (i : ℕ) → IsDecidedWord w → K w i → H w i) → AreWays F K covers
reword ways of_cover of_word = record {
  enough = λ c there letter serves. of_cover c letter (ways.enough c there letter serves);
  usable = λ w i decided h. ways.usable w i decided (of_word w i decided h);
}

union : {E F : Cover → ℕ → Type 0} {H K : (ℕ → ℕ) → ℕ → Type 0} {xs ys : List Cover} → AreWays E H xs →
    AreWays F K ys → AreWays (λ c letter. E c letter ⊎ F c letter) (λ w i. H w i ⊎ K w i) (xs ++ ys)
union {E} {F} {H} {K} {xs} {ys} first second = record {
  enough = λ c there letter serves. elim (Contains-append_cases xs ys c there) [
    | inl l ↦ inl (first.enough c l letter serves)
    | inr r ↦ inr (second.enough c r letter serves)
  ];
  usable = λ w i decided h. elim h [
    | inl l ↦ let used = first.usable w i decided l in (used.0, Contains-append_left xs ys used.0 used.1, used.2)
    | inr r ↦ let used = second.usable w i decided r in (used.0, Contains-append_right xs ys used.0 used.1, used.2)
  ];
}

both_true : (a b : Bool) → IsTrue (a && b) → IsTrue a × IsTrue b
both_true true true h = (refl, refl)
both_true true false h = absurd (false≢true h)
both_true false b h = absurd (false≢true h)

from_both : (a b : Bool) → IsTrue a → IsTrue b → IsTrue (a && b)
from_both true true h k = refl
from_both true false h k = absurd (false≢true k)
from_both false b h k = absurd (false≢true h)

join_fits : (a b c : Cover) (w : ℕ → ℕ) (i : ℕ) → IsJoin a b c → Fits a w i → Fits b w i → Fits c w i
join_fits a b c w i join first second = record {
  guard = subst (λ (t : Bool). IsTrue t) (sym (join.guard (w i)))
      (from_both (a.guard (w i)) (b.guard (w i)) first.guard second.guard);
  next = λ f asked. elim ((join.next f).0 asked) [ inl l ↦ first.next f l | inr r ↦ second.next f r ];
  postponed = λ f asked. elim ((join.postponed f).0 asked) [
    | inl l ↦ first.postponed f l
    | inr r ↦ second.postponed f r
  ];
}

product : {E F : Cover → ℕ → Type 0} {H K : (ℕ → ℕ) → ℕ → Type 0} {xs ys zs : List Cover} → AreWays E H xs →
    AreWays F K ys → AreProducts xs ys zs → IsMonotone E → IsMonotone F →
    AreWays (λ c letter. E c letter × F c letter) (λ w i. H w i × K w i) zs
product {E} {F} first second products grows_first grows_second = record {
  enough = λ c there letter serves.
      let p = products.each c there in
      let join = p.4 in
      let two = both_true (p.0.guard letter) (p.1.guard letter)
      (subst (λ (t : Bool). IsTrue t) (join.guard letter) serves) in (
        grows_first p.0 c letter (λ f l. of_known ((join.next f).1 (inl l))) (λ f l. (join.postponed f).1 (inl l))
            (first.enough p.0 p.2 letter two.0),
        grows_second p.1 c letter (λ f r. of_known ((join.next f).1 (inr r))) (λ f r. (join.postponed f).1 (inr r))
            (second.enough p.1 p.3 letter two.1),
      );
  usable = λ w i decided h.
      let a = first.usable w i decided h.0 in
      let b = second.usable w i decided h.1 in
      let c = products.all a.0 b.0 (w i) a.1 b.1 a.2.guard b.2.guard in
      (c.0, c.1, join_fits a.0 b.0 c.0 w i c.2 a.2 b.2);
}

-- a list of one cover
one : (E : Cover → ℕ → Type 0) (H : (ℕ → ℕ) → ℕ → Type 0) (c : Cover) →
    ((letter : ℕ) → IsTrue (c.guard letter) → E c letter) →
    ((w : ℕ → ℕ) (i : ℕ) → IsDecidedWord w → H w i → Fits c w i) → AreWays E H (c ∷ [])
one E H c enough fits = record {
  enough = λ d there letter serves.
      let is : c ≡ d = in_one c d there in
      subst (λ (k : Cover). E k letter) is
      (enough letter (subst (λ (k : Cover). IsTrue (k.guard letter)) (sym is) serves));
  usable = λ w i decided h. (c, first_in c [], fits w i decided h);
}

-- ## Formulas

-- a cover is enough for a formula; a word satisfies it
abbrev pub Serves : NormalFormula → Cover → ℕ → Type 0
Serves f c letter = Covers c letter f

abbrev pub Meets : NormalFormula → (ℕ → ℕ) → ℕ → Type 0
Meets f w i = Satisfies (plain f) w i

abbrev pub WaysOf : NormalFormula → List Cover → Type 0
WaysOf f covers = AreWays (Serves f) (Meets f) covers

pub ways_of : (f : NormalFormula) (covers : List Cover) → AreCoversOf (f ∷ []) covers → WaysOf f covers
ways_of f covers h = record {
  enough = λ c there letter serves. (h.enough c there).each f (first_in f []) letter serves;
  usable = λ w i decided satisfied. h.usable w i decided (record {
    each = λ g there. subst (λ (k : NormalFormula). Satisfies (plain k) w i) (in_one f g there) satisfied;
  });
}

pub covers_from : (f : NormalFormula) (covers : List Cover) → WaysOf f covers → AreCoversOf (f ∷ []) covers
covers_from f covers ways = record {
  enough = λ c there. record {
    each = λ g asked letter serves.
        subst (λ (k : NormalFormula). Covers c letter k) (in_one f g asked) (ways.enough c there letter serves);
  };
  usable = λ w i decided satisfied. ways.usable w i decided (satisfied.each f (first_in f []));
}

grows : (f : NormalFormula) → IsMonotone (λ c letter. Covers c letter f)
grows f a c letter next postponed h = Covers-more a c letter next postponed f h

asks_nothing : (guard : ℕ → Bool) (w : ℕ → ℕ) (i : ℕ) → IsTrue (guard (w i)) →
    Fits (record { guard = guard; next = []; postponed = [] }) w i
asks_nothing guard w i serves = record {
  guard = serves;
  next = λ f asked. in_none f asked;
  postponed = λ f asked. in_none f asked;
}

pub of_true : AreCoversOf (truth true ∷ []) (free_cover ∷ [])
of_true = covers_from (truth true) (free_cover ∷ [])
    (one (Serves (truth true)) (Meets (truth true)) free_cover (λ letter serves. refl)
    (λ w i decided h. asks_nothing (λ _. true) w i refl))

pub of_false : AreCoversOf (truth false ∷ []) []
of_false = covers_from (truth false) [] (record {
  enough = λ c there. in_none c there;
  usable = λ w i decided h. absurd (false≢true h);
})

is_false : (b : Bool) → ¬ IsTrue b → IsTrue (cond b false true)
is_false true h = absurd (h refl)
is_false false h = refl

not_true : (b : Bool) → IsTrue (cond b false true) → ¬ IsTrue b
not_true true h = absurd (false≢true h)
not_true false h = λ e. false≢true e

pub of_literal : (negated : Bool) (p : ℕ) → AreCoversOf (literal negated p ∷ []) (literal_cover negated p ∷ [])
of_literal true p = covers_from (literal true p) (literal_cover true p ∷ [])
    (one (Serves (literal true p)) (Meets (literal true p)) (literal_cover true p)
    (λ letter serves. not_true (is_in p letter) serves)
    (λ w i decided h. asks_nothing (literal_cover true p).guard w i (is_false (is_in p (w i)) h)))
of_literal false p = covers_from (literal false p) (literal_cover false p ∷ [])
    (one (Serves (literal false p)) (Meets (literal false p)) (literal_cover false p) (λ letter serves. serves)
    (λ w i decided h. asks_nothing (literal_cover false p).guard w i h))

next_fits : (f : NormalFormula) (w : ℕ → ℕ) (i : ℕ) → Satisfies (plain f) w (i + 1) → Fits (next_cover f) w i
next_fits f w i h = record {
  guard = refl;
  next = λ g asked. subst (λ (k : NormalFormula). Satisfies (plain k) w (i + 1)) (in_one f g asked) h;
  postponed = λ g asked. in_none g asked;
}

pub of_next : (f : NormalFormula) → AreCoversOf (after f ∷ []) (next_cover f ∷ [])
of_next f = covers_from (after f) (next_cover f ∷ [])
    (one (Serves (after f)) (Meets (after f)) (next_cover f)
    (λ letter serves. of_known (first_in f [])) (λ w i decided h. next_fits f w i h))

pub of_and : (f g : NormalFormula) (xs ys zs : List Cover) → AreCoversOf (f ∷ []) xs → AreCoversOf (g ∷ []) ys →
    AreProducts xs ys zs → AreCoversOf (both f g ∷ []) zs
of_and f g xs ys zs first second products = covers_from (both f g) zs (reword
    (product (ways_of f xs first) (ways_of g ys second) products (grows f) (grows g))
    (λ c letter h. h) (λ w i decided h. h))

pub of_or : (f g : NormalFormula) (xs ys : List Cover) → AreCoversOf (f ∷ []) xs → AreCoversOf (g ∷ []) ys →
    AreCoversOf (either f g ∷ []) (xs ++ ys)
of_or f g xs ys first second = covers_from (either f g) (xs ++ ys) (reword
    (union (ways_of f xs first) (ways_of g ys second)) (λ c letter h. h) (λ w i decided h. h))

-- ## Until

until_step : (A B : ℕ → Type 0) (i : ℕ) → Reaches A B i → ¬ B i → A i × Reaches A B (i + 1)
until_step A B i r none = elim (eq-or-lt_of_le r.later) [
  | inl here ↦ absurd (none (subst B (sym here) r.there))
  | inr later ↦ (
    r.before i (omega arith) later,
    record {
      end = r.end;
      later = omega arith;
      there = r.there;
      before = λ k low high. r.before k (omega arith) high;
    },
  )
]

postponing_fits : (f g : NormalFormula) (w : ℕ → ℕ) (i : ℕ) → Postpones w i (reaches f g) →
    Fits (postponing_cover (reaches f g)) w i
postponing_fits f g w i h = record {
  guard = refl;
  next = λ k asked. subst (λ (l : NormalFormula). Satisfies (plain l) w (i + 1)) (in_one (reaches f g) k asked) h.1;
  postponed = λ k asked. subst (λ (l : NormalFormula). Postpones w i l) (in_one (reaches f g) k asked) h;
}

-- what a cover that postpones a formula asks for
abbrev Puts : NormalFormula → Cover → ℕ → Type 0
Puts f c letter = Brings (Contains c.next) f × Contains c.postponed f

puts_grows : (f : NormalFormula) → IsMonotone (Puts f)
puts_grows f a c letter next postponed h = (brought_more (Contains a.next) (Contains c.next) next h.0, postponed f h.1)

pub of_until : (f g : NormalFormula) (xs ys zs : List Cover) → AreCoversOf (f ∷ []) xs → AreCoversOf (g ∷ []) ys →
    AreProducts xs (postponing_cover (reaches f g) ∷ []) zs → AreCoversOf (reaches f g ∷ []) (ys ++ zs)
of_until f g xs ys zs first second products =
    let u = reaches f g in
    let step : AreWays (Puts u) (λ w i. Postpones w i u) (postponing_cover u ∷ []) =
    one (Puts u) (λ w i. Postpones w i u) (postponing_cover u) (λ letter serves. (of_known (first_in u []), first_in u []))
    (λ w i decided h. postponing_fits f g w i h) in
    let later = product (ways_of f xs first) step products (grows f) (puts_grows u) in
    covers_from u (ys ++ zs) (reword (union (ways_of g ys second) later)
    (λ c letter h. elim h as (λ _. Covers c letter (reaches f g)) [
      | inl now ↦ inl now
      | inr postponed ↦ inr (postponed.0, postponed.1.0, postponed.1.1)
    ])
    (λ w i decided h. elim (decided.each (plain g) i) [
      | inl now ↦ inl now
      | inr none ↦
          let next = until_step (Satisfies (plain f) w) (Satisfies (plain g) w) i h none in
          inr (next.0, (none, next.1))
    ]))

-- ## Release

pub release_step : (A B : ℕ → Type 0) (i : ℕ) → Keeps A B i → ¬ A i → Keeps A B (i + 1)
release_step A B i r none = record {
  each = λ j low. elim (r.each j (omega arith)) [
    | inl there ↦ inl there
    | inr before ↦ elim (eq-or-lt_of_le before.1) [
      | inl here ↦ absurd (none (subst A (sym here) before.3))
      | inr later ↦ inr (before.0, omega arith, before.2, before.3)
    ]
  ];
}

pub of_release : (f g : NormalFormula) (xs ys zs : List Cover) → AreCoversOf (f ∷ []) xs → AreCoversOf (g ∷ []) ys →
    AreProducts ys (xs ++ next_cover (keeps f g) ∷ []) zs → AreCoversOf (keeps f g ∷ []) zs
of_release f g xs ys zs first second products =
    let r = keeps f g in
    let step : AreWays (λ c letter. Brings (Contains c.next) r) (λ w i. Satisfies (plain r) w (i + 1)) (next_cover r ∷ []) =
    one (λ c letter. Brings (Contains c.next) r) (λ w i. Satisfies (plain r) w (i + 1)) (next_cover r)
    (λ letter serves. of_known (first_in r [])) (λ w i decided h. next_fits r w i h) in
    let either_grows : IsMonotone (λ c letter. Covers c letter f ⊎ Brings (Contains c.next) r) =
    λ a c letter next postponed h. elim h [
      | inl now ↦ inl (grows f a c letter next postponed now)
      | inr later ↦ inr (brought_more (Contains a.next) (Contains c.next) next later)
    ] in
    covers_from r zs (reword
    (product (ways_of g ys second) (union (ways_of f xs first) step) products (grows g) either_grows)
    (λ c letter h. h)
    (λ w i decided h. (
      release_now (Satisfies (plain f) w) (Satisfies (plain g) w) i h,
      elim (decided.each (plain f) i) [
        | inl now ↦ inl now
        | inr none ↦ inr (release_step (Satisfies (plain f) w) (Satisfies (plain g) w) i h none)
      ],
    )))

-- ## Several obligations

abbrev AllEnough : List NormalFormula → Cover → ℕ → Type 0
AllEnough fs c letter = (f : NormalFormula) → Contains fs f → Covers c letter f

all_grow : (fs : List NormalFormula) → IsMonotone (AllEnough fs)
all_grow fs a c letter next postponed h f there = grows f a c letter next postponed (h f there)

set_ways : (fs : List NormalFormula) (covers : List Cover) → AreCoversOf fs covers →
    AreWays (AllEnough fs) (SatisfiesAll fs) covers
set_ways fs covers h = record {
  enough = λ c there letter serves f asked. (h.enough c there).each f asked letter serves;
  usable = h.usable;
}

pub of_more : (fs gs : List NormalFormula) (xs ys zs : List Cover) → AreCoversOf fs xs → AreCoversOf gs ys →
    AreProducts xs ys zs → AreCoversOf (fs ++ gs) zs
of_more fs gs xs ys zs first second products =
    let ways = product (set_ways fs xs first) (set_ways gs ys second) products (all_grow fs) (all_grow gs) in
    record {
      enough = λ c there. record {
        each = λ f asked letter serves.
            let two = ways.enough c there letter serves in
            elim (Contains-append_cases fs gs f asked) [ inl l ↦ two.0 f l | inr r ↦ two.1 f r ];
      };
      usable = λ w i decided satisfied. ways.usable w i decided (
        record { each = λ f asked. satisfied.each f (Contains-append_left fs gs f asked) },
        record { each = λ f asked. satisfied.each f (Contains-append_right fs gs f asked) },
      );
    }

pub of_none : AreCoversOf [] (free_cover ∷ [])
of_none = record {
  enough = λ c there. record { each = λ f asked. in_none f asked };
  usable = λ w i decided satisfied. (free_cover, first_in free_cover [], asks_nothing (λ _. true) w i refl);
}
