-- Sets as numbers: a set's formulas are those of its pair, and stay if the table of sets grows.
use Rattle.std.proofs.Common.{◌≡◌, ◌⊎◌, ℕ, zero, suc, ◌+◌, ◌-◌, ◌<◌, ◌≤◌, Bool, true, false, eqb, List, [], ◌∷◌, ◌++◌}
use Rattle.std.proofs.Common.{Some, ap, arith}
use Rattle.std.proofs.Common.{◌↔◌, drop, drop-cons, get_or, inl, inr, length, max, length-append, length-drop, refl}
use Rattle.std.proofs.Common.{subst, sym, ◌∙◌}
use Rattle.std.proofs.Math.Numerals.{add-one}
use Rattle.std.proofs.lemmas.List.{get_or_append_left}
use Rattle.std.proofs.lemmas.Option.{slice_get-get_or, slice_get_within}
use Rattle.std.proofs.lemmas.Bool.{eqb-true}
use Rattle.std.proofs.lemmas.List.Elements.{Contains-append_left, Contains-push, Contains-push_cases}
use Rattle.std.specs.List.{Contains, slice_get}
use Rattle.std.specs.Prelude.{Err, Ok, Result}
use Rattle.std.specs.Result.{IsErrAnd}
use Rattle.ps_formula.proofs.AnyTrees.{tree-append, tree-node}
use Rattle.ps_formula.proofs.Tables.{get_pushed, old_or_pushed}
use Rattle.ps_keys.specs.Keys.{IsPlacedKey}
use Rattle.ps_tableau.proofs.Members.{first_in, in_more, in_none, later_in}
use Rattle.ps_tableau.specs.declared.sets.Parts.{Parts}
use Rattle.ps_tableau.specs.Inner.SetSteps.{ArePartsOf, ExtendsSets, IsGreatest, IsNone, IsWithin, MakesSet}
use Rattle.ps_tableau.specs.Sets.{AreSets, KeepsSets, IsSet, indices_in, set_at, set_of, all_sets}

abbrev IsOver : ℕ → ℕ × ℕ → Type 0
IsOver k pair = pair.1 ≤ k

set_at-front : (known more : List (List ℕ)) (set : ℕ) → set ≤ length known →
    set_at (known ++ more) set ≡ set_at known set
set_at-front known more zero within = refl
set_at-front known more (suc k) within = get_or_append_left known more [] k (omega arith)

set_of-front : (known more : List (List ℕ)) (pair : ℕ × ℕ) → IsOver (length known) pair →
    set_of (known ++ more) pair ≡ set_of known pair
set_of-front known more pair within = ap (λ (s : List ℕ). pair.0 ∷ s) (set_at-front known more pair.1 within)

-- a set has the first part of its pair, and the formulas of its second part
pub indices_in-pair : (pairs : List (ℕ × ℕ)) (k : ℕ) (pair : ℕ × ℕ) → AreSets pairs → slice_get pairs k ≡ Some pair →
    indices_in pairs (k + 1) ≡ pair.0 ∷ indices_in pairs pair.1
unfolding all_sets
indices_in-pair pairs k pair sets at = rw add-one (tree-node [] set_of IsOver set_of-front pairs k pair sets.earlier at)

pub indices_in-append : (pairs more : List (ℕ × ℕ)) (set : ℕ) → IsSet pairs set →
    indices_in (pairs ++ more) set ≡ indices_in pairs set
unfolding all_sets
indices_in-append pairs more zero within = refl
indices_in-append pairs more (suc k) within = tree-append [] set_of IsOver set_of-front pairs more k (omega arith)

pub extends_refl : (pairs : List (ℕ × ℕ)) → KeepsSets pairs pairs
extends_refl pairs = record { held = λ set h. h; same = λ set h. refl }

pub extends_append : (pairs more : List (ℕ × ℕ)) → KeepsSets pairs (pairs ++ more)
extends_append pairs more = record {
  held = λ set h. omega (arith, length-append pairs more);
  same = indices_in-append pairs more;
}

pub extends_trans : {a b c : List (ℕ × ℕ)} → KeepsSets a b → KeepsSets b c → KeepsSets a c
extends_trans first second = record {
  held = λ set h. second.held set (first.held set h);
  same = λ set h. second.same set (first.held set h) ∙ first.same set h;
}

-- a call that fails
pub fails_sets : {E : Type 0} (Q : E → Type 0) {old new : List (ℕ × ℕ)} (r : Result ℕ E) {P : ℕ → Type 0} →
    KeepsSets old new → AreSets new → IsErrAnd r Q → ExtendsSets old new r P
fails_sets Q (Ok x) keeps sound err = absurd err
fails_sets Q (Err e) keeps sound err = record { extends = keeps; sets = sound; set = tt }

-- ## A set and its pair

pub parts_of : (pairs : List (ℕ × ℕ)) (set : ℕ) (pair : ℕ × ℕ) → AreSets pairs → 0 < set → IsSet pairs set →
    slice_get pairs (set - 1) ≡ Some pair → ArePartsOf pairs set (record { greatest = pair.0; others = pair.1 })
parts_of pairs set pair sets some held at =
    let low : pair.1 ≤ set - 1 = sets.earlier (set - 1) pair at in
    let next : (set - 1) + 1 ≡ set = omega arith in
    record {
      held = omega arith;
      earlier = omega arith;
      is = subst (λ n. indices_in pairs n ≡ pair.0 ∷ indices_in pairs pair.1) next
          (indices_in-pair pairs (set - 1) pair sets at);
    }

-- the table with a pair that was sought in it
pub record IsWithPair (old : List (ℕ × ℕ)) (pair : ℕ × ℕ) (new : List (ℕ × ℕ)) (place : ℕ) : Type 0 where
  pub extends : KeepsSets old new
  pub sets : AreSets new
  pub there : slice_get new place ≡ Some pair

pub with_pair : (eq : ℕ × ℕ → ℕ × ℕ → Bool) → ((x y : ℕ × ℕ) → eq x y ≡ true → x ≡ y) → {old new : List (ℕ × ℕ)}
    {pair : ℕ × ℕ} {place : ℕ} → AreSets old → pair.1 ≤ length old → IsPlacedKey eq old new pair place →
    IsWithPair old pair new place
with_pair eq same {old} {new} {pair} {place} sets below placed = elim placed [
  | inl known ↦
      let is : get_or old place pair ≡ pair = same (get_or old place pair) pair (known.2 pair) in
      rw known.0 (record {
        extends = extends_refl old;
        sets = sets;
        there = slice_get-get_or old place pair known.1 ∙ ap Some is;
      })
  | inr fresh ↦ rw (fresh.0, fresh.1) (record {
    extends = extends_append old (pair ∷ []);
    sets = record {
      earlier = λ k other at. elim (old_or_pushed old pair other k at) [
        | inl there ↦ sets.earlier k other there
        | inr new ↦ rw (new.0, ← new.1) below
      ];
    };
    there = get_pushed old pair;
  })
]

pub set_with : {old new : List (ℕ × ℕ)} {pair : ℕ × ℕ} {place : ℕ} → pair.1 ≤ length old →
    IsWithPair old pair new place → MakesSet new (λ is. is ≡ pair.0 ∷ indices_in old pair.1) (place + 1)
set_with {old} {new} {pair} {place} below h = record {
  held = omega (arith, slice_get_within new place pair h.there);
  right = indices_in-pair new place pair h.sets h.there
      ∙ ap (λ (s : List ℕ). pair.0 ∷ s) (h.extends.same pair.1 below);
}

-- ## Walks along sets

pub not_empty : (set : ℕ) → eqb set 0 ≡ false → 0 < set
not_empty zero e = cc
not_empty (suc k) e = omega arith

pub is_empty : (set : ℕ) → eqb set 0 ≡ true → set ≡ 0
is_empty set e = eqb-true set 0 e

module _ {pairs : List (ℕ × ℕ)} where
  pub parts_cases : {set : ℕ} {parts : Parts} → ArePartsOf pairs set parts → (k : ℕ) →
      Contains (indices_in pairs set) k ↔ ((parts.greatest ≡ k) ⊎ Contains (indices_in pairs parts.others) k)
  parts_cases {set} {parts} h k = (
    λ there. in_more parts.greatest (indices_in pairs parts.others) k (subst (λ (s : List ℕ). Contains s k) h.is there),
    λ cases. subst (λ (s : List ℕ). Contains s k) (sym h.is) (elim cases [
      | inl here ↦ subst (λ j. Contains (parts.greatest ∷ indices_in pairs parts.others) j) here
          (first_in parts.greatest (indices_in pairs parts.others))
      | inr rest ↦ later_in parts.greatest (indices_in pairs parts.others) k rest
    ]),
  )

  -- two sets with one greatest formula, or the one with the greater one, are taken apart
  both_greatest : {a b : ℕ} {p q : Parts} → ArePartsOf pairs a p → ArePartsOf pairs b q → p.greatest ≡ q.greatest →
      IsGreatest pairs a b (record { index = p.greatest; first = p.others; second = q.others })
  both_greatest {a} {b} {p} {q} first second same = record {
    first = first.held;
    second = second.held;
    falls = let i = first.earlier in let j = second.earlier in omega arith;
    each = λ k. (
      λ there. elim there [
        | inl l ↦ elim ((parts_cases first k).0 l) [ inl here ↦ inl here | inr rest ↦ inr (inl rest) ]
        | inr r ↦ elim ((parts_cases second k).0 r) [ inl here ↦ inl (same ∙ here) | inr rest ↦ inr (inr rest) ]
      ],
      λ cases. elim cases [
        | inl here ↦ inl ((parts_cases first k).1 (inl here))
        | inr rest ↦ elim rest [
          | inl l ↦ inl ((parts_cases first k).1 (inr l))
          | inr r ↦ inr ((parts_cases second k).1 (inr r))
        ]
      ],
    );
  }

  first_greatest : {a b : ℕ} {p : Parts} → ArePartsOf pairs a p → IsSet pairs b →
      IsGreatest pairs a b (record { index = p.greatest; first = p.others; second = b })
  first_greatest {a} {b} {p} first second = record {
    first = first.held;
    second = second;
    falls = let i = first.earlier in omega arith;
    each = λ k. (
      λ there. elim there [
        | inl l ↦ elim ((parts_cases first k).0 l) [ inl here ↦ inl here | inr rest ↦ inr (inl rest) ]
        | inr r ↦ inr (inr r)
      ],
      λ cases. elim cases [
        | inl here ↦ inl ((parts_cases first k).1 (inl here))
        | inr rest ↦ elim rest [ inl l ↦ inl ((parts_cases first k).1 (inr l)) | inr r ↦ inr r ]
      ],
    );
  }

  second_greatest : {a b : ℕ} {q : Parts} → IsSet pairs a → ArePartsOf pairs b q →
      IsGreatest pairs a b (record { index = q.greatest; first = a; second = q.others })
  second_greatest {a} {b} {q} first second = record {
    first = first;
    second = second.held;
    falls = let i = second.earlier in omega arith;
    each = λ k. (
      λ there. elim there [
        | inl l ↦ inr (inl l)
        | inr r ↦ elim ((parts_cases second k).0 r) [ inl here ↦ inl here | inr rest ↦ inr (inr rest) ]
      ],
      λ cases. elim cases [
        | inl here ↦ inr ((parts_cases second k).1 (inl here))
        | inr rest ↦ elim rest [ inl l ↦ inl l | inr r ↦ inr ((parts_cases second k).1 (inr r)) ]
      ],
    );
  }

  pub greatest_of : {a b : ℕ} {p q : Parts} (index first second : ℕ) → IsSet pairs a → IsSet pairs b →
      ArePartsOf pairs a p → ArePartsOf pairs b q → index ≡ max p.greatest q.greatest →
      ((p.greatest < q.greatest) × (first ≡ a)) ⊎ ((q.greatest ≤ p.greatest) × (first ≡ p.others)) →
      ((q.greatest < p.greatest) × (second ≡ b)) ⊎ ((p.greatest ≤ q.greatest) × (second ≡ q.others)) →
      IsGreatest pairs a b (record { index = index; first = first; second = second })
  greatest_of {a} {b} {p} {q} index first second a_held b_held a_pair b_pair is left right = elim left [
    | inl less ↦ elim right [
      | inl more ↦ absurd (let x = less.0 in let y = more.0 in omega arith)
      | inr more ↦
          let low = less.0 in
          let e : index ≡ q.greatest = omega arith in
          rw (e, less.1, more.1) (second_greatest a_held b_pair)
    ]
    | inr less ↦ elim right [
      | inl more ↦
          let low = more.0 in
          let e : index ≡ p.greatest = omega arith in
          rw (e, less.1, more.1) (first_greatest a_pair b_held)
      | inr more ↦
          let low = less.0 in
          let high = more.0 in
          let e : index ≡ p.greatest = omega arith in
          rw (e, less.1, more.1) (both_greatest a_pair b_pair (omega arith))
    ]
  ]

  pub within_both : {a b : ℕ} {p q : Parts} → ArePartsOf pairs a p → ArePartsOf pairs b q → p.greatest ≡ q.greatest →
      IsWithin pairs p.others q.others → IsWithin pairs a b
  within_both {a} {b} {p} {q} first second same within k there = elim ((parts_cases first k).0 there) [
    | inl here ↦ (parts_cases second k).1 (inl (sym same ∙ here))
    | inr rest ↦ (parts_cases second k).1 (inr (within k rest))
  ]

  pub within_one : (a : ℕ) {b : ℕ} {q : Parts} → ArePartsOf pairs b q → IsWithin pairs a q.others → IsWithin pairs a b
  within_one a {b} {q} second within k there = (parts_cases second k).1 (inr (within k there))

-- ## Unions

pub merge_step : {A B T F S G H I U : Type 0} → ((A ⊎ B) ↔ (T ⊎ (F ⊎ S))) → ((F ⊎ S) ↔ (I ⊎ (G ⊎ H))) →
    (U ↔ (T ⊎ I)) → (A ⊎ B) ↔ (U ⊎ (G ⊎ H))
merge_step both apart pushed = (
  λ there. elim (both.0 there) [
    | inl t ↦ inl (pushed.1 (inl t))
    | inr fs ↦ elim (apart.0 fs) [ inl i ↦ inl (pushed.1 (inr i)) | inr gh ↦ inr gh ]
  ],
  λ cases. elim cases [
    | inl u ↦ elim (pushed.0 u) [ inl t ↦ both.1 (inl t) | inr i ↦ both.1 (inr (apart.1 (inl i))) ]
    | inr gh ↦ both.1 (inr (apart.1 (inr gh)))
  ],
)

pub pushed_cases : {X : Type 0} (xs : List X) (x k : X) → Contains (xs ++ x ∷ []) k ↔ (Contains xs k ⊎ (x ≡ k))
pushed_cases xs x k = (
  λ there. Contains-push_cases xs x k there,
  λ cases. elim cases [
    | inl old ↦ Contains-append_left xs (x ∷ []) k old
    | inr is ↦ subst (λ j. Contains (xs ++ x ∷ []) j) is (Contains-push xs x)
  ],
)

-- of two sets of which one is empty, the other one is left
pub merged_rest : (pairs : List (ℕ × ℕ)) {A B T : Type 0} (first second rest : ℕ) → IsNone first second →
    ((first ≡ 0) × (rest ≡ second)) ⊎ ((0 < first) × (rest ≡ first)) → (k : ℕ) →
    ((A ⊎ B) ↔ (T ⊎ (Contains (indices_in pairs first) k ⊎ Contains (indices_in pairs second) k))) →
    (A ⊎ B) ↔ (T ⊎ Contains (indices_in pairs rest) k)
merged_rest pairs first second rest none cases k both =
    let is : (Contains (indices_in pairs first) k ⊎ Contains (indices_in pairs second) k) ↔ Contains
    (indices_in pairs rest) k =
    elim cases [
      | inl empty ↦ rw (empty.0, empty.1) (λ there. elim there [ inl l ↦ in_none k l | inr r ↦ r ], λ there. inr there)
      | inr some ↦ elim none [
        | inl e ↦ absurd (let low = some.0 in omega arith)
        | inr e ↦ rw (e, some.1) (λ there. elim there [ inl l ↦ l | inr r ↦ in_none k r ], λ there. inl there)
      ]
    ] in (
      λ there. elim (both.0 there) [ inl t ↦ inl t | inr fs ↦ inr (is.0 fs) ],
      λ there. elim there [ inl t ↦ both.1 (inl t) | inr r ↦ both.1 (inr (is.1 r)) ],
    )

-- ## Sets with more formulas

pub more_cases : {X : Type 0} (d : X) (xs : List X) (place : ℕ) (k : X) → place < length xs →
    Contains (drop place xs) k ↔ ((get_or xs place d ≡ k) ⊎ Contains (drop (place + 1) xs) k)
more_cases d xs place k within =
    let is : drop place xs ≡ get_or xs place d ∷ drop (place + 1) xs = rw (add-one, drop-cons xs place d) refl in
    rw is (
      λ there. in_more (get_or xs place d) (drop (place + 1) xs) k there,
      λ cases. elim cases [
        | inl here ↦ subst (λ j. Contains (get_or xs place d ∷ drop (place + 1) xs) j) here
            (first_in (get_or xs place d) (drop (place + 1) xs))
        | inr rest ↦ later_in (get_or xs place d) (drop (place + 1) xs) k rest
      ],
    )

pub none_more : {X O : Type 0} (xs : List X) (k : X) → O ↔ (Contains (drop (length xs) xs) k ⊎ O)
none_more xs k = (
  λ o. inr o,
  λ cases. elim cases [ inl more ↦ absurd (omega (arith, more.1, length-drop (length xs) xs)) | inr o ↦ o ],
)

pub one_more : {X O : Type 0} (d : X) (xs ys is : List X) (place : ℕ) (k : X) → place < length xs →
    is ≡ get_or xs place d ∷ ys → (Contains ys k ↔ (Contains (drop (place + 1) xs) k ⊎ O)) →
    Contains is k ↔ (Contains (drop place xs) k ⊎ O)
one_more {X} d xs ys is place k within e both =
    let cases = more_cases d xs place k within in
    let x = get_or xs place d in (
      λ there. elim (in_more x ys k (subst (λ (s : List X). Contains s k) e there)) [
        | inl here ↦ inl (cases.1 (inl here))
        | inr rest ↦ elim (both.0 rest) [ inl more ↦ inl (cases.1 (inr more)) | inr o ↦ inr o ]
      ],
      λ there. subst (λ (s : List X). Contains s k) (sym e) (elim there [
        | inl more ↦ elim (cases.0 more) [
          | inl here ↦ subst (λ (j : X). Contains (x ∷ ys) j) here (first_in x ys)
          | inr rest ↦ later_in x ys k (both.1 (inl rest))
        ]
        | inr o ↦ later_in x ys k (both.1 (inr o))
      ]),
    )

pub same_cases : {A B R S T : Type 0} → (S ↔ (T ⊎ R)) → ((A ⊎ B) ↔ (T ⊎ R)) → S ↔ (A ⊎ B)
same_cases made merged = (λ s. merged.1 (made.0 s), λ ab. made.1 (merged.0 ab))
