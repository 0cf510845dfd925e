-- Lists of different leaves, each with a letter: a leaf is found by its index, and one more leaf is added.
use Rattle.std.proofs.Common.{◌≡◌, ℕ, zero, suc, ◌+◌, ◌-◌, ◌<◌, ◌≤◌, Bool, true, false, List, [], ◌∷◌, ◌++◌}
use Rattle.std.proofs.Common.{length, map, cond, get_or, Some, None, nat_eq, refl, ap, sym, ◌∙◌, arith, inl, inr}
use Rattle.std.proofs.lemmas.Bool.{cases_Bool, cases_lt, eq-eqb, eqb-true, eqb-false, ne_eqb, lt-ltb, le-ltb, ltb-false}
use Rattle.std.proofs.lemmas.List.{drop_all, drop-append-le, get_or_default, get_or-drop, get_or-map}
use Rattle.std.proofs.lemmas.List.{length-drop, length-map, length_push, map-append}
use Rattle.std.proofs.lemmas.List.Sums.{fails_before_first, position_or_len_is}
use Rattle.std.proofs.lemmas.List.Quantifiers.{all_pairs_push, position-Some}
use Rattle.std.specs.List.{position_or_len}
use Rattle.std.specs.Map.{lookup}
use Rattle.std.specs.Prelude.{AllPairs, ◌≢◌}
use Rattle.ps_keys.specs.Keys.{LacksFrom}
use Rattle.ps_diagram.specs.Inner.LeafTables.{AreDifferent, IsPlace, LacksBefore, place_in}
use Rattle.ps_diagram.specs.Inner.Numbered.{pair_at}
use Rattle.ps_diagram.specs.Reached.{IsFound}

-- ## The first index of a leaf

place_is : (pairs : List (ℕ × ℕ)) (leaf i : ℕ) → IsPlace pairs leaf i →
    ((k : ℕ) → k < i → (pair_at pairs k).0 ≡ leaf → ⊥) → place_in pairs leaf ≡ Some i
place_is pairs leaf i here before =
    let at : position_or_len (λ (pair : ℕ × ℕ). nat_eq leaf pair.0) pairs ≡ i =
    position_or_len_is (λ (pair : ℕ × ℕ). nat_eq leaf pair.0) pairs i (0, 0) (omega (arith, here.0))
    (λ k less. ne_eqb leaf (pair_at pairs k).0 (λ e. before k less (sym e)))
    (λ _. eq-eqb leaf (pair_at pairs i).0 (sym here.1)) in
    rw (at, lt-ltb i (length pairs) here.0) refl

no_place_is : (pairs : List (ℕ × ℕ)) (leaf : ℕ) →
    ((k : ℕ) → k < length pairs → (pair_at pairs k).0 ≡ leaf → ⊥) → place_in pairs leaf ≡ None
no_place_is pairs leaf lacks =
    let at : position_or_len (λ (pair : ℕ × ℕ). nat_eq leaf pair.0) pairs ≡ length pairs =
    position_or_len_is (λ (pair : ℕ × ℕ). nat_eq leaf pair.0) pairs (length pairs) (0, 0) (omega arith)
    (λ k less. ne_eqb leaf (pair_at pairs k).0 (λ e. lacks k less (sym e))) (λ less. absurd (omega (arith, less))) in
    rw (at, le-ltb (length pairs) (length pairs) (omega arith)) refl

pub place_at : (pairs : List (ℕ × ℕ)) (leaf i : ℕ) → place_in pairs leaf ≡ Some i → IsPlace pairs leaf i
place_at pairs leaf i e =
    let found = position-Some (λ (pair : ℕ × ℕ). nat_eq leaf pair.0) pairs i (0, 0) e in
    (found.0, sym (eqb-true leaf (pair_at pairs i).0 found.1))

all_tested : (a n : ℕ) (b : Bool) → cond b (Some a) None ≡ None → b ≡ false
all_tested a n true e = cc
all_tested a n false e = refl

not_placed : (pairs : List (ℕ × ℕ)) (leaf : ℕ) → place_in pairs leaf ≡ None → (k : ℕ) → k < length pairs →
    (pair_at pairs k).0 ≡ leaf → ⊥
not_placed pairs leaf none k less e =
    let test = λ (pair : ℕ × ℕ). nat_eq leaf pair.0 in
    let end : length pairs ≤ position_or_len test pairs =
    ltb-false _ _ (all_tested (position_or_len test pairs) 0 _ none) in
    eqb-false leaf (pair_at pairs k).0 (fails_before_first test pairs k (0, 0) (omega (arith, less, end))) (sym e)

-- in a list of different leaves, each leaf is at one index only
pub place_once : (pairs : List (ℕ × ℕ)) (leaf i : ℕ) → AllPairs (λ a b. a.0 ≢ b.0) pairs → IsPlace pairs leaf i →
    place_in pairs leaf ≡ Some i
place_once pairs leaf i apart here =
    place_is pairs leaf i here (λ k less e. apart k i (0, 0) less here.0 (e ∙ sym here.1))

-- ## Entries of the list

lookup_none : (pairs : List (ℕ × ℕ)) (leaf : ℕ) → ((k : ℕ) → k < length pairs → (pair_at pairs k).0 ≡ leaf → ⊥) →
    lookup (nat_eq leaf) pairs ≡ None
lookup_none [] leaf lacks = refl
lookup_none (pair ∷ pairs) leaf lacks =
    rw (ne_eqb leaf pair.0 (λ e. lacks 0 (omega arith) (sym e)))
    (lookup_none pairs leaf (λ k less. lacks (suc k) (omega (arith, less))))

found_at : (pairs : List (ℕ × ℕ)) (leaf i : ℕ) → i < length pairs → (pair_at pairs i).0 ≡ leaf → IsFound pairs leaf
found_at [] leaf i less here = absurd (omega (arith, less))
found_at (pair ∷ pairs) leaf zero less here = (pair.1, rw (eq-eqb leaf pair.0 (sym here)) refl)
found_at (pair ∷ pairs) leaf (suc i) less here = elim (cases_Bool (nat_eq leaf pair.0)) [
  | inl is ↦ (pair.1, rw is refl)
  | inr isnt ↦ (let rest = found_at pairs leaf i (omega (arith, less)) here in (rest.0, rw isnt rest.1))
]

pub no_place_found : (pairs : List (ℕ × ℕ)) (leaf : ℕ) → place_in pairs leaf ≡ None → lookup (nat_eq leaf) pairs ≡ None
no_place_found pairs leaf none = lookup_none pairs leaf (not_placed pairs leaf none)

pub place_found : (pairs : List (ℕ × ℕ)) (leaf i : ℕ) → place_in pairs leaf ≡ Some i → IsFound pairs leaf
place_found pairs leaf i e = let at = place_at pairs leaf i e in found_at pairs leaf i at.0 at.1

-- ## The leaves from the ninth on

module _ {pairs : List (ℕ × ℕ)} {others : List ℕ} (h : AreDifferent pairs others) where
  other_at : (j d : ℕ) → 8 + j < length pairs → get_or others j d ≡ (pair_at pairs (8 + j)).0
  other_at j d less = rw h.rest (get_or-drop 8 (map (λ (pair : ℕ × ℕ). pair.0) pairs) j d
      ∙ get_or-map (λ (pair : ℕ × ℕ). pair.0) pairs (8 + j) (0, 0) d less)

  others_count : length others ≡ length pairs - 8
  others_count = rw h.rest (omega (
    arith,
    length-drop 8 (map (λ (pair : ℕ × ℕ). pair.0) pairs),
    length-map pairs (λ (pair : ℕ × ℕ). pair.0),
  ))

  pub early_placed : (leaf i : ℕ) → IsPlace pairs leaf i → place_in pairs leaf ≡ Some i
  early_placed leaf i here = place_once pairs leaf i h.apart here

  pub later_placed : (leaf j : ℕ) → j < length others → ((d : ℕ) → nat_eq (get_or others j d) leaf ≡ true) →
      place_in pairs leaf ≡ Some (8 + j)
  later_placed leaf j less is =
      let inside : 8 + j < length pairs = omega (arith, less, others_count) in
      place_once pairs leaf (8 + j) h.apart
      (inside, sym (other_at j 0 inside) ∙ eqb-true (get_or others j 0) leaf (is 0))

  pub nowhere : (leaf : ℕ) → LacksBefore 8 pairs leaf → LacksFrom nat_eq others 0 leaf → place_in pairs leaf ≡ None
  nowhere leaf before behind = no_place_is pairs leaf (λ k less e. elim (cases_lt k 8) [
    | inl low ↦ before k low less e
    | inr high ↦
        let j = k - 8 in
        let same : k ≡ 8 + j = omega (arith, high) in
        let at : get_or others j 0 ≡ leaf =
        other_at j 0 (omega (arith, less, same)) ∙ (rw same at e) in
        eqb-false (get_or others j 0) leaf (behind j 0 (omega arith) (omega (arith, less, high, others_count))) at
  ])

  added : (leaf letter : ℕ) → place_in pairs leaf ≡ None → AllPairs (λ a b. a.0 ≢ b.0) (pairs ++ (leaf, letter) ∷ [])
  added leaf letter none = all_pairs_push (λ (a b : ℕ × ℕ). a.0 ≢ b.0) pairs (leaf, letter) h.apart
      (λ k d less e. not_placed pairs leaf none k less
      (ap (λ (pair : ℕ × ℕ). pair.0) (get_or_default pairs k (0, 0) d less) ∙ e))

  pub added_early : {more : List (ℕ × ℕ)} (leaf letter : ℕ) → place_in pairs leaf ≡ None → length pairs < 8 →
      more ≡ pairs ++ (leaf, letter) ∷ [] → AreDifferent more others
  added_early leaf letter none few is = rw is (record {
    apart = added leaf letter none;
    rest = h.rest ∙ drop_all 8 (map (λ (pair : ℕ × ℕ). pair.0) pairs)
        (omega (arith, few, length-map pairs (λ (pair : ℕ × ℕ). pair.0)))
        ∙ sym (drop_all 8 (map (λ (pair : ℕ × ℕ). pair.0) (pairs ++ (leaf, letter) ∷ [])) (omega (
          arith,
          few,
          length_push pairs (leaf, letter),
          length-map (pairs ++ (leaf, letter) ∷ []) (λ (pair : ℕ × ℕ). pair.0),
        )));
  })

  pub added_later : {more : List (ℕ × ℕ)} {behind : List ℕ} (leaf letter : ℕ) → place_in pairs leaf ≡ None →
      8 ≤ length pairs → behind ≡ others ++ leaf ∷ [] → more ≡ pairs ++ (leaf, letter) ∷ [] → AreDifferent more behind
  added_later leaf letter none many behind_is is = rw (is, behind_is) (record {
    apart = added leaf letter none;
    rest = rw (map-append (λ (pair : ℕ × ℕ). pair.0) pairs ((leaf, letter) ∷ []), h.rest)
        (sym (drop-append-le 8 (map (λ (pair : ℕ × ℕ). pair.0) pairs) (leaf ∷ [])
        (omega (arith, many, length-map pairs (λ (pair : ℕ × ℕ). pair.0)))));
  })

  -- `place_of` appends a leaf that the list lacks to the leaves from the ninth on
  pub not_among : (leaf j : ℕ) → place_in pairs leaf ≡ None → j < length others →
      ((d : ℕ) → nat_eq (get_or others j d) leaf ≡ true) → ⊥
  not_among leaf j none less is =
      let inside : 8 + j < length pairs = omega (arith, less, others_count) in
      not_placed pairs leaf none (8 + j) inside (sym (other_at j 0 inside) ∙ eqb-true (get_or others j 0) leaf (is 0))
