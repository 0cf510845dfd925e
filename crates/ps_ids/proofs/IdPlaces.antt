-- The index of an id in the list of ids is the id's distance from `first`, or is recorded in the table or in the tree.
use Rattle.std.proofs.Common.{◌≡◌, ◌≢◌, ℕ, ◌+◌, ◌<◌, ◌≤◌, Bool, false, eqb, List, [], ◌∷◌, ◌++◌, length, get_or}
use Rattle.std.proofs.Common.{Option, None, Some, refl, sym, ap, subst, inl, inr, ⊎_elim, ◌∙◌, arith, rules}
use Rattle.std.proofs.Common.{length-append}
use Rattle.std.proofs.lemmas.Bool.{cases_Bool, cases_lt, ltb-true, ltb-false, eqb-true, eq-eqb}
use Rattle.std.proofs.lemmas.List.{get_or_append_left, get_or_past, nil_from_length}
use Rattle.std.proofs.lemmas.List.Elements.{Contains-get_or}
use Rattle.std.proofs.lemmas.List.Folds.{list_any-from_Any, list_any_none}
use Rattle.std.proofs.lemmas.List.Quantifiers.{all_pairs_push, position-Some}
use Rattle.std.proofs.lemmas.List.Sums.{position_or_len_is, fails_before_first}
use Rattle.std.proofs.lemmas.Grind.{get_or_default_zero}
use Rattle.std.proofs.Math.Seq.{get_or-append_seam}
use Rattle.std.specs.List.{Contains, list_any, position, position_or_len}
use Rattle.std.specs.List.{slice_index}
use Rattle.std.specs.Option.{is_some}
use Rattle.std.specs.BTreeMap.{BTreeMap, get}
use Rattle.std.specs.Ordering.{nat_cmp}
use Rattle.ps_ids.specs.Ids.{AreDistinct, IsRecordedAt, IsIdTable, KeepsPlace, own_place}

abbrev is_id : ℕ → ℕ → Bool
is_id id other = eqb id other

some_none : {X : Type 0} (x : X) → Some x ≡ None → ⊥
some_none x e = let h : Some x ≡ None = e in cc

position_at : (p : ℕ → Bool) (ids : List ℕ) (i : ℕ) → position_or_len p ids ≡ i → i < length ids →
    position p ids ≡ Some i
position_at p ids i e l = search (rules, ltb-false, cases_Bool)

position_none : (p : ℕ → Bool) (ids : List ℕ) → length ids ≤ position_or_len p ids → position p ids ≡ None
position_none p ids l = search (rules, ltb-true, cases_Bool)

unlike : (a b : ℕ) → a ≢ b → eqb a b ≡ false
unlike a b n = search (rules, eqb-true, cases_Bool)

-- an id in a list without repeats has only one index
pub position_here : (ids : List ℕ) (id place : ℕ) → AreDistinct ids → place < length ids → get_or ids place 0 ≡ id →
    position (is_id id) ids ≡ Some place
position_here ids id place distinct l e = search (rules, position_at, position_or_len_is, unlike, eq-eqb)

pub position_nowhere : (ids : List ℕ) (id : ℕ) → ((k : ℕ) → k < length ids → get_or ids k 0 ≢ id) →
    position (is_id id) ids ≡ None
position_nowhere ids id none = position_none (is_id id) ids
    (let e : position_or_len (is_id id) ids ≡ length ids = position_or_len_is (is_id id) ids (length ids) 0
    (omega arith) (λ k l. unlike id (get_or ids k 0) (λ same. none k l (sym same))) (λ l. absurd (omega (arith, l))) in
    omega (arith, e))

abbrev pub IsAt : List ℕ → ℕ → ℕ → Type 0
IsAt ids place id = (place < length ids) × (slice_index ids place ≡ id)

-- if a list without repeats has the id at `place`, searching the list for the id gives the index `place`
pub found_at : (ids : List ℕ) {shown : List ℕ} (id place : ℕ) → AreDistinct ids → ids ≡ shown → IsAt ids place id →
    Some place ≡ position (is_id id) shown
found_at ids id place distinct same at =
    subst (λ xs. Some place ≡ position (is_id id) xs) same (sym (position_here ids id place distinct at.0 at.1))

-- if the table has the entry `place` + 1 at an id's distance from `first`, the list has the id at `place`
pub near_at : (first : ℕ) (ids near : List ℕ) (far : ℕ → Option ℕ) (id place : ℕ) → IsIdTable first ids near far →
    first ≤ id → slice_index near (own_place first id) ≡ place + 1 → IsAt ids place id
near_at first ids near far id place is above e =
    let at = is.near_sound (own_place first id) place e in
    (at.0, at.1 ∙ omega arith)

-- if an id's index is not its distance from `first`, and is not in the table, the tree has exactly this index; for a
-- number that is not an id, the tree has no index
pub position_by_table : (first : ℕ) (ids near : List ℕ) (far : ℕ → Option ℕ) (id : ℕ) → IsIdTable first ids near far →
    ((first ≤ id) → slice_index near (own_place first id) ≡ 0) → (IsAt ids (own_place first id) id → ⊥) →
    far id ≡ position (is_id id) ids
position_by_table first ids near far id is not_near not_own = go (far id) refl
  where
    not_kept : (k : ℕ) → k < length ids → get_or ids k 0 ≡ id → far id ≡ None → IsRecordedAt first near far id k → ⊥
    not_kept k l same e (inl own) = not_own (grind arith)
    not_kept k l same e (inr (inl (above, at))) = absurd (omega (arith, at, not_near above))
    not_kept k l same e (inr (inr at)) = some_none k (sym at ∙ e)

    nowhere : far id ≡ None → (k : ℕ) → k < length ids → get_or ids k 0 ≢ id
    nowhere e k l same =
        not_kept k l same e (subst (λ q. IsRecordedAt first near far q k) same (is.whole k l))

    go : (o : Option ℕ) → far id ≡ o → far id ≡ position (is_id id) ids
    go None e = e ∙ sym (position_nowhere ids id (nowhere e))
    go (Some place) e = let at = is.sound id place e in e ∙ sym (position_here ids id place is.distinct at.0 at.1)

-- a tree without entries records no index
pub nothing_far : (far : BTreeMap ℕ ℕ) → length far.entries ≡ 0 → (q : ℕ) → get nat_cmp far q ≡ None
nothing_far far none q = rw (nil_from_length far.entries none) refl

-- if neither the table nor the tree records an index, the index of an id greater than `first` is its distance from
-- `first`
module _ (first : ℕ) (ids near : List ℕ) (far : ℕ → Option ℕ) (id : ℕ) (is : IsIdTable first ids near far)
    (no_near : length near ≡ 0) (no_far : (q : ℕ) → far q ≡ None) (greater : first < id) where
  nothing : (k : ℕ) → slice_index near k ≡ 0
  nothing k = get_or_past near k 0 (omega (arith, no_near))

  pub position_within : own_place first id < length ids → position (is_id id) ids ≡ Some (own_place first id)
  position_within l = position_here ids id (own_place first id) is.distinct l (own_is (is.whole (own_place first id) l))
    where
      own_is : IsRecordedAt first near far (slice_index ids (own_place first id)) (own_place first id) →
          slice_index ids (own_place first id) ≡ id
      own_is (inl same) = omega (arith, same, greater)
      own_is (inr (inl (late, at))) = absurd (omega (
        arith,
        at,
        nothing (own_place first (slice_index ids (own_place first id))),
      ))
      own_is (inr (inr at)) =
          absurd (some_none (own_place first id) (sym at ∙ no_far (slice_index ids (own_place first id))))

  pub position_past : length ids ≤ own_place first id → position (is_id id) ids ≡ None
  position_past l = sym (position_by_table first ids near far id is (λ above. nothing (own_place first id))
      (λ at. omega (arith, at.0, l))) ∙ no_far id

pub some_position : (p : ℕ → Bool) (ids : List ℕ) → is_some (position p ids) ≡ list_any p ids
some_position p ids = go (position p ids) refl
  where
    go : (o : Option ℕ) → position p ids ≡ o → is_some (position p ids) ≡ list_any p ids
    go (Some i) e =
        let at = position-Some p ids i 0 e in
        ap is_some e ∙ sym (list_any-from_Any p ids (i, get_or ids i 0, at.0, get_or_default_zero ids i _ at.0, at.1))
    go None e = search (rules, some_none, position_at, cases_lt, list_any_none, fails_before_first)

-- after a new id is added at the end of the list and its index is recorded, the index of each id is still recorded, and
-- no wrong index is recorded
pub table_push : (first : ℕ) (ids ids' near near' : List ℕ) (old new : ℕ → Option ℕ) (id place : ℕ) →
    IsIdTable first ids near old → place ≡ length ids → KeepsPlace first near near' old new id place →
    (Contains ids id → ⊥) → ids' ≡ ids ++ id ∷ [] → IsIdTable first ids' near' new
table_push first ids ids' near near' old new id place is at keeps absent e =
    subst (λ xs. IsIdTable first xs near' new) (sym e) (record {
      distinct = all_pairs_push (λ x y. x ≢ y) ids id is.distinct (λ k d l same. search (rules, Contains-get_or));
      sound = λ q p h. ⊎_elim (λ (here : (q ≡ id) × (p ≡ place)). grind (arith, longer, get_or-append_seam))
          (λ (before : old q ≡ Some p). let r = is.sound q p before in
          (omega (arith, r.0, longer), get_or_append_left ids (id ∷ []) 0 p r.0 ∙ r.1)) (keeps.sound q p h);
      near_sound = λ k p h. ⊎_elim
          (λ (here : (first + k ≡ id) × (p ≡ place)). grind (arith, longer, get_or-append_seam))
          (λ (before : slice_index near k ≡ p + 1). let r = is.near_sound k p before in
          (omega (arith, r.0, longer), get_or_append_left ids (id ∷ []) 0 p r.0 ∙ r.1)) (keeps.near_sound k p h);
      whole = grind (arith, ⊎_elim, before, last, longer, cases_lt);
    })
  where
    longer : length (ids ++ id ∷ []) ≡ length ids + 1
    longer = length-append ids (id ∷ [])

    before : (p : ℕ) → p < length ids → IsRecordedAt first near' new (get_or (ids ++ id ∷ []) p 0) p
    before p l = subst (λ q. IsRecordedAt first near' new q p) (sym (get_or_append_left ids (id ∷ []) 0 p l))
        (keeps.others (get_or ids p 0) p (λ same. absent (search (rules, Contains-get_or))) (is.whole p l))

    last : (p : ℕ) → p ≡ length ids → IsRecordedAt first near' new (get_or (ids ++ id ∷ []) p 0) p
    last p e = subst (λ q. IsRecordedAt first near' new q p) (search (rules, get_or-append_seam))
        (subst (λ q. IsRecordedAt first near' new id q) (at ∙ sym e) keeps.kept)

pub table_same : (first : ℕ) (ids ids' near near' : List ℕ) (old new : ℕ → Option ℕ) → IsIdTable first ids near old →
    ids' ≡ ids → near' ≡ near → ((q : ℕ) → new q ≡ old q) → IsIdTable first ids' near' new
table_same first ids ids' near near' old new is e n same =
    subst (λ xs. IsIdTable first xs near' new) (sym e) (subst (λ ns. IsIdTable first ids ns new) (sym n) (record {
      distinct = is.distinct;
      sound = λ q p h. is.sound q p (sym (same q) ∙ h);
      near_sound = is.near_sound;
      whole = λ p l. kept_same (get_or ids p 0) p (is.whole p l);
    }))
  where
    kept_same : (id p : ℕ) → IsRecordedAt first near old id p → IsRecordedAt first near new id p
    kept_same id p (inl own) = inl own
    kept_same id p (inr (inl at)) = inr (inl at)
    kept_same id p (inr (inr at)) = inr (inr (same id ∙ at))
