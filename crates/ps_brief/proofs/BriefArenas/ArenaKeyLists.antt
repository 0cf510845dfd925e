-- The keys of an arena, as they are added.
-- - `keys_begun`, `keys_known`, `keys_added`: only the keys of the listing, and one more state, which had its letters
--   or gets them
use Rattle.std.specs.Prelude.{◌≡◌, ◌≢◌, ◌⊎◌, ℕ, ◌+◌, ◌<◌, List, ◌++◌, length, map, nat_eq, cond, Option, Some, None}
use Rattle.std.specs.Prelude.{IsSome}
use Rattle.std.specs.List.{AllPairs, AllZip, Contains, range_with_len}
use Rattle.std.proofs.Common.{sym, ◌∙◌, subst, refl, inl, inr, arith, get_or}
use Rattle.std.proofs.lemmas.Bool.{cases_eq, eq-eqb}
use Rattle.std.proofs.lemmas.List.{get_or-map, length-map}
use Rattle.std.proofs.lemmas.List.FromFn.{get_or-range_with_len, length-range_with_len}
use Rattle.std.proofs.lemmas.List.Elements.{Contains-append_cases}
use Rattle.indexmap.specs.IndexMap.{get}
use Rattle.ps_diagram.specs.Letters.{IsBefore}
use Rattle.ps_diagram.proofs.ClassesOfLetters.Distinct.{at_left}
use Rattle.ps_machine.specs.Numbering.{StandsAt}
use Rattle.ps_machine.specs.declared.key.Key.{Key}
use Rattle.ps_machine.specs.declared.key.Key.TheVariants.{First, Second}
use Rattle.ps_machine.specs.Inner.Exploring.{GetNumbers}
use Rattle.ps_machine.proofs.AutomatonGames.BoardLetters.{not_before_itself}
use Rattle.ps_machine.proofs.AutomatonGames.BoardSteps.{pairs_map}
use Rattle.ps_machine.proofs.AutomatonGames.GameKeys.Getting.{numbers_new}
use Rattle.ps_machine.proofs.AutomatonGames.GameKeys.Standing.{one_state, stand-left, stand-within, no_second}
use Rattle.ps_basis.proofs.ArenaEdges.{second_letter_same, second_state_same}
use Rattle.ps_basis.proofs.ArenaKeys.{from_map}
use Rattle.ps_automaton.specs.declared.step.Step.{Step}
use Rattle.ps_brief.specs.ArenaGames.{letters_at}
use Rattle.ps_brief.specs.Inner.Arranging.{AreArenaKeys, IsAdded, StandFrom}
use Rattle.ps_brief.specs.Listings.{listed_keys}
use Rattle.ps_brief.specs.declared.arena.ArenaKeys.{ArenaKeys}
use Rattle.ps_brief.specs.declared.bases.Bases.{Bases}
use Rattle.ps_brief.specs.declared.listing.Listing.{Listing}
use Rattle.ps_brief.proofs.ListedStates.EnteredKeys.{key_of_step}
use Rattle.ps_brief.proofs.ListedStates.TargetLists.{apart_false}

abbrev pub no_step : Step
no_step = record { state = 0; priority = 0 }

-- the keys of different letters are different
pub letters_differ : (q : ℕ) (letters : List ℕ) → AllPairs IsBefore letters →
    AllPairs (λ x y. x ≢ y) (map (λ x. Second q x) letters)
letters_differ q letters rising = pairs_map (λ (x y : Key). x ≢ y) (λ x. Second q x) letters 0
    (λ i j less within same. not_before_itself
    (subst (λ (x : ℕ). IsBefore x (get_or letters j 0)) (second_letter_same same) (rising i j 0 less within)))

-- a vertex of a state's basis is one of the arena's
pub span_within : (keys : List Key) (q : ℕ) (letters : List ℕ) (first place : ℕ) → StandFrom keys q letters first →
    place < length letters → first + place < length keys
span_within keys q letters first place stand within =
    let numbers : List ℕ = range_with_len first (length letters) in
    let inside : place < length numbers = omega (arith, within, length-range_with_len first (length letters)) in
    let below : get_or numbers place 0 < length keys =
    stand-within keys numbers (map (λ x. Second q x) letters) stand place 0 inside in
    omega (arith, below, get_or-range_with_len first (length letters) place 0 within)

no_some : (o : Option ℕ) → o ≡ None → IsSome o → ⊥
no_some None e is = cc
no_some (Some x) e is = cc

is_some : {X : Type 0} (o : Option X) (x : X) → o ≡ Some x → IsSome o
is_some o x e = subst (λ p. IsSome p) (sym e) refl

module _ (listing : Listing) (bases : Bases) where
  -- no listed key is one of the second player
  none_second : (q x : ℕ) → Contains (listed_keys listing) (Second q x) → ⊥
  none_second q x inside =
      let (step, there, same) = from_map key_of_step listing.entered.keys no_step (Second q x) inside in
      no_second (sym same)

  pub keys_begun : (made : ArenaKeys) → AllPairs (λ x y. x ≢ y) (listed_keys listing) →
      made.list.items ≡ listed_keys listing → ((q : ℕ) → get nat_eq made.firsts q ≡ None) →
      AreArenaKeys listing bases made 0
  keys_begun made differ same none = record {
    front = λ v key at. subst (λ (xs : List Key). StandsAt xs v key) (sym same) at;
    firsts = λ q p inside. subst (λ (xs : List Key). Contains xs (First q p)) same inside;
    seconds = λ q x inside. absurd (none_second q x (subst (λ (xs : List Key). Contains xs (Second q x)) same inside));
    different = subst (λ (xs : List Key). AllPairs (λ x y. x ≢ y) xs) (sym same) differ;
    stand = λ q first at. (let never : None ≡ Some first = sym (none q) ∙ at in absurd (cc));
    visited = λ k q p below at. absurd (omega (arith, below));
  }

  -- one more key, whose state has its letters
  pub keys_known : (made : ArenaKeys) (n q p : ℕ) → AreArenaKeys listing bases made n →
      StandsAt (listed_keys listing) n (First q p) → IsSome (get nat_eq made.firsts q) →
      AreArenaKeys listing bases made (n + 1)
  keys_known made n q p are at known = record {
    front = are.front;
    firsts = are.firsts;
    seconds = are.seconds;
    different = are.different;
    stand = are.stand;
    visited = λ k r o below there. elim (cases_eq k n) [
      | inl same ↦ subst (λ (a : ℕ). IsSome (get nat_eq made.firsts a))
          (one_state (listed_keys listing) n p o at
          (subst (λ (i : ℕ). StandsAt (listed_keys listing) i (First r o)) same there)) known
      | inr differ ↦ are.visited k r o (omega (arith, below, differ)) there
    ];
  }

  module _ (old now : ArenaKeys) (n q p : ℕ) (are : AreArenaKeys listing bases old n)
      (at : StandsAt (listed_keys listing) n (First q p)) (new : get nat_eq old.firsts q ≡ None)
      (rising : AllPairs IsBefore (letters_at bases q))
      (list : now.list.items ≡ old.list.items ++ map (λ x. Second q x) (letters_at bases q))
      (updated : (r : ℕ) → get nat_eq now.firsts r ≡
      cond (nat_eq q r) (Some (length old.list.items)) (get nat_eq old.firsts r)) where
    abbrev added : List Key
    added = map (λ x. Second q x) (letters_at bases q)

    abbrev keys : List Key
    keys = old.list.items

    here : get nat_eq now.firsts q ≡ Some (length keys)
    here = updated q ∙ rw (eq-eqb q q refl) refl

    there : (r : ℕ) → r ≢ q → get nat_eq now.firsts r ≡ get nat_eq old.firsts r
    there r differ = updated r ∙ rw (apart_false q r (λ e. differ (sym e))) refl

    some_now : IsSome (get nat_eq now.firsts q)
    some_now = is_some (get nat_eq now.firsts q) (length keys) here

    still : (r : ℕ) → IsSome (get nat_eq old.firsts r) → IsSome (get nat_eq now.firsts r)
    still r some = elim (cases_eq r q) [
      | inl same ↦ subst (λ (a : ℕ). IsSome (get nat_eq now.firsts a)) (sym same) some_now
      | inr differ ↦ subst (λ (o : Option ℕ). IsSome o) (sym (there r differ)) some
    ]

    absent : (k : ℕ) → k < length added → Contains keys (get_or added k (First 0 0)) → ⊥
    absent k within inside =
        let inner : k < length (letters_at bases q) = omega (
          arith,
          within,
          length-map (letters_at bases q)
              (λ x. Second q x),
        ) in
        let same : get_or added k (First 0 0) ≡ Second q (get_or (letters_at bases q) k 0) =
        get_or-map (λ x. Second q x) (letters_at bases q) k 0 (First 0 0) inner in
        let known = (are.seconds q (get_or (letters_at bases q) k 0)
        (subst (λ (key : Key). Contains keys key) same inside)).known in
        no_some (get nat_eq old.firsts q) new known

    numbered : GetNumbers keys added (range_with_len (length keys) (length added)) (keys ++ added)
    numbered = numbers_new keys added absent (letters_differ q (letters_at bases q) rising)

    -- a key of the longer list
    old_or_added : (key : Key) → Contains now.list.items key → Contains keys key ⊎ Contains added key
    old_or_added key inside =
        Contains-append_cases keys added key (subst (λ (xs : List Key). Contains xs key) list inside)

    firsts_now : (r o : ℕ) → Contains now.list.items (First r o) → Contains (listed_keys listing) (First r o)
    firsts_now r o inside = elim (old_or_added (First r o) inside) [
      | inl before ↦ are.firsts r o before
      | inr more ↦ let (x, listed, same) = from_map (λ y. Second q y) (letters_at bases q) 0 (First r o) more in
          absurd (no_second same)
    ]

    added_now : (r x : ℕ) → IsAdded bases old r x → IsAdded bases now r x
    added_now r x is = record { known = still r is.known; listed = is.listed }

    seconds_now : (r x : ℕ) → Contains now.list.items (Second r x) → IsAdded bases now r x
    seconds_now r x inside = elim (old_or_added (Second r x) inside) [
      | inl before ↦ added_now r x (are.seconds r x before)
      | inr more ↦ let (y, listed, same) = from_map (λ z. Second q z) (letters_at bases q) 0 (Second r x) more in
          subst (λ (a : ℕ). IsAdded bases now a x) (sym (second_state_same same))
          (subst (λ (a : ℕ). IsAdded bases now q a) (sym (second_letter_same same))
          (record { known = some_now; listed = listed }))
    ]

    stand_here : StandFrom (keys ++ added) q (letters_at bases q) (length keys)
    stand_here = subst (λ (m : ℕ). AllZip (StandsAt (keys ++ added)) (range_with_len (length keys) m) added)
        (length-map (letters_at bases q) (λ x. Second q x)) numbered.stand

    stand_now : (r first : ℕ) → get nat_eq now.firsts r ≡ Some first →
        StandFrom now.list.items r (letters_at bases r) first
    stand_now r first is = subst (λ (xs : List Key). StandFrom xs r (letters_at bases r) first) (sym list)
        (elim (cases_eq r q) [
          | inl same ↦ subst (λ (a : ℕ). StandFrom (keys ++ added) a (letters_at bases a) first) (sym same)
              (let first_is : length keys ≡ first = some_same (sym here ∙ subst (λ (a : ℕ).
              get nat_eq now.firsts a ≡ Some first) same is) in
              subst (λ (f : ℕ). StandFrom (keys ++ added) q (letters_at bases q) f) first_is stand_here)
          | inr differ ↦ stand-left keys added (range_with_len first (length (letters_at bases r)))
              (map (λ x. Second r x) (letters_at bases r)) (are.stand r first (sym (there r differ) ∙ is))
        ])
      where
        some_same : {a b : ℕ} → Some a ≡ Some b → a ≡ b
        some_same e = cc

    pub keys_added : AreArenaKeys listing bases now (n + 1)
    keys_added = keys_known now n q p (record {
      front = λ v key stands. subst (λ (xs : List Key). StandsAt xs v key) (sym list)
          (at_left keys added v (are.front v key stands));
      firsts = firsts_now;
      seconds = seconds_now;
      different = subst (λ (xs : List Key). AllPairs (λ x y. x ≢ y) xs) (sym list)
          (numbered.different are.different);
      stand = stand_now;
      visited = λ k r o below stands. still r (are.visited k r o below stands);
    }) at some_now
