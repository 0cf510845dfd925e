-- Targets of all leaves of a state's diagram, sorted by their places, are the targets of the state in their order.
-- - `are_targets`: what `targets_of` finds
use Rattle.std.specs.Prelude.{◌≡◌, ℕ, ◌+◌, ◌^◌, ◌<◌, ◌≤◌, Bool, false, List, [], ◌∷◌, ◌++◌, length, map}
use Rattle.std.specs.Prelude.{nat_eq, Some}
use Rattle.std.specs.List.{All, Any, Contains, IsDistinct}
use Rattle.std.specs.List.Sorted.{IsNonDecreasingBy, IsPermutation}
use Rattle.std.specs.Option.{unwrap_or}
use Rattle.std.specs.Cmp.{nat_eq_equiv}
use Rattle.std.proofs.Common.{ap, ap₂, sym, ◌∙◌, subst, inl, inr, arith, rules, get_or, take}
use Rattle.std.proofs.Math.Seq.{take-length}
use Rattle.std.proofs.lemmas.Nat.{pow_below}
use Rattle.std.proofs.lemmas.Bool.{cases_Bool, cases_lt, eqb-true, eq-eqb}
use Rattle.std.proofs.lemmas.List.{get_or-map, get_or_default, length-map, map-append}
use Rattle.std.proofs.lemmas.List.Sorted.{All-permutation, Contains-permutation}
use Rattle.std.proofs.lemmas.Map.Keys.{IsDistinct-IsPermutation, IsDistinct-from_apart, apart_from_distinct}
use Rattle.std.proofs.lemmas.Option.{get_or_from_slice_get, slice_get_within}
use Rattle.ps_diagram.specs.Reached.{AreLeaves, LeadsToLeaf}
use Rattle.ps_diagram.specs.Table.{Table, leaf_of}
use Rattle.ps_automaton.specs.Automata.{AutomatonData, node_of, pair_of}
use Rattle.ps_automaton.specs.declared.step.Step.{Step}
use Rattle.ps_machine.specs.Boards.{Board}
use Rattle.ps_machine.specs.Numbering.{StandsAt}
use Rattle.ps_machine.specs.declared.key.Key.{Key}
use Rattle.ps_machine.specs.declared.key.Key.TheVariants.{First}
use Rattle.ps_machine.proofs.AutomatonGames.BoardLetters.{sum_within}
use Rattle.ps_machine.proofs.AutomatonGames.BoardSteps.{some_of}
use Rattle.ps_basis.specs.ArenaMoves.{GoesThere}
use Rattle.ps_basis.specs.Listing.{AreTargets, IsSooner}
use Rattle.ps_basis.specs.PairOrder.{HasStepTo}
use Rattle.ps_brief.specs.Inner.Placing.{IsPlaced, letter_pair_place}
use Rattle.ps_brief.specs.Settings.{Fits, board_in}
use Rattle.ps_brief.specs.Targets.{AreTargetsOf, IsTarget, target_keys}
use Rattle.ps_brief.specs.declared.setting.Setting.{Setting}
use Rattle.ps_brief.specs.declared.steps.Target.{Target}
use Rattle.ps_brief.specs.declared.steps.Targets.{Targets}
use Rattle.ps_brief.proofs.ListedStates.KeptTargets.{leaf_kept}
use Rattle.ps_brief.proofs.ListedStates.Taking.{take_next}
use Rattle.ps_brief.proofs.BasesOfLetters.Ranks.{ArePlaced, by_first, by_second, alike, pair_placed}

abbrev pub no_target : Target
no_target = record { leaf = 0; state = 0; priority = 0; behind = 0; place = 0 }

abbrev as_step : ℕ → ℕ → Step
as_step q p = record { state = q; priority = p }

abbrev pub key_of_target : Target → Key
key_of_target target = First target.state target.priority

-- numbers that are not equal fail the test
pub apart_false : (a b : ℕ) → (a ≡ b → ⊥) → nat_eq a b ≡ false
apart_false a b never = elim (cases_Bool (nat_eq a b)) [
  | inl is ↦ absurd (never (eqb-true a b is))
  | inr isnt ↦ isnt
]

powers : (n m : ℕ) → n ≤ m → 2 ^ n ≤ 2 ^ m
powers n m less = search (rules, cases_lt, pow_below)

pub same_firsts : {q p r s : ℕ} → First q p ≡ First r s → (q ≡ r) × (p ≡ s)
same_firsts e = (cc, cc)

-- the list with the target of one more leaf
pub leaves_more : (list : List Target) (target : Target) (items : List (ℕ × ℕ)) (n : ℕ) → n < length items →
    target.leaf ≡ (get_or items n (0, 0)).0 →
    map (λ (one : Target). one.leaf) list ≡ map (λ (p : ℕ × ℕ). p.0) (take n items) →
    map (λ (one : Target). one.leaf) (list ++ target ∷ []) ≡ map (λ (p : ℕ × ℕ). p.0) (take (n + 1) items)
leaves_more list target items n within leaf so_far =
    map-append (λ (one : Target). one.leaf) list (target ∷ [])
    ∙ ap₂ (λ (xs : List ℕ) (k : ℕ). xs ++ k ∷ []) so_far leaf
    ∙ sym (map-append (λ (p : ℕ × ℕ). p.0) (take n items) (get_or items n (0, 0) ∷ []))
    ∙ ap (λ (xs : List (ℕ × ℕ)). map (λ (p : ℕ × ℕ). p.0) xs) (sym (take_next n items (0, 0) within))

-- after the last leaf, the list has the targets of all leaves
pub all_leaves : (list : List Target) (items leaves : List (ℕ × ℕ)) (n : ℕ) →
    map (λ (one : Target). one.leaf) list ≡ map (λ (p : ℕ × ℕ). p.0) (take n items) → n ≤ length items →
    length items ≤ n → items ≡ leaves → map (λ (one : Target). one.leaf) list ≡ map (λ (p : ℕ × ℕ). p.0) leaves
all_leaves list items leaves n so_far low high same =
    let all : n ≡ length items = omega (arith, low, high) in
    so_far ∙ ap (λ (k : ℕ). map (λ (p : ℕ × ℕ). p.0) (take k items)) all
    ∙ ap (λ (xs : List (ℕ × ℕ)). map (λ (p : ℕ × ℕ). p.0) xs) (take-length items ∙ same)

module _ (setting : Setting) {s t : Table} (fits : Fits setting s) (q : ℕ)
    (in_states : q ≤ setting.automaton.now.states) (leaves : List (ℕ × ℕ))
    (found : AreLeaves s (node_of setting.automaton.now q) leaves) (list sorted : List Target)
    (each : All (IsTarget setting t q) list) (placed : All (IsPlaced (board_in setting) q) list)
    (by_leaves : map (λ (one : Target). one.leaf) list ≡ map (λ (p : ℕ × ℕ). p.0) leaves)
    (permuted : IsPermutation list sorted)
    (rising : IsNonDecreasingBy (λ (one : Target). one.place) sorted) where
  abbrev board : Board
  board = board_in setting

  abbrev a : AutomatonData
  a = setting.automaton.now

  abbrev node : ℕ
  node = node_of a q

  many : s.propositions ≡ board.propositions
  many = fits.fit.keeps.propositions ∙ fits.fit.whole.letters

  -- ## Different leaves

  as_many : length list ≡ length leaves
  as_many = sym (length-map list (λ (one : Target). one.leaf)) ∙ ap length by_leaves
      ∙ length-map leaves (λ (p : ℕ × ℕ). p.0)

  leaf_at_index : (k : ℕ) (d : Target) → k < length list → (get_or list k d).leaf ≡ (get_or leaves k (0, 0)).0
  leaf_at_index k d within =
      let inside : k < length leaves = omega (arith, within, as_many) in
      sym (get_or-map (λ (one : Target). one.leaf) list k d 0 within) ∙ ap (λ xs. get_or xs k 0) by_leaves
      ∙ get_or-map (λ (p : ℕ × ℕ). p.0) leaves k (0, 0) 0 inside

  found_apart : (i j : ℕ) → i < j → j < length leaves → (get_or leaves i (0, 0)).0 ≡ (get_or leaves j (0, 0)).0 → ⊥
  found_apart i j less within same =
      (found.least j (0, 0) within).none_before (get_or leaves i (0, 0)).1
      (subst (λ (leaf : ℕ). LeadsToLeaf s node leaf (get_or leaves i (0, 0)).1) same
      (found.least i (0, 0) (omega (arith, less, within))).here) (found.rising i j (0, 0) less within)

  abbrev same_leaf_test : Target → Target → Bool
  same_leaf_test one other = nat_eq one.leaf other.leaf

  list_apart : (i j : ℕ) (d : Target) → i < j → j < length list →
      same_leaf_test (get_or list i d) (get_or list j d) ≡ false
  list_apart i j d less within = apart_false (get_or list i d).leaf (get_or list j d).leaf
      (λ same. found_apart i j less (omega (arith, within, as_many))
      (sym (leaf_at_index i d (omega (arith, less, within))) ∙ same ∙ leaf_at_index j d within))

  sorted_distinct : IsDistinct same_leaf_test sorted
  sorted_distinct = IsDistinct-IsPermutation same_leaf_test (λ x y. nat_eq_equiv.symm x.leaf y.leaf) list sorted
      permuted (IsDistinct-from_apart same_leaf_test list list_apart)

  leaves_differ : (i j : ℕ) (d : Target) → i < j → j < length sorted →
      (get_or sorted i d).leaf ≡ (get_or sorted j d).leaf → ⊥
  leaves_differ i j d less within same = cc (
    apart_from_distinct same_leaf_test sorted i j d sorted_distinct less within,
    eq-eqb (get_or sorted i d).leaf (get_or sorted j d).leaf same,
  )

  -- ## The sorted targets

  each_sorted : All (IsTarget setting t q) sorted
  each_sorted = All-permutation (IsTarget setting t q) list sorted permuted each

  placed_sorted : All (IsPlaced board q) sorted
  placed_sorted = All-permutation (IsPlaced board q) list sorted permuted placed

  step_to : (target : Target) → IsPlaced board q target → HasStepTo board q target.state target.priority
  step_to target is = record {
    letter = is.x;
    is_letter = is.least.first.here.0;
    reached = is.least.first.here.1;
  }

  each_key : (key : Key) → Contains (target_keys sorted) key →
      (r : ℕ) × (o : ℕ) × (key ≡ First r o) × HasStepTo board q r o
  each_key key (k, within, same) =
      let inside : k < length sorted = omega (arith, within, length-map sorted key_of_target) in
      let target : Target = get_or sorted k no_target in (
        target.state,
        target.priority,
        sym same ∙ get_or-map key_of_target sorted k no_target key inside,
        step_to target (placed_sorted k no_target inside),
      )

  -- ## All targets

  leaf_listed : (k : ℕ) → Any (λ (p : ℕ × ℕ). p.0 ≡ k) leaves →
      (target : Target) × Contains sorted target × (target.leaf ≡ k)
  leaf_listed k (i, pair, within, at, is) =
      let inside : i < length list = omega (arith, within, as_many) in
      let target : Target = get_or list i no_target in (
        target,
        Contains-permutation list sorted target permuted
            (i, inside, get_or_default list i target no_target inside),
        leaf_at_index i no_target inside
            ∙ ap (λ (p : ℕ × ℕ). p.0) (get_or_default leaves i (0, 0) pair within ∙ at) ∙ is,
      )

  complete : (r o : ℕ) → HasStepTo board q r o → Contains (target_keys sorted) (First r o)
  complete r o leads =
      let z : ℕ = leads.letter + leads.reached.letter in
      let small : z < 2 ^ s.propositions = subst (λ (n : ℕ). z < 2 ^ n) (sym many)
      (sum_within board leads.is_letter leads.reached.is_letter) in
      let (k, at, named) = some_of (leaf_of a.store node z) (λ k. k < length a.steps)
      (fits.fit.whole.leaves q z in_states) in
      let here : leaf_of s node z ≡ Some k =
      leaf_kept node z fits.fit.keeps (fits.fit.whole.held q in_states) ∙ at in
      let (target, inside_list, leaf) = leaf_listed k (found.each k z (small, here)) in
      let (i, within, is) = inside_list in
      let step = (subst (λ (one : Target). IsTarget setting t q one) is (each_sorted i target within)).step in
      let state : target.state ≡ r = ap (λ (one : Step). one.state) (sym step) ∙ ap (λ i. (pair_of a i).state) leaf
      ∙ sym (ap (λ o. (pair_of a (unwrap_or o (length a.steps))).state) at) ∙ leads.reached.state in
      let priority : target.priority ≡ o = ap (λ (one : Step). one.priority) (sym step)
      ∙ ap (λ i. (pair_of a i).priority) leaf
      ∙ sym (ap (λ o. (pair_of a (unwrap_or o (length a.steps))).priority) at) ∙ leads.reached.priority in
      let inside : i < length (target_keys sorted) = omega (arith, within, length-map sorted key_of_target) in (
        i,
        inside,
        get_or-map key_of_target sorted i target (First r o) within ∙ ap key_of_target is
            ∙ ap₂ (λ (x y : ℕ). First x y) state priority,
      )

  -- ## The order

  few : 2 ^ board.propositions ≤ 2 ^ 64
  few = powers board.propositions 64 fits.fit.whole.few_names

  key_at : (k r o : ℕ) → StandsAt (target_keys sorted) k (First r o) →
      (k < length sorted) × (First r o ≡ key_of_target (get_or sorted k no_target))
  key_at k r o at =
      let within : k < length (target_keys sorted) = slice_get_within (target_keys sorted) k (First r o) at in
      let inside : k < length sorted = omega (arith, within, length-map sorted key_of_target) in (
        inside,
        sym (get_or_from_slice_get (target_keys sorted) k (First r o) (First r o) at)
            ∙ get_or-map key_of_target sorted k no_target (First r o) inside,
      )

  module _ (i j : ℕ) (less : i < j) (within : j < length sorted) where
    earlier : i < length sorted
    earlier = omega (arith, less, within)

    abbrev one : Target
    one = get_or sorted i no_target

    abbrev other : Target
    other = get_or sorted j no_target

    one_placed : IsPlaced board q one
    one_placed = placed_sorted i no_target earlier

    other_placed : IsPlaced board q other
    other_placed = placed_sorted j no_target within

    one_goes : GoesThere board q one_placed.x one.state one.priority one_placed.y
    one_goes = one_placed.least.second.here

    other_goes : GoesThere board q other_placed.x other.state other.priority other_placed.y
    other_goes = other_placed.least.second.here

    -- the same letters make the same step
    never_alike : one_placed.x ≡ other_placed.x → one_placed.y ≡ other_placed.y → ⊥
    never_alike first second = leaves_differ i j no_target less within
        (fits.fit.whole.once one.leaf other.leaf one_is.within other_is.within
        (one_is.step ∙ ap₂ as_step state priority ∙ sym other_is.step))
      where
        one_is : IsTarget setting t q one
        one_is = each_sorted i no_target earlier

        other_is : IsTarget setting t q other
        other_is = each_sorted j no_target within

        letters : one_placed.x + one_placed.y ≡ other_placed.x + other_placed.y
        letters = ap₂ (λ (x y : ℕ). x + y) first second

        state : one.state ≡ other.state
        state = sym one_goes.state ∙ ap (λ z. board.auto.next q z) letters ∙ other_goes.state

        priority : one.priority ≡ other.priority
        priority = sym one_goes.priority ∙ ap (λ z. board.auto.priority q z) letters ∙ other_goes.priority

    in_order : ArePlaced one_placed.x one_placed.y other_placed.x other_placed.y →
        IsSooner board q one.state one.priority other.state other.priority
    in_order (by_first before) = record {
      x = one_placed.x;
      y = one_placed.y;
      z = other_placed.x;
      w = other_placed.y;
      one = one_placed.least;
      other = other_placed.least;
      order = inl before;
    }
    in_order (by_second same before) = record {
      x = one_placed.x;
      y = one_placed.y;
      z = other_placed.x;
      w = other_placed.y;
      one = one_placed.least;
      other = other_placed.least;
      order = inr (same, before);
    }
    in_order (alike first second) = absurd (never_alike first second)

    places_rise : letter_pair_place one_placed.x one_placed.y ≤ letter_pair_place other_placed.x other_placed.y
    places_rise = omega (arith, rising i j no_target (omega (arith, less)) within, one_placed.place, other_placed.place)

    pub sooner : IsSooner board q one.state one.priority other.state other.priority
    sooner = in_order (pair_placed board.propositions few one_placed.x one_placed.y other_placed.x other_placed.y
        one_placed.least.first.here.0.within one_goes.is_letter.within other_placed.least.first.here.0.within
        other_goes.is_letter.within places_rise)

  sooner_at : (i j r o u v : ℕ) → i < j → StandsAt (target_keys sorted) i (First r o) →
      StandsAt (target_keys sorted) j (First u v) → IsSooner board q r o u v
  sooner_at i j r o u v less at there =
      let (before, one_key) = key_at i r o at in
      let (within, other_key) = key_at j u v there in
      let (r_is, o_is) = same_firsts one_key in
      let (u_is, v_is) = same_firsts other_key in
      subst (λ (k : ℕ). IsSooner board q k o u v) (sym r_is)
      (subst (λ (k : ℕ). IsSooner board q (get_or sorted i no_target).state k u v) (sym o_is)
      (subst (λ (k : ℕ). IsSooner board q (get_or sorted i no_target).state (get_or sorted i no_target).priority k v)
      (sym u_is)
      (subst (λ (k : ℕ). IsSooner board q (get_or sorted i no_target).state (get_or sorted i no_target).priority
      (get_or sorted j no_target).state k) (sym v_is) (sooner i j less within))))

  pub are_listed : AreTargets board q (target_keys sorted)
  are_listed = record { each = each_key; complete = complete; rising = sooner_at }

  pub are_targets : (targets : Targets) → targets.state ≡ q → targets.list.items ≡ sorted →
      AreTargetsOf setting t targets
  are_targets targets state items = record {
    state = subst (λ (r : ℕ). r ≤ a.states) (sym state) in_states;
    each = subst (λ (r : ℕ). All (IsTarget setting t r) targets.list.items) (sym state)
        (subst (λ (xs : List Target). All (IsTarget setting t q) xs) (sym items) each_sorted);
    listed = subst (λ (r : ℕ). AreTargets board r (target_keys targets.list.items)) (sym state)
        (subst (λ (xs : List Target). AreTargets board q (target_keys xs)) (sym items) are_listed);
  }
