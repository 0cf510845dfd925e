-- What holds after each visited key.
-- - `targets_differ`: the keys of a state's targets are different
-- - `visiting_begun`, `visiting_passed`, `visiting_added`, `visiting_done`: it holds at the beginning, after a key
-- whose
--   state was visited before, after a key whose state is new, and at the end
use Rattle.std.specs.Prelude.{◌≡◌, ◌≢◌, ◌⊎◌, ℕ, zero, suc, ◌+◌, ◌<◌, ◌≤◌, List, [], ◌∷◌, ◌++◌, length, nat_eq}
use Rattle.std.specs.Prelude.{Option, Some, None}
use Rattle.std.specs.Prelude.{IfSome, IsSome, IsSomeAnd, slice_get, option_map, cond}
use Rattle.std.specs.List.{AllPairs, Contains}
use Rattle.std.proofs.Common.{ap, sym, ◌∙◌, subst, refl, inl, inr, arith, get_or, add-one}
use Rattle.std.proofs.lemmas.Bool.{cases_eq, eq-eqb}
use Rattle.std.proofs.lemmas.List.{get_or_default, length-append}
use Rattle.std.proofs.lemmas.List.Elements.{Contains-append_cases}
use Rattle.std.proofs.lemmas.Option.{slice_get-get_or, slice_get_within}
use Rattle.indexmap.specs.IndexMap.{get}
use Rattle.ps_diagram.specs.Letters.{IsBefore}
use Rattle.ps_diagram.specs.Table.{Table, Keeps}
use Rattle.ps_diagram.proofs.ClassesOfLetters.Distinct.{at_left}
use Rattle.ps_automaton.specs.Automata.{IsWhole, pair_of}
use Rattle.ps_automaton.specs.declared.step.Step.{Step}
use Rattle.ps_machine.specs.Boards.{Board}
use Rattle.ps_machine.specs.Numbering.{StandsAt}
use Rattle.ps_machine.specs.declared.key.Key.{Key}
use Rattle.ps_machine.specs.declared.key.Key.TheVariants.{First}
use Rattle.ps_machine.proofs.AutomatonGames.BoardLetters.{not_before_itself}
use Rattle.ps_machine.proofs.AutomatonGames.GameKeys.Standing.{one_state}
use Rattle.ps_basis.specs.Listing.{AreTargets, IsListedUpTo, IsSooner, begun, passed, visited}
use Rattle.ps_basis.proofs.LeastSteps.{one_first, one_second}
use Rattle.ps_basis.proofs.ArenaKeys.{from_map, stands_in, stands_there}
use Rattle.ps_basis.proofs.ListedOrder.{front_at}
use Rattle.ps_brief.specs.Inner.Visiting.{Adding, IsVisiting, WasVisited}
use Rattle.ps_brief.specs.Listings.{AreTargetsAt, IsListing, keys_of, listed_keys}
use Rattle.ps_brief.specs.Settings.{Fits, board_in}
use Rattle.ps_brief.specs.Targets.{AreTargetsOf, target_keys}
use Rattle.ps_brief.specs.declared.listing.Listing.{Listing}
use Rattle.ps_brief.specs.declared.setting.Setting.{Setting}
use Rattle.ps_brief.specs.declared.steps.Target.{Target}
use Rattle.ps_brief.specs.declared.steps.Targets.{Targets}
use Rattle.ps_brief.proofs.ListedStates.KeptTargets.{targets_kept}
use Rattle.ps_brief.proofs.ListedStates.TargetLists.{apart_false, key_of_target, no_target, same_firsts}

never_sooner : (board : Board) (q r s : ℕ) → IsSooner board q r s r s → ⊥
never_sooner board q r s is = by_order is.order
  where
    by_order : IsBefore is.x is.z ⊎ ((is.x ≡ is.z) × IsBefore is.y is.w) → ⊥
    by_order (inl before) = not_before_itself
        (subst (λ (x : ℕ). IsBefore is.x x) (sym (one_first board q r s is.x is.y is.z is.w is.one is.other)) before)
    by_order (inr (same, before)) = not_before_itself
        (subst (λ (y : ℕ). IsBefore is.y y) (sym (one_second board q r s is.x is.y is.z is.w is.one is.other)) before)

pub targets_differ : (board : Board) (q : ℕ) (targets : List Key) → AreTargets board q targets →
    AllPairs (λ x y. x ≢ y) targets
targets_differ board q targets are i j d less within same =
    let before : i < length targets = omega (arith, less, within) in
    let (r, s, is, leads) = are.each (get_or targets i d) (i, before, refl_at) in
    let at : StandsAt targets i (First r s) = slice_get-get_or targets i d before ∙ ap (λ (k : Key). Some k) is in
    let there : StandsAt targets j (First r s) =
    slice_get-get_or targets j d within ∙ ap (λ (k : Key). Some k) (sym same ∙ is) in
    never_sooner board q r s (are.rising i j r s r s less at there)
  where
    refl_at : get_or targets i (get_or targets i d) ≡ get_or targets i d
    refl_at = get_or_default targets i (get_or targets i d) d (omega (arith, less, within))

-- ## The targets of states

some_and : (P : Targets → Type 0) (o : Option Targets) → IfSome o P → IsSome o → IsSomeAnd o P
some_and P None holds is = cc
some_and P (Some x) holds is = holds

if_kept : (setting : Setting) {s t : Table} (q : ℕ) (o : Option Targets) → Keeps s t →
    IfSome o (AreTargetsAt setting s q) → IfSome o (AreTargetsAt setting t q)
if_kept setting q None keeps holds = holds
if_kept setting q (Some x) keeps holds = record {
  state = holds.state;
  are = targets_kept setting keeps holds.are;
}

some_targets : (o : Option Targets) (x : Targets) → o ≡ Some x → IsSome o
some_targets o x e = subst (λ (p : Option Targets). IsSome p) (sym e) refl

-- the state of a target is one of the automaton's, or the sink
target_within : (setting : Setting) {t : Table} (targets : Targets) → IsWhole setting.automaton.now →
    AreTargetsOf setting t targets → (r o : ℕ) → Contains (target_keys targets.list.items) (First r o) →
    r ≤ setting.automaton.now.states
target_within setting targets whole are r o here =
    let (target, inside, same) = from_map key_of_target targets.list.items no_target (First r o) here in
    let (i, within, is) = inside in
    let one : Target = get_or targets.list.items i target in
    let each = are.each i target within in
    let state : (pair_of setting.automaton.now one.leaf).state ≡ r = ap (λ (step : Step). step.state) each.step
    ∙ ap (λ (t : Target). t.state) is ∙ sym (same_firsts same).0 in
    subst (λ (k : ℕ). k ≤ setting.automaton.now.states) state (whole.targets one.leaf each.within)

-- the key whose state was found at a place
pub key_there : (steps : List Step) (place q : ℕ) →
    Some q ≡ option_map (λ (step : Step). step.state) (slice_get steps place) →
    (p : ℕ) × StandsAt (keys_of steps) place (First q p)
key_there [] place q e = absurd (let none : Some q ≡ None = e in cc)
key_there (x ∷ steps) zero q e =
    let same : q ≡ x.state = cc in
    (x.priority, ap (λ (r : ℕ). Some (First r x.priority)) (sym same))
key_there (x ∷ steps) (suc place) q e = key_there steps place q e

pub none_at : (o : Option ℕ) → ((k : ℕ) → o ≡ Some k → ⊥) → o ≡ None
none_at None never = refl
none_at (Some k) never = absurd (never k refl)

pub none_past : (steps : List Step) (place : ℕ) →
    None ≡ option_map (λ (step : Step). step.state) (slice_get steps place) → length (keys_of steps) ≤ place
none_past [] place e = omega arith
none_past (x ∷ steps) zero e = absurd (let some : None ≡ Some x.state = e in cc)
none_past (x ∷ steps) (suc place) e = let less = none_past steps place e in omega (arith, less)

-- ## Visits

module _ (setting : Setting) where
  abbrev board : Board
  board = board_in setting

  pub visiting_begun : {t : Table} (listing : Listing) → listed_keys listing ≡ First board.auto.start 0 ∷ [] →
      ((q : ℕ) → get nat_eq listing.targets q ≡ None) → board.auto.start ≤ setting.automaton.now.states →
      IsVisiting setting t listing 0
  visiting_begun {t} listing keys none within = record {
    listed = subst (λ (xs : List Key). IsListedUpTo board 0 xs) (sym keys) begun;
    long = omega arith;
    targets = λ q. subst (λ (o : Option Targets). IfSome o (AreTargetsAt setting t q)) (sym (none q)) tt;
    visited = λ q was. absurd (let below = was.below in omega (arith, below));
    only = λ q is. absurd (no_targets (get nat_eq listing.targets q) (none q) is);
    within = λ k q p at. start_only k q p (subst (λ (xs : List Key). StandsAt xs k (First q p)) keys at);
  }
    where
      no_targets : (o : Option Targets) → o ≡ None → IsSome o → ⊥
      no_targets None e is = cc
      no_targets (Some x) e is = cc

      start_only : (k q p : ℕ) → StandsAt (First board.auto.start 0 ∷ []) k (First q p) →
          q ≤ setting.automaton.now.states
      start_only zero q p at =
          let same : board.auto.start ≡ q = cc in
          subst (λ (r : ℕ). r ≤ setting.automaton.now.states) same within
      start_only (suc k) q p at = absurd (cc)

  was_kept : (keys more : List Key) (n m q : ℕ) → n ≤ m → WasVisited keys n q → WasVisited (keys ++ more) m q
  was_kept keys more n m q less was = record {
    index = was.index;
    priority = was.priority;
    below = (let below = was.below in omega (arith, below, less));
    stands = at_left keys more was.index was.stands;
  }

  -- a key whose state was visited
  pub visiting_passed : {s t : Table} (listing : Listing) (n q p : ℕ) → Keeps s t → IsVisiting setting s listing n →
      StandsAt (listed_keys listing) n (First q p) → IsSome (get nat_eq listing.targets q) →
      IsVisiting setting t listing (n + 1)
  visiting_passed {s} {t} listing n q p keeps is at known = record {
    listed = rw add-one (passed is.listed at was.below was.stands);
    long = omega (arith, slice_get_within (listed_keys listing) n (First q p) at);
    targets = λ r. if_kept setting r (get nat_eq listing.targets r) keeps (is.targets r);
    visited = λ r now. visited_now r now (cases_eq now.index n);
    only = λ r some. (let old = is.only r some in record {
      index = old.index;
      priority = old.priority;
      below = (let below = old.below in omega (arith, below));
      stands = old.stands;
    });
    within = is.within;
  }
    where
      was : WasVisited (listed_keys listing) n q
      was = is.only q known

      visited_now : (r : ℕ) → (now : WasVisited (listed_keys listing) (n + 1) r) →
          (now.index ≡ n) ⊎ (now.index ≢ n) → IsSome (get nat_eq listing.targets r)
      visited_now r now (inl same) =
          let there : StandsAt (listed_keys listing) n (First r now.priority) =
          subst (λ (k : ℕ). StandsAt (listed_keys listing) k (First r now.priority)) same now.stands in
          let state : q ≡ r = one_state (listed_keys listing) n p now.priority at there in
          subst (λ (a : ℕ). IsSome (get nat_eq listing.targets a)) state known
      visited_now r now (inr differ) = is.visited r (record {
        index = now.index;
        priority = now.priority;
        below = (let below = now.below in omega (arith, below, differ));
        stands = now.stands;
      })

  -- a key whose state is new
  module _ {s t : Table} (whole : IsWhole setting.automaton.now) (old now : Listing) (n q p : ℕ) (targets : Targets)
      (keeps : Keeps s t)
      (is : IsVisiting setting s old n) (at : StandsAt (listed_keys old) n (First q p))
      (state : targets.state ≡ q) (are : AreTargetsOf setting t targets)
      (adding : Adding old.entered.keys (target_keys targets.list.items) now.entered.keys)
      (updated : (r : ℕ) → get nat_eq now.targets r ≡ cond (nat_eq q r) (Some targets) (get nat_eq old.targets r))
    where
      abbrev keys : List Key
      keys = listed_keys old

      keys_now : listed_keys now ≡ keys ++ adding.more
      keys_now = adding.keys

      here : get nat_eq now.targets q ≡ Some targets
      here = updated q ∙ rw (eq-eqb q q refl) refl

      there : (r : ℕ) → r ≢ q → get nat_eq now.targets r ≡ get nat_eq old.targets r
      there r differ = updated r ∙ rw (apart_false q r (λ e. differ (sym e))) refl

      listed : IsListedUpTo board (n + 1) (listed_keys now)
      listed = rw add-one (subst (λ (xs : List Key). IsListedUpTo board (suc n) xs) (sym keys_now)
          (visited is.listed at
          (subst (λ (r : ℕ). AreTargets board r (target_keys targets.list.items)) state are.listed)
          adding.adds))

      targets_now : (r : ℕ) → IfSome (get nat_eq now.targets r) (AreTargetsAt setting t r)
      targets_now r = elim (cases_eq r q) [
        | inl same ↦ subst (λ (a : ℕ). IfSome (get nat_eq now.targets a) (AreTargetsAt setting t a)) (sym same)
            (subst (λ (o : Option Targets). IfSome o (AreTargetsAt setting t q)) (sym here)
            (record { state = state; are = are }))
        | inr differ ↦ subst (λ (o : Option Targets). IfSome o (AreTargetsAt setting t r)) (sym (there r differ))
            (if_kept setting r (get nat_eq old.targets r) keeps (is.targets r))
      ]

      visited_now : (r : ℕ) → WasVisited (listed_keys now) (n + 1) r → IsSome (get nat_eq now.targets r)
      visited_now r was = elim (cases_eq r q) [
        | inl same ↦ subst (λ (a : ℕ). IsSome (get nat_eq now.targets a)) (sym same) (some_targets _ targets here)
        | inr differ ↦
            subst (λ (o : Option Targets). IsSome o) (sym (there r differ)) (is.visited r (earlier r was differ))
      ]
        where
          earlier : (r : ℕ) → (was : WasVisited (listed_keys now) (n + 1) r) → r ≢ q → WasVisited keys n r
          earlier r was differ =
              let stands : StandsAt (keys ++ adding.more) was.index (First r was.priority) =
              subst (λ (xs : List Key). StandsAt xs was.index (First r was.priority)) keys_now was.stands in
              let inside : was.index < length keys =
              (let below = was.below in omega (arith, below, slice_get_within keys n (First q p) at)) in
              let old_stands : StandsAt keys was.index (First r was.priority) =
              front_at keys adding.more was.index (First r was.priority) inside stands in
              let not_n : was.index ≢ n = λ same. differ (one_state keys n was.priority p
              (subst (λ (k : ℕ). StandsAt keys k (First r was.priority)) same old_stands) at) in
              record {
                index = was.index;
                priority = was.priority;
                below = (let below = was.below in omega (arith, below, not_n));
                stands = old_stands;
              }

      only_now : (r : ℕ) → IsSome (get nat_eq now.targets r) → WasVisited (listed_keys now) (n + 1) r
      only_now r some = elim (cases_eq r q) [
        | inl same ↦ record {
          index = n;
          priority = p;
          below = omega arith;
          stands = subst (λ (xs : List Key). StandsAt xs n (First r p)) (sym keys_now)
              (at_left keys adding.more n (subst (λ (a : ℕ). StandsAt keys n (First a p)) (sym same) at));
        }
        | inr differ ↦ subst (λ (xs : List Key). WasVisited xs (n + 1) r) (sym keys_now)
            (was_kept keys adding.more n (n + 1) r (omega arith)
            (is.only r (subst (λ (o : Option Targets). IsSome o) (there r differ) some)))
      ]

      within_now : (k r o : ℕ) → StandsAt (listed_keys now) k (First r o) → r ≤ setting.automaton.now.states
      within_now k r o at_k = by_part (Contains-append_cases keys adding.more (First r o)
          (subst (λ (xs : List Key). Contains xs (First r o)) keys_now
          (stands_in (listed_keys now) k (First r o) at_k)))
        where
          by_part : Contains keys (First r o) ⊎ Contains adding.more (First r o) → r ≤ setting.automaton.now.states
          by_part (inl old_key) = let (i, at_i) = stands_there keys (First r o) old_key in is.within i r o at_i
          by_part (inr new_key) = target_within setting targets whole are r o (adding.adds.each (First r o) new_key).0

      pub visiting_added : IsVisiting setting t now (n + 1)
      visiting_added = record {
        listed = listed;
        long = (let below : n < length keys = slice_get_within keys n (First q p) at in
            omega (arith, below, ap length keys_now, length-append keys adding.more));
        targets = targets_now;
        visited = visited_now;
        only = only_now;
        within = within_now;
      }

  pub visiting_done : {t : Table} (listing : Listing) (n : ℕ) → Fits setting t → IsVisiting setting t listing n →
      length (listed_keys listing) ≤ n → IsListing setting t listing
  visiting_done {t} listing n fits is all =
      let same : n ≡ length (listed_keys listing) = (let long = is.long in omega (arith, long, all)) in
      record {
        fits = fits;
        listed = subst (λ (m : ℕ). IsListedUpTo board m (listed_keys listing)) same is.listed;
        targets = λ q p here. (let (k, at) = stands_there (listed_keys listing) (First q p) here in
            some_and (AreTargetsAt setting t q) (get nat_eq listing.targets q) (is.targets q) (is.visited q (record {
              index = k;
              priority = p;
              below = (let below = slice_get_within (listed_keys listing) k (First q p) at in
                  omega (arith, below, same));
              stands = at;
            })));
        only = λ q some. (let was = is.only q some in
            (was.priority, stands_in (listed_keys listing) was.index (First q was.priority) was.stands));
      }
