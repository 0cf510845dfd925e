-- The keys of the steps that are entered into a set.
-- - `adding_none`, `adding_more`, `adding_next`: what was added before the first target, and after one more
use Rattle.std.specs.Prelude.{◌≡◌, ◌≢◌, ℕ, zero, suc, ◌+◌, ◌<◌, Bool, true, false, ◌||◌, List, [], ◌∷◌, ◌++◌, length}
use Rattle.std.specs.List.{AllPairs, Contains, list_any}
use Rattle.std.proofs.Common.{ap, sym, ◌∙◌, subst, refl, arith, append_assoc, rules, get_or, take}
use Rattle.std.proofs.lemmas.List.{get_or-map, map-append}
use Rattle.std.proofs.lemmas.Map.Views.{Contains-from_any}
use Rattle.indexmap.specs.IndexSet.{insert_key}
use Rattle.ps_automaton.specs.declared.step.Step.{Step}
use Rattle.ps_machine.specs.declared.key.Key.{Key}
use Rattle.ps_machine.specs.declared.key.Key.TheVariants.{First}
use Rattle.ps_basis.proofs.ArenaKeys.{from_map, in_map}
use Rattle.ps_brief.specs.Inner.Visiting.{Adding}
use Rattle.ps_brief.specs.Listings.{keys_of}
use Rattle.ps_brief.specs.Targets.{target_keys}
use Rattle.ps_brief.specs.declared.steps.Target.{Target}
use Rattle.ps_brief.proofs.ListedStates.Taking.{take_next}
use Rattle.ps_brief.proofs.ListedStates.TargetLists.{key_of_target}
use Rattle.ps_brief.proofs.ListedStates.ListedKeys.{adds_known, adds_none, adds_one}

abbrev pub key_of_step : Step → Key
key_of_step step = First step.state step.priority

append_none : (xs : List Key) → xs ≡ xs ++ []
append_none [] = refl
append_none (x ∷ xs) = ap (λ ys. x ∷ ys) (append_none xs)

pub adding_none : (old : List Step) → Adding old [] old
adding_none old = record { more = []; keys = append_none (keys_of old); adds = adds_none (keys_of old) }

pub same_step_key : (one other : Step) → key_of_step one ≡ key_of_step other → one ≡ other
same_step_key one other e = search rules

or_true : (a : Bool) {b : Bool} → b ≡ true → (a || b) ≡ true
or_true true e = refl
or_true false e = e

module _ (eq : Step → Step → Bool) (sound : (a b : Step) → eq a b ≡ true → a ≡ b)
    (itself : (a : Step) → eq a a ≡ true) (old : List Step) (targets : List Key) (now : List Step) (step : Step)
    (adding : Adding old targets now) (fresh : ¬ Contains targets (key_of_step step)) where
  known : list_any (eq step) now ≡ true → Contains (keys_of old ++ adding.more) (key_of_step step)
  known is = subst (λ (xs : List Key). Contains xs (key_of_step step)) adding.keys
      (in_map key_of_step now step (Contains-from_any sound step now is))

  back : Contains (keys_of old ++ adding.more) (key_of_step step) → list_any (eq step) now ≡ true
  back here =
      let (one, inside, same) = from_map key_of_step now step (key_of_step step)
      (subst (λ (xs : List Key). Contains xs (key_of_step step)) (sym adding.keys) here) in
      let is : step ≡ one = same_step_key step one same in
      let (k, within, at) = subst (λ (s : Step). Contains now s) (sym is) inside in any_there now step k within at
    where
      any_there : (xs : List Step) (s : Step) (k : ℕ) → k < length xs → get_or xs k s ≡ s →
          list_any (eq s) xs ≡ true
      any_there [] s k within same = absurd (omega (arith, within))
      any_there (x ∷ xs) s zero within same =
          subst (λ (y : Step). list_any (eq s) (y ∷ xs) ≡ true) (sym same)
          (ap (λ b. b || list_any (eq s) xs) (itself s))
      any_there (x ∷ xs) s (suc k) within same =
          or_true (eq s x) (any_there xs s k (omega (arith, within)) same)

  pub adding_more : Adding old (targets ++ key_of_step step ∷ []) (insert_key eq now step)
  adding_more = with_case (list_any (eq step) now) refl
    where
      inserted_known : list_any (eq step) now ≡ true → insert_key eq now step ≡ now
      inserted_known is = rw is refl

      inserted_new : list_any (eq step) now ≡ false → insert_key eq now step ≡ now ++ step ∷ []
      inserted_new isnt = rw isnt refl

      regrouped : (keys_of old ++ adding.more) ++ key_of_step step ∷ [] ≡
          keys_of old ++ (adding.more ++ key_of_step step ∷ [])
      regrouped = simp append_assoc

      with_case : (b : Bool) → list_any (eq step) now ≡ b →
          Adding old (targets ++ key_of_step step ∷ []) (insert_key eq now step)
      with_case true is = record {
        more = adding.more;
        keys = ap keys_of (inserted_known is) ∙ adding.keys;
        adds = adds_known (keys_of old) targets adding.more (key_of_step step) adding.adds fresh (known is);
      }
      with_case false isnt = record {
        more = adding.more ++ key_of_step step ∷ [];
        keys = ap keys_of (inserted_new isnt) ∙ map-append key_of_step now (step ∷ [])
            ∙ ap (λ xs. xs ++ key_of_step step ∷ []) adding.keys ∙ regrouped;
        adds = adds_one (keys_of old) targets adding.more (key_of_step step) adding.adds fresh
            (λ here. cc (back here, isnt));
      }

-- ## The targets of a list

in_take : (n : ℕ) (xs : List Key) (x : Key) → Contains (take n xs) x →
    (j : ℕ) × (j < n) × (j < length xs) × (get_or xs j x ≡ x)
in_take zero xs x (k, within, same) = absurd (omega (arith, within))
in_take (suc n) [] x (k, within, same) = absurd (omega (arith, within))
in_take (suc n) (y ∷ xs) x (zero, within, same) = (0, omega arith, omega arith, same)
in_take (suc n) (y ∷ xs) x (suc k, within, same) =
    let (j, below, inside, is) = in_take n xs x (k, omega (arith, within), same) in
    (suc j, omega (arith, below), omega (arith, inside), is)

pub adding_next : (eq : Step → Step → Bool) → ((a b : Step) → eq a b ≡ true → a ≡ b) →
    ((a : Step) → eq a a ≡ true) → (old : List Step) (targets : List Key) (n : ℕ) (now new : List Step) (step : Step) →
    AllPairs (λ x y. x ≢ y) targets → n < length targets → key_of_step step ≡ get_or targets n (key_of_step step) →
    Adding old (take n targets) now → new ≡ insert_key eq now step → Adding old (take (n + 1) targets) new
adding_next eq sound itself old targets n now new step differ within is adding inserted =
    subst (λ (steps : List Step). Adding old (take (n + 1) targets) steps) (sym inserted)
    (subst (λ (keys : List Key). Adding old keys (insert_key eq now step)) (sym longer)
    (adding_more eq sound itself old (take n targets) now step adding fresh))
  where
    longer : take (n + 1) targets ≡ take n targets ++ key_of_step step ∷ []
    longer = take_next n targets (key_of_step step) within
        ∙ ap (λ (k : Key). take n targets ++ k ∷ []) (sym is)

    fresh : ¬ Contains (take n targets) (key_of_step step)
    fresh here =
        let (j, below, inside, same) = in_take n targets (key_of_step step) here in
        differ j n (key_of_step step) below within (same ∙ is)

-- the key of a target stands at the target's index
pub target_key_at : (list : List Target) (n : ℕ) (target : Target) → n < length list → target ≡ get_or list n target →
    key_of_target target ≡ get_or (target_keys list) n (key_of_target target)
target_key_at list n target within is =
    ap key_of_target is ∙ sym (get_or-map key_of_target list n target (key_of_target target) within)
