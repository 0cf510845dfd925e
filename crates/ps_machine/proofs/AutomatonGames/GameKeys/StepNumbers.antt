-- The table that gives the number of a vertex by the leaf of the step that leads to it.
use Rattle.std.proofs.Common.{◌≡◌, ◌≢◌, ◌∙◌, ℕ, ◌+◌, ◌<◌, ◌⊎◌, List, ◌++◌, length, map, get_or}
use Rattle.std.proofs.Common.{arith, inl, inr, sym, subst}
use Rattle.std.specs.List.{Contains}
use Rattle.std.proofs.lemmas.Bool.{cases_eq}
use Rattle.std.proofs.lemmas.List.{get_or-map, length-map}
use Rattle.std.proofs.lemmas.List.Elements.{Contains-append_cases, Contains-push_cases}
use Rattle.ps_automaton.specs.Automata.{AutomatonData, IsWhole}
use Rattle.ps_machine.specs.Numbering.{StandsAt}
use Rattle.ps_machine.specs.Inner.Exploring.{AreStepNumbers, IsStepNumber}
use Rattle.ps_machine.specs.Inner.Moving.{leaf_key}
use Rattle.ps_machine.specs.Inner.Visits.{Came, Comes, IsNumberOf}
use Rattle.ps_machine.specs.declared.key.Key.{Key}
use Rattle.ps_machine.specs.declared.key.Key.TheVariants.{First, Second}
use Rattle.ps_machine.proofs.AutomatonGames.BoardSteps.{step_of_key}
use Rattle.ps_machine.proofs.AutomatonGames.GameKeys.Visiting.{added_by, is_added, stands_now}
use Rattle.ps_machine.proofs.AutomatonGames.GameKeys.Standing.{not_second}
use Rattle.ps_diagram.proofs.ClassesOfLetters.Distinct.{at_left}

-- a key of the new list is the numbered key, or was in the old list
contained_before : {keys : List Key} {k : Key} {n : ℕ} {new : List Key} → IsNumberOf keys k n new → (other : Key) →
    Contains new other → Contains keys other ⊎ (k ≡ other)
contained_before (Came at same) other c = inl (subst (λ l. Contains l other) same c)
contained_before {keys} {k} (Comes absent is grown) other c =
    Contains-push_cases keys k other (subst (λ l. Contains l other) grown c)

stands_still : {keys : List Key} {k : Key} {n : ℕ} {new : List Key} → IsNumberOf keys k n new → (m : ℕ) (other : Key) →
    StandsAt keys m other → StandsAt new m other
stands_still {keys} is m other at =
    subst (λ l. StandsAt l m other) (sym (is_added is)) (at_left keys (added_by is) m at)

-- the leaf's step gets a number, and its entry is set
pub steps_more : {a : AutomatonData} {keys new : List Key} {steps now : List ℕ} {leaf n : ℕ} → IsWhole a →
    leaf < length a.steps → AreStepNumbers a keys steps → IsNumberOf keys (leaf_key a leaf) n new →
    get_or now leaf 0 ≡ n + 1 → ((other : ℕ) → other ≢ leaf → get_or now other 0 ≡ get_or steps other 0) →
    AreStepNumbers a new now
steps_more {a} {keys} {new} {steps} {now} {leaf} {n} whole named were is entry others = record {
  begins = stands_still is 0 (First a.start 0) were.begins;
  each = λ l lt. elim (cases_eq l leaf) [
    | inl same ↦ subst (λ (m : ℕ). IsStepNumber a new m (get_or now m 0)) (sym same) here
    | inr other ↦ rw (others l other) (there l lt other)
  ];
}
  where
    here : IsStepNumber a new leaf (get_or now leaf 0)
    here = record {
      stands = λ m e. subst (λ i. StandsAt new i (leaf_key a leaf)) (omega (arith, e, entry)) (stands_now is);
      absent = λ e. absurd (omega (arith, e, entry));
    }

    there : (l : ℕ) → l < length a.steps → l ≢ leaf → IsStepNumber a new l (get_or steps l 0)
    there l lt other = record {
      stands = λ m e. stands_still is m (leaf_key a l) ((were.each l lt).stands m e);
      absent = λ e away c. elim (contained_before is (leaf_key a l) c) [
        | inl before ↦ (were.each l lt).absent e away before
        | inr same ↦ other (sym (whole.once leaf l named lt (step_of_key same)))
      ];
    }

-- no vertex of the first player is among keys of vertices of the second player
no_step : (a : AutomatonData) (q leaf : ℕ) (letters : List ℕ) →
    Contains (map (λ x. Second q x) letters) (leaf_key a leaf)
    → ⊥
no_step a q leaf letters c =
    let within : c.0 < length letters = omega (arith, c.1, length-map letters (λ x. Second q x)) in
    not_second (sym (get_or-map (λ x. Second q x) letters c.0 0 (leaf_key a leaf) within) ∙ c.2)

-- the entries of the steps stay right when keys of vertices of the second player are added
pub steps_still : {a : AutomatonData} {keys : List Key} {steps : List ℕ} (q : ℕ) (letters : List ℕ) →
    AreStepNumbers a keys steps → AreStepNumbers a (keys ++ map (λ x. Second q x) letters) steps
steps_still {a} {keys} {steps} q letters were = record {
  begins = at_left keys (map (λ x. Second q x) letters) 0 were.begins;
  each = λ l lt. record {
    stands = λ m e. at_left keys (map (λ x. Second q x) letters) m ((were.each l lt).stands m e);
    absent = λ e away c. elim (Contains-append_cases keys (map (λ x. Second q x) letters) (leaf_key a l) c) [
      | inl before ↦ (were.each l lt).absent e away before
      | inr added ↦ no_step a q l letters added
    ];
  };
}
