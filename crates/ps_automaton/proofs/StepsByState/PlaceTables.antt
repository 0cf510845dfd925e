-- When a target is appended to a list of different targets of edges, and its index is entered into the table of
-- indices, the table still has the index of each target.
use Rattle.std.proofs.Common.{◌≡◌, ℕ, ◌⊎◌, inl, inr, true, cond, List, [], ◌∷◌, ◌++◌, length, Option, None, Some, arith}
use Rattle.std.specs.List.{slice_get}
use Rattle.std.specs.Ordering.{is_eq}
use Rattle.ps_automaton.specs.Inner.Places.{AreDistinct, IsPlaced, IsTableOf, pair_cmp}
use Rattle.ps_automaton.specs.declared.targets.Target.{Target}
use Rattle.ps_automaton.proofs.StepsByState.DistinctEntries.{at_end, at_last, at_left}

-- ## The order of pairs

same_target : (s t : Target) → is_eq (pair_cmp (s.state, s.sets) (t.state, t.sets)) ≡ true → s ≡ t
same_target s t e = grind arith

target_tied : (t : Target) → is_eq (pair_cmp (t.state, t.sets) (t.state, t.sets)) ≡ true
target_tied t = grind arith

-- ## Indices

module _ {X : Type 0} {old new : List X} {t : X} {place : ℕ} (is : IsPlaced old new t place) where
  pub placed_keeps : (i : ℕ) (x : X) → slice_get old i ≡ Some x → slice_get new i ≡ Some x
  placed_keeps i x e = elim is.list [ inl same ↦ rw same e | inr more ↦ rw more (at_left old (t ∷ []) i e) ]

  -- each entry of the new list is in the old list, or is the added entry
  pub placed_is : (i : ℕ) (x : X) → slice_get new i ≡ Some x → (slice_get old i ≡ Some x) ⊎ (x ≡ t)
  placed_is i x e = grind (arith, at_last)

-- ## Tables

pub distinct_by_table : {targets : List Target} {table : ℕ → ℕ → Option ℕ} → IsTableOf targets table →
    AreDistinct targets
distinct_by_table is i j t a b = cc (is.whole t i a, is.whole t j b)

pub table_same : {old new : List Target} {table : ℕ → ℕ → Option ℕ} → new ≡ old → IsTableOf old table →
    IsTableOf new table
table_same e is = rw e is

module _ {targets : List Target} {old : ℕ → ℕ → Option ℕ} (new : ℕ → ℕ → Option ℕ) (t : Target) {place : ℕ}
    (is : IsTableOf targets old) (size : place ≡ length targets) (none : old t.state t.sets ≡ None)
    (puts : (state sets : ℕ) →
    new state sets ≡ cond (is_eq (pair_cmp (t.state, t.sets) (state, sets))) (Some place) (old state sets)) where
  pub table_push : IsTableOf (targets ++ t ∷ []) new
  table_push = record {
    sound = λ s p h. grind (arith, same_target t s, at_end targets t, at_left targets (t ∷ []) p);
    whole = λ s p h. grind (arith, at_last targets t p h, same_target t s, target_tied t);
  }
