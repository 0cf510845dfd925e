-- A basis in the making: its letters are marked one after another, until they cover all letters.
-- - `covering_begun`, `covering_more`: what holds at the beginning, and after one more letter
-- - `covering_done`: if no letter is uncovered, the marked letters are a basis
use Rattle.std.specs.Prelude.{◌≡◌, ◌≢◌, ◌⊎◌, ℕ, ◌^◌, ◌<◌, List, Option, Some, None, MatchOption}
use Rattle.std.proofs.Common.{sym, ◌∙◌, subst, refl, inl, inr, get_or}
use Rattle.std.proofs.lemmas.Bool.{cases_eq}
use Rattle.ps_diagram.specs.Reached.{LeadsToLeaf}
use Rattle.ps_diagram.specs.Table.{Table, IsNode, Keeps, leaf_of}
use Rattle.ps_machine.specs.Boards.{Board, IsClassLetter, IsFirstLetter, IsListOf}
use Rattle.ps_basis.specs.Bases.{IsBasis, IsBelowLetter, ReachesNoMore}
use Rattle.ps_brief.specs.Inner.Covering.{AreMarked, Covers, IsCovering, IsMarked}
use Rattle.ps_brief.proofs.ListedStates.KeptTargets.{leaf_kept}

module _ (board : Board) (q : ℕ) where
  pub covering_kept : {s t : Table} (uncovered basis : ℕ) → Keeps s t → IsCovering board s q uncovered basis →
      IsCovering board t q uncovered basis
  covering_kept {s} {t} uncovered basis keeps is = record {
    uncovered_held = keeps.held uncovered is.uncovered_held;
    basis_held = keeps.held basis is.basis_held;
    marked = λ x leaf within at. is.marked x leaf within (sym (leaf_kept basis x keeps is.basis_held) ∙ at);
    each = λ z first. with_case z (is.each z first);
  }
    where
      with_case : (z : ℕ) → (leaf_of s uncovered z ≡ Some 1) ⊎ ((x : ℕ) × Covers board s q basis z x) →
          (leaf_of t uncovered z ≡ Some 1) ⊎ ((x : ℕ) × Covers board t q basis z x)
      with_case z (inl left) = inl (leaf_kept uncovered z keeps is.uncovered_held ∙ left)
      with_case z (inr (x, covers)) = inr (
        x,
        record {
          within = covers.within;
          marked = leaf_kept basis x keeps is.basis_held ∙ covers.marked;
          no_more = covers.no_more;
        },
      )

  pub covering_begun : {t : Table} (uncovered basis : ℕ) → IsNode t uncovered → IsNode t basis →
      ((x : ℕ) → leaf_of t uncovered x ≡ Some 1) → ((x : ℕ) → leaf_of t basis x ≡ None) →
      IsCovering board t q uncovered basis
  covering_begun uncovered basis uncovered_held basis_held all none = record {
    uncovered_held = uncovered_held;
    basis_held = basis_held;
    marked = λ x leaf within at. absurd (let e = none x in cc);
    each = λ z first. inl (all z);
  }

  -- `least` is marked, and what it covers is no longer uncovered
  module _ {s t u : Table} (uncovered basis now left least : ℕ) (is : IsCovering board s q uncovered basis)
      (is_class : IsClassLetter board q least) (keeps : Keeps s t) (on : Keeps t u) (now_held : IsNode t now)
      (left_held : IsNode u left) (here : leaf_of t now least ≡ Some least)
      (others : (x : ℕ) → x < 2 ^ board.propositions → x ≢ least → leaf_of t now x ≡ leaf_of s basis x)
      (leaves : (z : ℕ) → IsFirstLetter board z → (leaf_of u left z ≡ leaf_of t uncovered z) ⊎
      ReachesNoMore board q least z) where
    marked_now : AreMarked board u q now
    marked_now x leaf within at = elim (cases_eq x least) [
      | inl same ↦
          let there : leaf_of t now x ≡ Some x =
          subst (λ (i : ℕ). leaf_of t now i ≡ Some i) (sym same) here in
          let e : Some x ≡ Some leaf = sym there ∙ sym (leaf_kept now x on now_held) ∙ at in
          record { itself = cc; is_class = subst (λ (i : ℕ). IsClassLetter board q i) (sym same) is_class }
      | inr differ ↦ is.marked x leaf within
          (sym (others x within differ) ∙ sym (leaf_kept now x on now_held) ∙ at)
    ]

    least_within : least < 2 ^ board.propositions
    least_within = is_class.here.0.within

    still_marked : (x : ℕ) → x < 2 ^ board.propositions → leaf_of s basis x ≡ Some x → leaf_of u now x ≡ Some x
    still_marked x within at = elim (cases_eq x least) [
      | inl same ↦ leaf_kept now x on now_held ∙ subst (λ (i : ℕ). leaf_of t now i ≡ Some i) (sym same) here
      | inr differ ↦ leaf_kept now x on now_held ∙ others x within differ ∙ at
    ]

    by_least : (z : ℕ) → ReachesNoMore board q least z → Covers board u q now z least
    by_least z no_more = record {
      within = least_within;
      marked = leaf_kept now least on now_held ∙ here;
      no_more = no_more;
    }

    by_old : (z : ℕ) → leaf_of u left z ≡ leaf_of t uncovered z →
        (leaf_of s uncovered z ≡ Some 1) ⊎ ((x : ℕ) × Covers board s q basis z x) →
        (leaf_of u left z ≡ Some 1) ⊎ ((x : ℕ) × Covers board u q now z x)
    by_old z same (inl open_still) =
        inl (same ∙ leaf_kept uncovered z keeps is.uncovered_held ∙ open_still)
    by_old z same (inr (x, covers)) = inr (
      x,
      record {
        within = covers.within;
        marked = still_marked x covers.within covers.marked;
        no_more = covers.no_more;
      },
    )

    each_now : (z : ℕ) → IsFirstLetter board z →
        (leaf_of u left z ≡ Some 1) ⊎ ((x : ℕ) × Covers board u q now z x)
    each_now z first = elim (leaves z first) [
      | inl same ↦ by_old z same (is.each z first)
      | inr no_more ↦ inr (least, by_least z no_more)
    ]

    pub covering_more : IsCovering board u q left now
    covering_more = record {
      uncovered_held = left_held;
      basis_held = on.held now now_held;
      marked = marked_now;
      each = each_now;
    }

  pub covering_done : {t : Table} (uncovered basis : ℕ) (letters : List ℕ) → t.propositions ≡ board.propositions →
      IsCovering board t q uncovered basis → ((x : ℕ) → LeadsToLeaf t uncovered 1 x → ⊥) →
      IsListOf (IsMarked t basis) letters → IsBasis board q letters
  covering_done {t} uncovered basis letters size is none listed = record {
    each = λ k d within. (let marked = listed.each k d within in
        (is.marked (get_or letters k d) (get_or letters k d)
        (subst (λ (n : ℕ). get_or letters k d < 2 ^ n) size marked.0) marked.1).is_class);
    rising = listed.rising;
    below_each = λ other first. with_case other first (is.each other first);
  }
    where
      with_case : (z : ℕ) → IsFirstLetter board z →
          (leaf_of t uncovered z ≡ Some 1) ⊎ ((x : ℕ) × Covers board t q basis z x) →
          (x : ℕ) × IsBelowLetter board q letters x z
      with_case z first (inl left) =
          absurd (none z (subst (λ (n : ℕ). z < 2 ^ n) (sym size) first.within, left))
      with_case z first (inr (x, covers)) = (
        x,
        record {
          listed = listed.complete x (subst (λ (n : ℕ). x < 2 ^ n) (sym size) covers.within, covers.marked);
          no_more = covers.no_more;
        },
      )

-- no case is left but the first
pub only_none : (P : Type 0) (Q : ℕ → Type 0) (o : Option ℕ) → MatchOption o P Q → ((k : ℕ) → o ≡ Some k → ⊥) → P
only_none P Q None holds never = holds
only_none P Q (Some k) holds never = absurd (never k refl)
