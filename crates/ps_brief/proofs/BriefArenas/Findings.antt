-- What holds after the basis of each key's state was found.
use Rattle.std.specs.Prelude.{◌≡◌, ◌≢◌, ℕ, ◌+◌, ◌≤◌, length, nat_eq, cond, Option, Some, None, IfSome, IsSome}
use Rattle.std.specs.List.{Contains}
use Rattle.std.proofs.Common.{sym, ◌∙◌, subst, refl, inl, inr, arith}
use Rattle.std.proofs.lemmas.Bool.{cases_eq, eq-eqb}
use Rattle.std.proofs.lemmas.Option.{slice_get_within}
use Rattle.indexmap.specs.IndexMap.{get}
use Rattle.ps_machine.specs.Boards.{Board}
use Rattle.ps_machine.specs.Numbering.{StandsAt}
use Rattle.ps_machine.specs.declared.key.Key.TheVariants.{First}
use Rattle.ps_machine.proofs.AutomatonGames.GameKeys.Standing.{one_state}
use Rattle.ps_basis.specs.Bases.{IsBasis}
use Rattle.ps_basis.proofs.ArenaKeys.{stands_there}
use Rattle.ps_brief.specs.ArenaGames.{AreBases, letters_or_none}
use Rattle.ps_brief.specs.Inner.Finding.{IsBasisAt, IsFinding}
use Rattle.ps_brief.specs.Listings.{listed_keys}
use Rattle.ps_brief.specs.Settings.{board_in}
use Rattle.ps_brief.specs.declared.bases.Bases.{Bases}
use Rattle.ps_brief.specs.declared.bases.Basis.{Basis}
use Rattle.ps_brief.specs.declared.listing.Listing.{Listing}
use Rattle.ps_brief.specs.declared.setting.Setting.{Setting}
use Rattle.ps_brief.proofs.ListedStates.TargetLists.{apart_false}

no_basis : (o : Option Basis) → o ≡ None → IsSome o → ⊥
no_basis None e is = cc
no_basis (Some x) e is = cc

if_none : (P : Basis → Type 0) (o : Option Basis) → o ≡ None → IfSome o P
if_none P None e = tt
if_none P (Some x) e = absurd (cc e)

letters_are : (board : Board) (q : ℕ) (o : Option Basis) → IfSome o (IsBasisAt board q) → IsSome o →
    IsBasis board q (letters_or_none o)
letters_are board q None holds is = absurd (let never : ⊥ = cc in never)
letters_are board q (Some x) holds is = holds

some_letters : (o : Option Basis) (x : ℕ) → Contains (letters_or_none o) x → IsSome o
some_letters None x (k, within, same) = absurd (omega (arith, within))
some_letters (Some basis) x here = refl

module _ (setting : Setting) (listing : Listing) where
  pub finding_begun : (bases : Bases) → ((q : ℕ) → get nat_eq bases.of q ≡ None) → IsFinding setting listing bases 0
  finding_begun bases none = record {
    each = λ q. if_none (IsBasisAt (board_in setting) q) (get nat_eq bases.of q) (none q);
    only = λ q is. absurd (no_basis (get nat_eq bases.of q) (none q) is);
    visited = λ k q p below. absurd (omega (arith, below));
  }

  -- one more key, whose state has a basis
  pub finding_known : (bases : Bases) (n q p : ℕ) → IsFinding setting listing bases n →
      StandsAt (listed_keys listing) n (First q p) → IsSome (get nat_eq bases.of q) →
      IsFinding setting listing bases (n + 1)
  finding_known bases n q p is at known = record {
    each = is.each;
    only = is.only;
    visited = λ k r o below there. elim (cases_eq k n) [
      | inl same ↦ subst (λ (a : ℕ). IsSome (get nat_eq bases.of a))
          (one_state (listed_keys listing) n p o at
          (subst (λ (i : ℕ). StandsAt (listed_keys listing) i (First r o)) same there)) known
      | inr differ ↦ is.visited k r o (omega (arith, below, differ)) there
    ];
  }

  module _ (old now : Bases) (n q p : ℕ) (basis : Basis) (is : IsFinding setting listing old n)
      (at : StandsAt (listed_keys listing) n (First q p)) (listed : Contains (listed_keys listing) (First q p))
      (is_basis : IsBasisAt (board_in setting) q basis)
      (updated : (r : ℕ) → get nat_eq now.of r ≡ cond (nat_eq q r) (Some basis) (get nat_eq old.of r)) where
    here : get nat_eq now.of q ≡ Some basis
    here = updated q ∙ rw (eq-eqb q q refl) refl

    there : (r : ℕ) → r ≢ q → get nat_eq now.of r ≡ get nat_eq old.of r
    there r differ = updated r ∙ rw (apart_false q r (λ e. differ (sym e))) refl

    each_now : (r : ℕ) → IfSome (get nat_eq now.of r) (IsBasisAt (board_in setting) r)
    each_now r = elim (cases_eq r q) [
      | inl same ↦ subst (λ (a : ℕ). IfSome (get nat_eq now.of a) (IsBasisAt (board_in setting) a)) (sym same)
          (subst (λ (o : Option Basis). IfSome o (IsBasisAt (board_in setting) q)) (sym here) is_basis)
      | inr differ ↦ subst (λ (o : Option Basis). IfSome o (IsBasisAt (board_in setting) r)) (sym (there r differ))
          (is.each r)
    ]

    only_now : (r : ℕ) → IsSome (get nat_eq now.of r) → (o : ℕ) × Contains (listed_keys listing) (First r o)
    only_now r some = elim (cases_eq r q) [
      | inl same ↦ (p, subst (λ (a : ℕ). Contains (listed_keys listing) (First a p)) (sym same) listed)
      | inr differ ↦ is.only r (subst (λ (o : Option Basis). IsSome o) (there r differ) some)
    ]

    some_now : IsSome (get nat_eq now.of q)
    some_now = subst (λ (o : Option Basis). IsSome o) (sym here) refl

    still : (r : ℕ) → IsSome (get nat_eq old.of r) → IsSome (get nat_eq now.of r)
    still r some = elim (cases_eq r q) [
      | inl same ↦ subst (λ (a : ℕ). IsSome (get nat_eq now.of a)) (sym same) some_now
      | inr differ ↦ subst (λ (o : Option Basis). IsSome o) (sym (there r differ)) some
    ]

    pub finding_more : IsFinding setting listing now (n + 1)
    finding_more = finding_known now n q p (record {
      each = each_now;
      only = only_now;
      visited = λ k r o below at_k. still r (is.visited k r o below at_k);
    }) at some_now

  pub finding_done : (bases : Bases) (n : ℕ) → IsFinding setting listing bases n →
      length (listed_keys listing) ≤ n → AreBases setting listing bases
  finding_done bases n is all = record {
    each = λ q p inside. (let (k, at) = stands_there (listed_keys listing) (First q p) inside in
        letters_are (board_in setting) q (get nat_eq bases.of q) (is.each q)
        (is.visited k q p (let below = slice_get_within (listed_keys listing) k (First q p) at in
        omega (arith, below, all)) at));
    listed = λ q x inside. is.only q (some_letters (get nat_eq bases.of q) x inside);
  }
