-- The propositions that a machine outputs are those of its player, ascending.
use Rattle.std.proofs.Common.{◌≡◌, ◌∙◌, ℕ, zero, suc, ◌+◌, Bool, cond, not, List, [], ◌∷◌, ◌++◌, refl, ap, arith}
use Rattle.std.proofs.Common.{append-nil, inl, inr, subst}
use Rattle.std.specs.Prelude.{filter}
use Rattle.std.specs.List.{range_with_len}
use Rattle.std.proofs.lemmas.Bool.{cases_Bool}
use Rattle.std.proofs.lemmas.List.Elements.{filter-append}
use Rattle.ps_machine.specs.Inner.Assembling.{AreListedBelow, HasRoles}
use Rattle.ps_machine.specs.BitParts.{own_propositions}
use Rattle.ps_machine.specs.Boards.{Board}
use Rattle.ps_machine.specs.Extracting.{is_others}
use Rattle.ps_machine.proofs.Machines.Listing.{listed_none, listed_with, listed_without, one_listed}

counted : (a n j : ℕ) → a + n ≡ j → range_with_len a (suc n) ≡ range_with_len a n ++ j ∷ []
counted a zero j e = ap (λ (k : ℕ). k ∷ []) (let same : a ≡ j = omega arith in same)
counted a (suc n) j e = ap (λ (ks : List ℕ). a ∷ ks) (counted (a + 1) n j (omega arith))

filtered_more : (is : ℕ → Bool) (n : ℕ) (b : Bool) → is n ≡ b → AreListedBelow n is (filter is (range_with_len 0 n)) →
    AreListedBelow (n + 1) is (filter is (range_with_len 0 (suc n)))
filtered_more is n b e listed =
    let before = filter is (range_with_len 0 n) in
    let split : filter is (range_with_len 0 (suc n)) ≡ before ++ cond b (n ∷ []) [] =
    ap (filter is) (counted 0 n n (omega arith)) ∙ filter-append is (range_with_len 0 n) (n ∷ [])
    ∙ ap (λ (c : Bool). before ++ cond c (n ∷ []) []) e in
    elim (cases_Bool b) [
      | inl one ↦ listed_with (e ∙ one) (split ∙ ap (λ (c : Bool). before ++ cond c (n ∷ []) []) one) listed
      | inr none ↦ listed_without (e ∙ none) (split ∙ ap (λ (c : Bool). before ++ cond c (n ∷ []) []) none
          ∙ append-nil before) listed
    ]

-- the numbers less than n that pass the test are listed, ascending
filtered : (is : ℕ → Bool) (n : ℕ) → AreListedBelow n is (filter is (range_with_len 0 n))
filtered is zero = listed_none is
filtered is (suc n) = subst (λ (k : ℕ). AreListedBelow k is (filter is (range_with_len 0 (suc n))))
    (let more : n + 1 ≡ suc n = omega arith in more) (filtered_more is n (is n) refl (filtered is n))

pub own : {is_first : Bool} {board : Board} {inputs outputs : List ℕ} → HasRoles is_first board inputs outputs →
    outputs ≡ own_propositions is_first board
own {is_first} {board} roles =
    one_listed roles.played (filtered (λ p. not (is_others is_first board p)) board.propositions)
