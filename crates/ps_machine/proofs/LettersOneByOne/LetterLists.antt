-- The list of all letters of a player, in ascending order. The list is made by adding one proposition after another to
-- the letters.
use Rattle.std.proofs.Common.{◌≡◌, ◌∙◌, ◌⊎◌, inl, inr, ℕ, ◌+◌, ◌-◌, ◌*◌, ◌%◌, ◌^◌, ◌<◌, Bool, true, false, not, List}
use Rattle.std.proofs.Common.{[], ◌∷◌, ◌++◌, length, get_or, ap, sym, subst, refl, add-one, arith, rules}
use Rattle.std.specs.List.{All, AllPairs, Contains}
use Rattle.std.proofs.Math.Nat.{pow-suc}
use Rattle.std.proofs.lemmas.Bool.{cases_lt}
use Rattle.std.proofs.lemmas.List.{get_or_default}
use Rattle.std.proofs.lemmas.List.Elements.{All-push, Contains-append_left, Contains-push}
use Rattle.std.proofs.lemmas.List.Quantifiers.{all_pairs_push}
use Rattle.std.proofs.lemmas.Nat.{one_shl}
use Rattle.ps_label.specs.Truth.{is_in}
use Rattle.ps_diagram.specs.Letters.{IsBefore}
use Rattle.ps_diagram.proofs.NodeTables.Cells.{true_is_not_false}
use Rattle.ps_diagram.proofs.Letters.{lower_bit, no_bit, top_bit}
use Rattle.ps_machine.specs.Boards.{IsListOf, Board}
use Rattle.ps_machine.specs.Inner.ByLetters.{IsOf, IsOver}
use Rattle.ps_machine.proofs.AutomatonGames.DecidedMoves.{over_first, over_second, second_over}

-- ## Letters with one more proposition

module _ (k : ℕ) where
  power_next : 2 ^ (k + 1) ≡ 2 ^ k + 2 ^ k
  power_next = let p = pow-suc 2 k in rw (add-one k) (omega arith)

  -- x is a letter over the propositions before k; z is x, or x with the proposition k true as well
  abbrev IsPart : ℕ → ℕ → Type 0
  IsPart x z = (z ≡ x) ⊎ (z ≡ x + 2 ^ k)

  part_bit : {x z : ℕ} (p : ℕ) → IsPart x z → p < k → is_in p z ≡ is_in p x
  part_bit {x} p part low = elim part [ inl same ↦ ap (is_in p) same | inr more ↦ ap (is_in p) more ∙ lower_bit k x p low ]

  -- each proposition that is true in a letter less than 2^k is less than k
  earlier : {y : ℕ} (p : ℕ) → y < 2 ^ k → is_in p y ≡ true → p < k
  earlier {y} p within is = elim (cases_lt p k) [
    | inl low ↦ low
    | inr high ↦ absurd (true_is_not_false (sym is ∙ no_bit k y p within high))
  ]

  part_before : {x y z w : ℕ} → IsPart x z → IsPart y w → y < 2 ^ k → IsBefore x y → IsBefore z w
  part_before {x} {y} {z} {w} one other within before =
      let low = earlier before.first within before.is_true in
      record {
        first = before.first;
        is_false = part_bit before.first one low ∙ before.is_false;
        is_true = part_bit before.first other low ∙ before.is_true;
        same = λ p lt. (let less : p < k = omega (arith, lt, low) in
            part_bit p one less ∙ before.same p lt ∙ sym (part_bit p other less));
      }

  before_with : {x : ℕ} → x < 2 ^ k → IsBefore x (x + 2 ^ k)
  before_with {x} within = record {
    first = k;
    is_false = no_bit k x k within (omega arith);
    is_true = top_bit k x within;
    same = λ p lt. sym (lower_bit k x p lt);
  }

  module _ (mine : ℕ → Bool) where
    over_without : {x : ℕ} → IsOver k mine x → IsOver (k + 1) mine x
    over_without {x} over = record {
      within = (let p = power_next in let w = over.within in omega (arith, p, w));
      own = over.own;
    }

    over_with : {x : ℕ} → mine k ≡ true → IsOver k mine x → IsOver (k + 1) mine (x + 2 ^ k)
    over_with {x} is over =
        let within : x + 2 ^ k < 2 ^ (k + 1) = let p = power_next in let w = over.within in omega (arith, p, w) in
        record {
          within = within;
          own = λ p isnt. elim (cases_lt p k) [
            | inl low ↦ lower_bit k x p low ∙ over.own p isnt
            | inr high ↦ elim (cases_lt k p) [
              | inl above ↦ no_bit (k + 1) (x + 2 ^ k) p within (omega (arith, above))
              | inr below ↦
                  let same : p ≡ k = omega (arith, high, below) in
                  absurd (true_is_not_false (sym is ∙ ap mine (sym same) ∙ isnt))
            ]
          ];
        }

    -- each letter over the propositions up to k comes from a letter over the propositions before k: it is this letter,
    -- or this letter with k true as well
    parts : (z : ℕ) → IsOver (k + 1) mine z → (x : ℕ) × IsOver k mine x × IsPart x z
    parts z over = elim (cases_lt z (2 ^ k)) [
      | inl low ↦ (z, record { within = low; own = over.own }, inl refl)
      | inr high ↦
          let x = z - 2 ^ k in
          let same : z ≡ x + 2 ^ k = omega (arith, high) in
          let within : x < 2 ^ k = let p = power_next in let w = over.within in omega (arith, p, w, high) in (
            x,
            record {
              within = within;
              own = λ p isnt. elim (cases_lt p k) [
                | inl less ↦ sym (lower_bit k x p less) ∙ ap (is_in p) (sym same) ∙ over.own p isnt
                | inr more ↦ no_bit k x p within more
              ];
            },
            inr same,
          )
    ]

    -- if the proposition k does not belong to the player, each letter of the player over the propositions up to k is a
    -- letter over the propositions before k
    over_same : {z : ℕ} → mine k ≡ false → IsOver (k + 1) mine z → IsOver k mine z
    over_same {z} isnt over = let part = parts z over in elim part.2 [
      | inl same ↦ rw same part.1
      | inr more ↦ absurd (true_is_not_false (sym (top_bit k part.0 part.1.within) ∙ ap (is_in k) (sym more)
          ∙ over.own k isnt))
    ]

    pub listed_same : {xs : List ℕ} → mine k ≡ false → IsListOf (IsOver k mine) xs → IsListOf (IsOver (k + 1) mine) xs
    listed_same {xs} isnt l = record {
      each = λ n d lt. over_without (l.each n d lt);
      complete = λ z over. l.complete z (over_same isnt over);
      rising = l.rising;
    }

  -- the new list has each of the first i letters of the old list twice: with the proposition k false, and with it true
  pub record AreDoubled (xs : List ℕ) (i : ℕ) (more : List ℕ) : Type 0 where
    pub from : All (λ z. (j : ℕ) × (j < i) × IsPart (get_or xs j 0) z) more
    pub without : (j : ℕ) → j < i → Contains more (get_or xs j 0)
    pub joined : (j : ℕ) → j < i → Contains more (get_or xs j 0 + 2 ^ k)
    pub rising : AllPairs IsBefore xs → AllPairs IsBefore more

  doubled_more : {xs : List ℕ} {i : ℕ} {more : List ℕ} (x : ℕ) → All (λ y. y < 2 ^ k) xs → i < length xs →
      get_or xs i 0 ≡ x → AreDoubled xs i more → AreDoubled xs (i + 1) ((more ++ x ∷ []) ++ (x + 2 ^ k) ∷ [])
  doubled_more {xs} {i} {more} x low inside is d =
      let From : ℕ → ℕ → Type 0 = λ c z. (j : ℕ) × (j < c) × IsPart (get_or xs j 0) z in
      let within : x < 2 ^ k = subst (λ y. y < 2 ^ k) is (low i 0 inside) in
      let old : All (From (i + 1)) more = λ n e lt. (let f = d.from n e lt in (f.0, omega (arith, f.1), f.2)) in
      let one = more ++ x ∷ [] in
      let keep : (y : ℕ) → Contains more y → Contains (one ++ (x + 2 ^ k) ∷ []) y =
      λ y c. Contains-append_left one ((x + 2 ^ k) ∷ []) y (Contains-append_left more (x ∷ []) y c) in
      record {
        from = All-push (From (i + 1)) one (x + 2 ^ k)
            (All-push (From (i + 1)) more x old (i, omega arith, inl (sym is)))
            (i, omega arith, inr (sym (ap (λ y. y + 2 ^ k) is)));
        without = λ j lt. elim (cases_lt j i) [
          | inl less ↦ keep (get_or xs j 0) (d.without j less)
          | inr last ↦
              let same : j ≡ i = omega (arith, lt, last) in
              subst (Contains (one ++ (x + 2 ^ k) ∷ [])) (sym (ap (λ n. get_or xs n 0) same ∙ is))
              (Contains-append_left one ((x + 2 ^ k) ∷ []) x (Contains-push more x))
        ];
        joined = λ j lt. elim (cases_lt j i) [
          | inl less ↦ keep (get_or xs j 0 + 2 ^ k) (d.joined j less)
          | inr last ↦
              let same : j ≡ i = omega (arith, lt, last) in
              subst (Contains (one ++ (x + 2 ^ k) ∷ []))
              (sym (ap (λ y. y + 2 ^ k) (ap (λ n. get_or xs n 0) same ∙ is))) (Contains-push one (x + 2 ^ k))
        ];
        rising = λ up.
            let earlier_ones : (w : ℕ) → IsPart x w → All (λ z. IsBefore z w) more = λ w part n e lt.
            (let f = d.from n e lt in part_before f.2 part within
            (subst (IsBefore (get_or xs f.0 0)) is (up f.0 i 0 f.1 inside))) in
            all_pairs_push IsBefore one (x + 2 ^ k)
            (all_pairs_push IsBefore more x (d.rising up) (earlier_ones x (inl refl)))
            (All-push (λ z. IsBefore z (x + 2 ^ k)) more x (earlier_ones (x + 2 ^ k) (inr refl)) (before_with within));
      }

  -- one iteration of the loop appends the next letter of the old list twice: with the proposition k false, and with it
  -- true
  pub doubled_next : {xs : List ℕ} {i : ℕ} {more one two : List ℕ} (x y : ℕ) → k < 64 → All (λ y. y < 2 ^ k) xs →
      i < length xs → get_or xs i 0 ≡ x → y ≡ x + 1 * 2 ^ k % 2 ^ 64 → one ≡ more ++ x ∷ [] → two ≡ one ++ y ∷ [] →
      AreDoubled xs i more → AreDoubled xs (i + 1) two
  doubled_next {xs} {i} {more} {one} {two} x y few low inside is joined first second d =
      let sum : y ≡ x + 2 ^ k = joined ∙ ap (λ n. x + n) (one_shl k 64 few) in
      rw (second, first, sum) (doubled_more x low inside is d)

  pub doubled_all : (mine : ℕ → Bool) {xs more : List ℕ} → mine k ≡ true → AreDoubled xs (length xs) more →
      IsListOf (IsOver k mine) xs → IsListOf (IsOver (k + 1) mine) more
  doubled_all mine {xs} {more} is d l =
      let over_of : (x z : ℕ) → IsOver k mine x → IsPart x z → IsOver (k + 1) mine z = λ x z over part. elim part [
        | inl same ↦ rw same (over_without mine over)
        | inr joined ↦ rw joined (over_with mine is over)
      ] in
      record {
        each = λ n e lt. (let f = d.from n e lt in over_of (get_or xs f.0 0) (get_or more n e) (l.each f.0 0 f.1) f.2);
        complete = λ z over.
            let part = parts mine z over in
            let c = l.complete part.0 part.1 in
            let there : get_or xs c.0 0 ≡ part.0 = get_or_default xs c.0 0 part.0 c.1 ∙ c.2 in
            elim part.2 [
              | inl same ↦ subst (Contains more) (there ∙ sym same) (d.without c.0 c.1)
              | inr joined ↦ subst (Contains more) (ap (λ y. y + 2 ^ k) there ∙ sym joined) (d.joined c.0 c.1)
            ];
        rising = d.rising l.rising;
      }

-- ## The letters of a player

pub owner : Board → Bool → ℕ → Bool
owner board true p = board.is_first p
owner board false p = not (board.is_first p)

pub owner_is : (board : Board) (moves_first : Bool) (p : ℕ) → board.is_first p ≡ moves_first →
    owner board moves_first p ≡ true
unfolding owner
owner_is board true p e = search rules
owner_is board false p e = search rules

pub owner_not : (board : Board) (moves_first : Bool) (p : ℕ) → (board.is_first p ≡ moves_first → ⊥) →
    owner board moves_first p ≡ false
unfolding owner
owner_not board true p n = search rules
owner_not board false p n = search rules

pub listed_of : (board : Board) (moves_first : Bool) {xs : List ℕ} →
    IsListOf (IsOver board.propositions (owner board moves_first)) xs → IsListOf (IsOf board moves_first) xs
unfolding owner
listed_of board true l = record {
  each = λ n d lt. over_first board (l.each n d lt);
  complete = λ x first. l.complete x (record { within = first.within; own = first.own });
  rising = l.rising;
}
listed_of board false l = record {
  each = λ n d lt. over_second board (l.each n d lt);
  complete = λ x second. l.complete x (second_over board x second);
  rising = l.rising;
}
