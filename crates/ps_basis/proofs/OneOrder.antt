-- Two lists in the order that `IsInOrder` states have the same keys of the first player, in the same order.
-- - `carried`: each such key of one list is in the other
-- - `no_inversion`: no two keys stand in one list the other way round than in the other
-- - `numbered_alike`: the law
use Rattle.std.specs.Prelude.{◌≡◌, ℕ, zero, suc, ◌<◌, ◌≤◌, ◌⊎◌, List, slice_get}
use Rattle.std.specs.List.{Contains}
use Rattle.std.proofs.Common.{sym, ◌∙◌, subst, ap, inl, inr, arith}
use Rattle.std.proofs.lemmas.Bool.{cases_eq, cases_lt}
use Rattle.ps_diagram.specs.Letters.{IsBefore}
use Rattle.ps_machine.specs.Boards.{Board}
use Rattle.ps_machine.specs.Numbering.{StandsAt}
use Rattle.ps_machine.specs.declared.key.Key.{Key}
use Rattle.ps_machine.specs.declared.key.Key.TheVariants.{First}
use Rattle.ps_machine.proofs.AutomatonGames.DecidedMoves.{same_states}
use Rattle.ps_machine.proofs.AutomatonGames.GameKeys.Standing.{same_some}
use Rattle.ps_machine.proofs.Uniqueness.OneGame.{not_both}
use Rattle.ps_basis.specs.PairOrder.{HasStepTo, IsLeastStep, IsMadeAt, IsEarlier, IsMadeBelow, IsInOrder}
use Rattle.ps_basis.specs.PairOrder.{AreNumberedAlike}
use Rattle.ps_basis.proofs.ArenaKeys.{index_once, stands_in, stands_there}
use Rattle.ps_basis.proofs.ClassKeys.{least_leads}

-- ## Triples of an index and two letters

not_after : (i x y l z w : ℕ) → IsEarlier i x y l z w → i ≤ l
not_after i x y l z w (inl less) = omega (arith, less)
not_after i x y l z w (inr (same, letters)) = omega (arith, same)

letters_clash : (x y z w : ℕ) → IsBefore x z ⊎ ((x ≡ z) × IsBefore y w) → IsBefore z x ⊎ ((z ≡ x) × IsBefore w y) → ⊥
letters_clash x y z w (inl one) (inl other) = not_both x z one other
letters_clash x y z w (inl one) (inr (same, other)) =
    let itself : IsBefore x x = subst (λ (a : ℕ). IsBefore x a) same one in not_both x x itself itself
letters_clash x y z w (inr (same, one)) (inl other) =
    let itself : IsBefore z z = subst (λ (a : ℕ). IsBefore z a) same other in not_both z z itself itself
letters_clash x y z w (inr (same, one)) (inr (too, other)) = not_both y w one other

clash : (i j k l x y z w : ℕ) → i ≡ j → k ≡ l → IsEarlier i x y j z w → IsEarlier k z w l x y → ⊥
clash i j k l x y z w one two (inl less) other = omega (arith, one, less)
clash i j k l x y z w one two (inr first) (inl less) = omega (arith, two, less)
clash i j k l x y z w one two (inr (same, first)) (inr (too, second)) = letters_clash x y z w first second

-- ## One list

module _ (board : Board) (keys : List Key) (is : IsInOrder board keys) where
  once : (i j : ℕ) (key : Key) → StandsAt keys i key → StandsAt keys j key → i ≡ j
  once i j key one other = index_once keys key i j is.different one other

  -- no key whose state leads on stands before the one at which a key is made
  made_first : (r s i x y k q p : ℕ) → IsMadeAt board keys r s i x y → StandsAt keys k (First q p) →
      HasStepTo board q r s → i ≤ k
  made_first r s i x y k q p made at leads = elim (cases_lt k i) [
    | inl less ↦ absurd (made.none_before k q p less at leads)
    | inr more ↦ more
  ]

  leads_of : (r s i x y : ℕ) → (made : IsMadeAt board keys r s i x y) → HasStepTo board made.state r s
  leads_of r s i x y made = least_leads board made.state r s x y made.least

  -- the same, with the least letters of a key with the same state
  made_by : (r s i x y z w q : ℕ) → (made : IsMadeAt board keys r s i x y) → IsLeastStep board q r s z w →
      q ≡ made.state → IsMadeAt board keys r s i z w
  made_by r s i x y z w q made least same = record {
    state = made.state;
    priority = made.priority;
    stands = made.stands;
    least = subst (λ (a : ℕ). IsLeastStep board a r s z w) same least;
    none_before = made.none_before;
  }

-- ## Two lists

module _ (board : Board) (one other : List Key) (is : IsInOrder board one) (too : IsInOrder board other) where
  carried : (n i q p : ℕ) → i < n → StandsAt one i (First q p) → (k : ℕ) × StandsAt other k (First q p)
  carried zero i q p less at = absurd (omega (arith, less))
  carried (suc n) i q p less at = elim (cases_eq i 0) [
    | inl start ↦
        let key : First board.auto.start 0 ≡ First q p =
        same_some (sym is.begins ∙ subst (λ (j : ℕ). StandsAt one j (First q p)) start at) in
        (0, subst (λ (k : Key). StandsAt other 0 k) key too.begins)
    | inr later ↦
        let made : IsMadeBelow board one q p i = is.made i q p (omega (arith, later)) at in
        let (k, there) = carried n made.index made.made.state made.made.priority (omega (arith, made.below, less))
        made.made.stands in
        stands_there other (First q p) (too.closed k made.made.state made.made.priority q p there
        (leads_of board one is q p made.index made.x made.y made.made))
  ]

-- a key of the first player, with its index in each of two lists
record Stands (one other : List Key) (i k q p : ℕ) : Type 0 where
  in_one : StandsAt one i (First q p)
  in_other : StandsAt other k (First q p)

-- where a key was made in one list
record Made (board : Board) (one other : List Key) (r s j : ℕ) : Type 0 where
  index : ℕ
  place : ℕ
  x : ℕ
  y : ℕ
  below : index < j
  made : IsMadeAt board one r s index x y
  at : Stands one other index place made.state made.priority

module _ (board : Board) (one other : List Key) (is : IsInOrder board one) (too : IsInOrder board other) where
  -- indices of two keys are equal in one list if they are in the other
  one_place : (i k q p j l r s : ℕ) → Stands one other i k q p → Stands one other j l r s → i ≡ j → k ≡ l
  one_place i k q p j l r s a b same =
      let key : First q p ≡ First r s =
      same_some (sym a.in_one ∙ ap (λ (x : ℕ). slice_get one x) same ∙ b.in_one) in
      once board other too k l (First r s) (subst (λ (x : Key). StandsAt other k x) key a.in_other) b.in_other

  same_state : (i k q p j l r s : ℕ) → Stands one other i k q p → Stands one other j l r s → i ≡ j → q ≡ r
  same_state i k q p j l r s a b same =
      same_states (same_some (sym a.in_one ∙ ap (λ (x : ℕ). slice_get one x) same ∙ b.in_one))

  made_of : (j r s : ℕ) → 0 < j → StandsAt one j (First r s) → Made board one other r s j
  made_of j r s positive at =
      let below : IsMadeBelow board one r s j = is.made j r s positive at in
      let made : IsMadeAt board one r s below.index below.x below.y = below.made in
      let (k, there) = carried board one other is too (suc below.index) below.index made.state made.priority
      (omega arith) made.stands in
      record {
        index = below.index;
        place = k;
        x = below.x;
        y = below.y;
        below = below.below;
        made = made;
        at = record { in_one = made.stands; in_other = there };
      }

turned : (one other : List Key) (i k q p : ℕ) → Stands one other i k q p → Stands other one k i q p
turned one other i k q p at = record { in_one = at.in_other; in_other = at.in_one }

module _ (board : Board) (one other : List Key) (is : IsInOrder board one) (too : IsInOrder board other) where
  -- no two keys, of which the first stands below n in the first list, stand the other way round in the other list
  NoneBelow : ℕ → Type 0
  NoneBelow n = (i k q p j l r s : ℕ) → i < n → Stands one other i k q p → Stands one other j l r s → i < j → l < k → ⊥

  -- so two keys that could be the other way round, but for equality, are equal
  settled : (n : ℕ) → NoneBelow n → (i k q p j l r s : ℕ) → i < n → Stands one other i k q p →
      Stands one other j l r s → i ≤ j → l ≤ k → (i ≡ j) × (k ≡ l)
  unfolding NoneBelow
  settled n none i k q p j l r s less a b rises falls = elim (cases_eq i j) [
    | inl same ↦ (same, one_place board one other is too i k q p j l r s a b same)
    | inr differ ↦ elim (cases_eq l k) [
      | inl same ↦ (
        sym (one_place board other one too is l j r s k i q p (turned one other j l r s b) (turned one other i k q p a)
            same),
        sym same,
      )
      | inr apart ↦ absurd (none i k q p j l r s less a b (omega (arith, rises, differ)) (omega (arith, falls, apart)))
    ]
  ]

  module _ (n : ℕ) (none : NoneBelow n) (i k q p j l r s : ℕ) (less : i < suc n) (a : Stands one other i k q p)
      (b : Stands one other j l r s) (rises : i < j) (falls : l < k) (one_positive : 0 < i) (two_positive : 0 < l)
    where
      -- where the two keys were made in the two lists
      c : Made board one other q p i
      c = made_of board one other is too i q p one_positive a.in_one

      d : Made board other one q p k
      d = made_of board other one too is k q p (omega (arith, falls)) a.in_other

      f : Made board one other r s j
      f = made_of board one other is too j r s (omega (arith, rises)) b.in_one

      e : Made board other one r s l
      e = made_of board other one too is l r s two_positive b.in_other

      c_below : c.index < n
      c_below = let below = c.below in omega (arith, below, less)

      -- both lists have the first key from one key
      same_maker : (c.index ≡ d.place) × (c.place ≡ d.index)
      same_maker = settled n none c.index c.place c.made.state c.made.priority d.place d.index d.made.state
          d.made.priority c_below c.at
          (turned other one d.index d.place d.made.state d.made.priority d.at)
          (made_first board one is q p c.index c.x c.y d.place d.made.state d.made.priority c.made d.at.in_other
          (leads_of board other too q p d.index d.x d.y d.made))
          (made_first board other too q p d.index d.x d.y c.place c.made.state c.made.priority d.made c.at.in_other
          (leads_of board one is q p c.index c.x c.y c.made))

      one_rises : c.index ≤ f.index
      one_rises = not_after c.index c.x c.y f.index f.x f.y
          (is.rising i j q p r s one_positive rises a.in_one b.in_one c.index c.x c.y f.index f.x f.y c.made f.made)

      other_rises : e.index ≤ d.index
      other_rises = not_after e.index e.x e.y d.index d.x d.y
          (too.rising l k r s q p two_positive falls b.in_other a.in_other e.index e.x e.y d.index d.x d.y e.made
          d.made)

      f_first : f.index ≤ e.place
      f_first = made_first board one is r s f.index f.x f.y e.place e.made.state e.made.priority f.made e.at.in_other
          (leads_of board other too r s e.index e.x e.y e.made)

      -- and the other key from the same one
      too_maker : (c.index ≡ e.place) × (c.place ≡ e.index)
      too_maker = settled n none c.index c.place c.made.state c.made.priority e.place e.index e.made.state
          e.made.priority c_below c.at (turned other one e.index e.place e.made.state e.made.priority e.at)
          (omega (arith, one_rises, f_first)) (omega (arith, other_rises, same_maker.1))

      one_index : c.index ≡ f.index
      one_index = omega (arith, one_rises, f_first, too_maker.0)

      other_index : e.index ≡ d.index
      other_index = omega (arith, same_maker.1, too_maker.1)

      states : c.made.state ≡ d.made.state
      states =
          same_state board one other is too c.index c.place c.made.state c.made.priority d.place d.index d.made.state
          d.made.priority c.at (turned other one d.index d.place d.made.state d.made.priority d.at) same_maker.0

      f_state : f.made.state ≡ e.made.state
      f_state = same_state board one other is too f.index f.place f.made.state f.made.priority e.place e.index
          e.made.state e.made.priority f.at (turned other one e.index e.place e.made.state e.made.priority e.at)
          (omega (arith, one_index, too_maker.0))

      inverted : ⊥
      inverted = clash c.index f.index e.index d.index c.x c.y f.x f.y one_index other_index
          (is.rising i j q p r s one_positive rises a.in_one b.in_one c.index c.x c.y f.index f.x f.y c.made f.made)
          (too.rising l k r s q p two_positive falls b.in_other a.in_other e.index f.x f.y d.index c.x c.y
          (made_by board other too r s e.index e.x e.y f.x f.y f.made.state e.made f.made.least f_state)
          (made_by board other too q p d.index d.x d.y c.x c.y c.made.state d.made c.made.least states))

  -- an index of the start is 0 in both lists
  start_first : (i k q p : ℕ) → Stands one other i k q p → i ≡ 0 → k ≡ 0
  start_first i k q p at zero_is = one_place board one other is too i k q p 0 0 board.auto.start 0 at
      (record { in_one = is.begins; in_other = too.begins }) zero_is

  no_inversion : (n : ℕ) → NoneBelow n
  unfolding NoneBelow
  no_inversion zero i k q p j l r s less a b rises falls = omega (arith, less)
  no_inversion (suc n) i k q p j l r s less a b rises falls = elim (cases_eq i 0) [
    | inl start ↦ omega (arith, falls, start_first i k q p a start)
    | inr later ↦ elim (cases_eq l 0) [
      | inl begins ↦ omega (arith, rises, first_start j l r s b begins)
      | inr follows ↦ inverted n (no_inversion n) i k q p j l r s less a b rises falls (omega (arith, later))
          (omega (arith, follows))
    ]
  ]
    where
      first_start : (j l r s : ℕ) → Stands one other j l r s → l ≡ 0 → j ≡ 0
      first_start j l r s at zero_is = one_place board other one too is l j r s 0 0 board.auto.start 0
          (turned one other j l r s at) (record { in_one = too.begins; in_other = is.begins }) zero_is

  kept_order : (i k q p j l r s : ℕ) → Stands one other i k q p → Stands one other j l r s → i < j → k < l
  unfolding NoneBelow
  kept_order i k q p j l r s a b rises = elim (cases_lt k l) [
    | inl less ↦ less
    | inr more ↦ elim (cases_eq l k) [
      | inl same ↦ absurd (omega (
        arith,
        rises,
        one_place board other one too is l j r s k i q p
            (turned one other j l r s b) (turned one other i k q p a) same,
      ))
      | inr differ ↦ absurd (no_inversion (suc i) i k q p j l r s (omega arith) a b rises (omega (arith, more, differ)))
    ]
  ]

module _ (board : Board) (one other : List Key) (is : IsInOrder board one) (too : IsInOrder board other) where
  keys_carried : (q p : ℕ) → Contains one (First q p) → Contains other (First q p)
  keys_carried q p inside =
      let (i, at) = stands_there one (First q p) inside in
      let (k, there) = carried board one other is too (suc i) i q p (omega arith) at in
      stands_in other k (First q p) there

pub numbered_alike : (board : Board) (one other : List Key) → IsInOrder board one → IsInOrder board other →
    AreNumberedAlike one other
numbered_alike board one other is too = record {
  keys = λ q p. (keys_carried board one other is too q p, keys_carried board other one too is q p);
  numbers = λ i j k l q p r s a b c d. (
    kept_order board one other is too i k q p j l r s (record { in_one = a; in_other = c })
        (record { in_one = b; in_other = d }),
    kept_order board other one too is k i q p l j r s (record { in_one = c; in_other = a })
        (record { in_one = d; in_other = b }),
  );
}
