-- The successors of a game's vertex are found by trying each letter; of the letters that lead to the same steps, the
-- least one is kept.
use Rattle.std.proofs.Common.{◌≡◌, ◌≢◌, ◌∙◌, inl, inr, ℕ, ◌+◌, ◌^◌, ◌<◌, ◌≤◌, not, List, [], ◌∷◌, ◌++◌, length}
use Rattle.std.proofs.Common.{Some, map, get_or, ap, sym, subst, refl, arith, rules}
use Rattle.std.specs.List.{All, AllPairs, Contains}
use Rattle.std.specs.Prelude.{Any}
use Rattle.std.proofs.lemmas.Bool.{cases_lt}
use Rattle.std.proofs.lemmas.Grind.{same_number_lists}
use Rattle.std.proofs.lemmas.List.{get_or_default, get_or-map, length-map, map_push}
use Rattle.std.proofs.lemmas.List.Elements.{All-map, All-nil, All-push, Contains-append_left, Contains-push}
use Rattle.std.proofs.lemmas.List.Quantifiers.{all_pairs_push}
use Rattle.std.proofs.lemmas.Nat.{pow_below}
use Rattle.ps_automaton.specs.Automata.{AutomatonData, IsWhole, node_of}
use Rattle.ps_diagram.specs.Letters.{IsBefore}
use Rattle.ps_diagram.specs.Table.{leaf_of}
use Rattle.ps_diagram.proofs.NodeTables.KnownLemmas.{some_nat}
use Rattle.ps_machine.specs.Boards.{IsListOf, Board, IsFirstLetter, IsSecondLetter, LeadsTo, SameStep, SameSteps}
use Rattle.ps_machine.specs.BuiltBoards.{board_of}
use Rattle.ps_machine.specs.Inner.ByLetters.{Alike, AreLeast, CanOccur, IsLeastOwn, IsOwn, IsRow, key_of}
use Rattle.ps_machine.specs.declared.key.Key.{Key}
use Rattle.ps_machine.specs.declared.key.Key.TheVariants.{First, Second}
use Rattle.ps_machine.specs.declared.key.Order.{Order}
use Rattle.ps_machine.proofs.AutomatonGames.BoardLetters.{neither_before, not_before_itself, sum_within}
use Rattle.ps_machine.proofs.AutomatonGames.BoardSteps.{pairs_map, same_option, same_pair, same_step, second_same}
use Rattle.ps_machine.proofs.AutomatonGames.BoardSteps.{some_of}
use Rattle.ps_machine.proofs.AutomatonGames.DecidedMoves.{class_there, move_there, over_first, over_second, part_over}
use Rattle.ps_machine.proofs.AutomatonGames.DecidedMoves.{same_priorities}
use Rattle.ps_machine.proofs.AutomatonGames.DecidedMoves.{same_states, steps_sym, steps_trans}
use Rattle.ps_machine.proofs.AutomatonGames.LeastLetters.{before_ranks}

-- ## Letters that lead to the same steps

pub alike_same : (board : Board) (key : Key) (x : ℕ) → Alike board key x x
alike_same board (First q p) x = λ y second. record { state = refl; priority = refl }
alike_same board (Second q z) x = record { state = refl; priority = refl }

alike_sym : (board : Board) (key : Key) (x y : ℕ) → Alike board key x y → Alike board key y x
alike_sym board (First q p) x y same = steps_sym board q x y same
alike_sym board (Second q z) x y same = record { state = sym same.state; priority = sym same.priority }

alike_trans : (board : Board) (key : Key) (x y z : ℕ) → Alike board key x y → Alike board key y z → Alike board key x z
alike_trans board (First q p) x y z one other = steps_trans board q x y z one other
alike_trans board (Second q w) x y z one other =
    record { state = one.state ∙ other.state; priority = one.priority ∙ other.priority }

own_within : (board : Board) (key : Key) (x : ℕ) → IsOwn board key x → x < 2 ^ board.propositions
own_within board (First q p) x own = own.within
own_within board (Second q z) x own = own.within

-- ## Sums of letters

power_le : (i j : ℕ) → i ≤ j → 2 ^ i ≤ 2 ^ j
power_le i j le = search (rules, cases_lt, pow_below)

-- the sum of a letter of the first player and a letter of the second player fits into 64 bits
pub fits_sum : (order : Order) (a : AutomatonData) {x y : ℕ} → IsWhole a → IsFirstLetter (board_of order a) x →
    IsSecondLetter (board_of order a) y → x + y < 2 ^ 64
fits_sum order a {x} {y} whole first second =
    let sum = sum_within (board_of order a) first second in
    let few = power_le (length a.names) 64 whole.few_names in
    omega (arith, sum, few)

-- two letters of the first player lead to the same steps if they do so with each listed letter of the second player
steps_all : (board : Board) (q one other : ℕ) {ys : List ℕ} → IsListOf (IsSecondLetter board) ys →
    ((k : ℕ) → k < length ys → SameStep board q (one + get_or ys k 0) (other + get_or ys k 0)) →
    SameSteps board q one other
steps_all board q one other {ys} l each y second =
    let c = l.complete y second in
    subst (λ z. SameStep board q (one + z) (other + z)) (get_or_default ys c.0 0 y c.1 ∙ c.2) (each c.0 c.1)

module _ (board : Board) (key : Key) where
  pub least_none : (xs : List ℕ) → AreLeast board key xs 0 []
  least_none xs = record {
    each = All-nil _;
    from = All-nil _;
    covers = λ j lt. absurd (omega (arith, lt));
    rising = λ i j d less lt. absurd (omega (arith, lt));
  }

  any_contains : (x : ℕ) (found : List ℕ) → Any (λ w. Alike board key w x) found →
      (w : ℕ) × Contains found w × Alike board key w x
  any_contains x found any = (any.1, (any.0, any.2, any.3), any.4)

  contains_any : (x : ℕ) (found : List ℕ) (w : ℕ) → Contains found w → Alike board key w x →
      Any (λ w. Alike board key w x) found
  contains_any x found w c alike = (c.0, w, c.1, c.2, alike)

  module _ {xs : List ℕ} {i : ℕ} {found : List ℕ} (x : ℕ) (is : get_or xs i 0 ≡ x)
      (least : AreLeast board key xs i found) where
    older : All (λ w. (j : ℕ) × (j < i + 1) × (get_or xs j 0 ≡ w)) found
    older n d lt = let f = least.from n d lt in (f.0, omega (arith, f.1), f.2)

    -- if an earlier kept letter leads to the same steps, the tried letter is not kept
    pub least_skip : Any (λ w. Alike board key w x) found → AreLeast board key xs (i + 1) found
    least_skip any = record {
      each = least.each;
      from = older;
      covers = λ j lt. elim (cases_lt j i) [
        | inl less ↦ least.covers j less
        | inr last ↦
            let same : j ≡ i = omega (arith, lt, last) in
            let c = any_contains x found any in
            (c.0, c.1, subst (Alike board key c.0) (sym (ap (λ n. get_or xs n 0) same ∙ is)) c.2)
      ];
      rising = least.rising;
    }

    module _ (l : IsListOf (IsOwn board key) xs) (inside : i < length xs)
        (none : Any (λ w. Alike board key w x) found → ⊥) where
      own : IsOwn board key x
      own = subst (IsOwn board key) is (l.each i 0 inside)

      is_least : IsLeastOwn board key x
      is_least = record {
        here = (own, alike_same board key x);
        none_before = λ o at before.
            let c = l.complete o at.0 in
            let there : get_or xs c.0 0 ≡ o = get_or_default xs c.0 0 o c.1 ∙ c.2 in
            elim (cases_lt c.0 i) [
              | inl less ↦
                  let w = least.covers c.0 less in
                  none (contains_any x found w.0 w.1
                  (alike_trans board key w.0 o x (subst (Alike board key w.0) there w.2) at.1))
              | inr more ↦ elim (cases_lt i c.0) [
                | inl later ↦
                    let after = subst (λ y. IsBefore y o) is
                    (subst (IsBefore (get_or xs i 0)) there (l.rising i c.0 0 later c.1)) in
                    let n = board.propositions in
                    let up = before_ranks n (own_within board key x own) before in
                    let down = before_ranks n (own_within board key o at.0) after in
                    omega (arith, up, down)
                | inr not_later ↦
                    let same : c.0 ≡ i = omega (arith, more, not_later) in
                    not_before_itself (subst (λ y. IsBefore y x) (sym there ∙ ap (λ n. get_or xs n 0) same ∙ is) before)
              ]
            ];
      }

      -- if no earlier kept letter leads to the same steps, the tried letter is kept
      pub least_more : AreLeast board key xs (i + 1) (found ++ x ∷ [])
      least_more = record {
        each = All-push (IsLeastOwn board key) found x least.each is_least;
        from = All-push (λ w. (j : ℕ) × (j < i + 1) × (get_or xs j 0 ≡ w)) found x older (i, omega arith, is);
        covers = λ j lt. elim (cases_lt j i) [
          | inl less ↦ let w = least.covers j less in (w.0, Contains-append_left found (x ∷ []) w.0 w.1, w.2)
          | inr last ↦
              let same : j ≡ i = omega (arith, lt, last) in (
                x,
                Contains-push found x,
                subst (Alike board key x) (sym (ap (λ n. get_or xs n 0) same ∙ is))
                    (alike_same board key x),
              )
        ];
        rising = all_pairs_push IsBefore found x least.rising (λ n d lt. (let f = least.from n d lt in
            subst (λ w. IsBefore w x) f.2 (subst (IsBefore (get_or xs f.0 0)) is (l.rising f.0 i 0 f.1 inside))));
      }

  pub least_all : {xs found : List ℕ} → IsListOf (IsOwn board key) xs → AreLeast board key xs (length xs) found →
      IsListOf (IsLeastOwn board key) found
  least_all {xs} {found} l least = record {
    each = least.each;
    complete = λ x is.
        let c = l.complete x is.here.0 in
        let w = least.covers c.0 c.1 in
        let alike : Alike board key w.0 x = subst (Alike board key w.0) (get_or_default xs c.0 0 x c.1 ∙ c.2) w.2 in
        let of_w : IsLeastOwn board key w.0 = subst (IsLeastOwn board key) w.1.2 (least.each w.1.0 w.0 w.1.1) in
        let same : w.0 ≡ x = neither_before board.propositions (own_within board key w.0 of_w.here.0)
        (own_within board key x is.here.0) (λ before. is.none_before w.0 (of_w.here.0, alike) before)
        (λ before. of_w.none_before x (is.here.0, alike_sym board key w.0 x alike) before) in
        subst (Contains found) same w.1;
    rising = least.rising;
  }

-- ## The keys behind a letter of the first player

-- after i letters of the list were tried, the keys are those to which the least letters of their classes lead
pub record AreKeysOfLeast (board : Board) (q x : ℕ) (ys : List ℕ) (i : ℕ) (keys : List Key) : Type 0 where
  pub found : List ℕ
  pub least : AreLeast board (Second q x) ys i found
  pub are : keys ≡ map (key_of board (Second q x)) found

module _ (board : Board) (q x : ℕ) where
  abbrev behind : ℕ → Key
  behind = key_of board (Second q x)

  pub keys_none : (ys : List ℕ) → AreKeysOfLeast board q x ys 0 []
  keys_none ys = record { found = []; least = least_none board (Second q x) ys; are = refl }

  alike_of_key : (w y : ℕ) → behind w ≡ behind y → SameStep board q (x + w) (x + y)
  alike_of_key w y e = record { state = same_states e; priority = same_priorities e }

  key_of_alike : (w y : ℕ) → SameStep board q (x + w) (x + y) → behind w ≡ behind y
  key_of_alike w y same = cc (same.state, same.priority)

  any_of_key : (found : List ℕ) (y : ℕ) → Contains (map behind found) (behind y) →
      Any (λ w. Alike board (Second q x) w y) found
  any_of_key found y c =
      let n = c.0 in
      let within : n < length found = omega (arith, c.1, length-map found behind) in
      let w = get_or found n 0 in (
        n,
        w,
        within,
        sym (get_or_default found n 0 w within),
        alike_of_key w y (sym (get_or-map behind found n 0 (behind y) within) ∙ c.2),
      )

  key_of_any : (found : List ℕ) (y : ℕ) → Any (λ w. Alike board (Second q x) w y) found →
      Contains (map behind found) (behind y)
  key_of_any found y any =
      let n = any.0 in
      let w = any.1 in
      let within : n < length (map behind found) = omega (arith, any.2, length-map found behind) in
      (n, within, get_or-map behind found n w (behind y) any.2 ∙ ap behind any.3 ∙ key_of_alike w y any.4)

  module _ {ys : List ℕ} {i : ℕ} {keys : List Key} (y : ℕ) (is : get_or ys i 0 ≡ y)
      (kept : AreKeysOfLeast board q x ys i keys) where
    pub keys_skip : Contains keys (behind y) → AreKeysOfLeast board q x ys (i + 1) keys
    keys_skip c = record {
      found = kept.found;
      least = least_skip board (Second q x) y is kept.least
          (any_of_key kept.found y (subst (λ l. Contains l (behind y)) kept.are c));
      are = kept.are;
    }

    pub keys_more : IsListOf (IsSecondLetter board) ys → i < length ys → (Contains keys (behind y) → ⊥) →
        AreKeysOfLeast board q x ys (i + 1) (keys ++ behind y ∷ [])
    keys_more l inside none = record {
      found = kept.found ++ y ∷ [];
      least = least_more board (Second q x) y is kept.least l inside
          (λ any. none (subst (λ l. Contains l (behind y)) (sym kept.are) (key_of_any kept.found y any)));
      are = ap (λ l. l ++ behind y ∷ []) kept.are ∙ sym (map_push behind kept.found y);
    }

  pub keys_all : {ys : List ℕ} {keys : List Key} → IsListOf (IsSecondLetter board) ys →
      AreKeysOfLeast board q x ys (length ys) keys → LeadsTo board (Second q x) keys
  keys_all l kept = (kept.found, least_all board (Second q x) l kept.least, kept.are)

-- ## The successors, by the least letters

some_letter : (board : Board) (key : Key) {letters : List ℕ} → IsListOf (IsLeastOwn board key) letters →
    0 < length letters
some_letter board (First q p) l =
    let class = class_there board q (over_first board (part_over board.propositions board.is_first 0)) in
    let there = l.complete class.0 class.1 in
    omega (arith, there.1)
some_letter board (Second q x) l =
    let move = move_there board x (over_second board (part_over board.propositions (λ p. not (board.is_first p)) 0)) in
    let there = l.complete move.0 move.1 in
    omega (arith, there.1)

some_key : (board : Board) (key : Key) {letters : List ℕ} {next : List Key} →
    IsListOf (IsLeastOwn board key) letters → next ≡ map (key_of board key) letters → 0 < length next
some_key board key {letters} l is =
    let some = some_letter board key l in
    rw is (omega (arith, some, length-map letters (key_of board key)))

keys_apart : (board : Board) (key : Key) (x y : ℕ) → IsLeastOwn board key x → IsLeastOwn board key y → IsBefore x y →
    key_of board key x ≡ key_of board key y → ⊥
keys_apart board (First q p) x y one other before e =
    not_before_itself (subst (λ z. IsBefore z y) (second_same e) before)
keys_apart board (Second q z) x y one other before e = other.none_before x
    (one.here.0, record { state = same_states e; priority = same_priorities e }) before

keys_differ : (board : Board) (key : Key) {letters : List ℕ} {next : List Key} →
    IsListOf (IsLeastOwn board key) letters → next ≡ map (key_of board key) letters → AllPairs (λ x y. x ≢ y) next
keys_differ board key {letters} l is = rw is (pairs_map (λ x y. x ≢ y) (key_of board key) letters 0
    (λ i j less within. keys_apart board key (get_or letters i 0) (get_or letters j 0)
    (l.each i 0 (omega (arith, less, within))) (l.each j 0 within) (l.rising i j 0 less within)))

pub leads_some : (board : Board) (key : Key) (next : List Key) → LeadsTo board key next → 0 < length next
leads_some board (First q p) next leads = some_key board (First q p) leads.1 leads.2
leads_some board (Second q x) next leads = some_key board (Second q x) leads.1 leads.2

pub leads_differ : (board : Board) (key : Key) (next : List Key) → LeadsTo board key next →
    AllPairs (λ x y. x ≢ y) next
leads_differ board (First q p) next leads = keys_differ board (First q p) leads.1 leads.2
leads_differ board (Second q x) next leads = keys_differ board (Second q x) leads.1 leads.2

pub classes_occur : (board : Board) (q : ℕ) (next : List Key) → q ≤ board.states → LeadsTo board (First q 0) next →
    All (CanOccur board) next
classes_occur board q next within leads =
    rw leads.2 (All-map (CanOccur board) (λ x. Second q x) leads.0 (λ n d lt. within))

-- ## Rows of leaves

module _ (order : Order) (a : AutomatonData) {seconds : List ℕ} (q : ℕ) (whole : IsWhole a) (state : q ≤ a.states)
    (listed : IsListOf (IsSecondLetter (board_of order a)) seconds) where
  pub leaf_within : (x : ℕ) {leaf : ℕ} → leaf_of a.store (node_of a q) x ≡ Some leaf → leaf < length a.steps
  leaf_within x e = search (rules, whole.leaves, some_of)

  pub rows_same : {x w : ℕ} {row other : List ℕ} → IsRow a seconds q x row → IsRow a seconds q w other → row ≡ other →
      SameSteps (board_of order a) q w x
  rows_same {x} {w} one two e = steps_all (board_of order a) q w x listed (λ k lt. same_step order a
      (two.leaves k lt ∙ ap (λ r. Some (get_or r k 0)) (sym e) ∙ sym (one.leaves k lt)))

  leaf_same : {x w : ℕ} → SameStep (board_of order a) q w x →
      leaf_of a.store (node_of a q) w ≡ leaf_of a.store (node_of a q) x
  leaf_same {x} {w} s = search (rules, same_option, same_pair)

  entry_same : {x w : ℕ} {row other : List ℕ} → IsRow a seconds q x row → IsRow a seconds q w other →
      SameSteps (board_of order a) q w x → (k : ℕ) → get_or other k 0 ≡ get_or row k 0
  entry_same {row = row} {other} one two same k = elim (cases_lt k (length seconds)) [
    | inl lt ↦ some_nat (get_or other k 0) (get_or row k 0)
        (sym (two.leaves k lt) ∙ leaf_same (same (get_or seconds k 0) (listed.each k 0 lt))
        ∙ one.leaves k lt)
    | inr ge ↦ two.rest k (omega arith) ∙ sym (one.rest k (omega arith))
  ]

  pub same_rows : {x w : ℕ} {row other : List ℕ} → IsRow a seconds q x row → IsRow a seconds q w other →
      SameSteps (board_of order a) q w x → other ≡ row
  same_rows {row = row} {other} one two same = same_number_lists other row (two.long ∙ sym one.long)
      (λ k lt. entry_same one two same k)
