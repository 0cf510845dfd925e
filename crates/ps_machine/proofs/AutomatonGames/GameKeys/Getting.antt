-- Several keys get their numbers one after another.
use Rattle.std.proofs.Common.{◌≡◌, ◌≢◌, ◌∙◌, ℕ, zero, suc, ◌+◌, ◌<◌, ◌≤◌, List, [], ◌∷◌, ◌++◌, length, take, get_or}
use Rattle.std.proofs.Common.{Result, add-one, ap, arith, inl, inr, get_or-take, length-take, refl, rules, sym, subst}
use Rattle.std.specs.List.{All, AllPairs, AllZip, Contains, range_with_len}
use Rattle.std.specs.Prelude.{OnOk}
use Rattle.std.proofs.lemmas.List.{append-nil, append_assoc, get_or_default, length-append, take_all, take_more}
use Rattle.std.proofs.lemmas.List.Elements.{All-append, All-nil, Contains-append_cases}
use Rattle.std.proofs.lemmas.Slice.Zip.{all_zipped_more}
use Rattle.ps_game.specs.Drafts.{distinct}
use Rattle.ps_machine.specs.Keys.{owner_of_key, priority_of_key}
use Rattle.ps_machine.specs.Numbering.{StandsAt}
use Rattle.ps_machine.specs.Inner.Exploring.{GetNumbers}
use Rattle.ps_machine.specs.Inner.Visits.{Came, Comes, DraftData, IsNumberOf, Visits}
use Rattle.ps_machine.specs.declared.key.Key.{Key}
use Rattle.ps_machine.specs.declared.key.Key.TheVariants.{First}
use Rattle.ps_machine.proofs.AutomatonGames.GameKeys.Standing.{range_more, stand-left, stand-within}
use Rattle.ps_machine.proofs.AutomatonGames.GameKeys.Visiting.{added_by, counted_more, different_more, from_more}
use Rattle.ps_machine.proofs.AutomatonGames.GameKeys.Visiting.{is_added, stands_now}

pub numbers_none : {old : List Key} → GetNumbers old [] [] old
numbers_none {old} = record {
  stand = tt;
  added = [];
  keys = sym (append-nil old);
  from_next = All-nil _;
  different = λ differ. differ;
  counted = λ list below e. ap distinct (append-nil list) ∙ e;
}

pub numbers_more : {old done : List Key} {numbers : List ℕ} {now : List Key} {k : Key} {n : ℕ} {new : List Key} →
    GetNumbers old done numbers now → IsNumberOf now k n new →
    GetNumbers old (done ++ k ∷ []) (numbers ++ n ∷ []) new
numbers_more {old} {done} {numbers} {now} {k} {n} {new} g is =
    let more = added_by is in
    let grown : new ≡ now ++ more = is_added is in
    let kept : AllZip (StandsAt new) numbers done =
    subst (λ keys. AllZip (StandsAt keys) numbers done) (sym grown) (stand-left now more numbers done g.stand) in
    record {
      stand = all_zipped_more (StandsAt new) numbers done n k kept (stands_now is);
      added = g.added ++ more;
      keys = grown ∙ ap (λ l. l ++ more) g.keys ∙ append_assoc old g.added more;
      from_next = from_more is done g.added g.from_next;
      different = λ differ. different_more is (g.different differ);
      counted = λ list below e. ap distinct (sym (append_assoc list numbers (n ∷ [])))
          ∙ counted_more (list ++ numbers) (below_now list below) (g.counted list below e) is;
    }
  where
    below_now : (list : List ℕ) → All (λ w. w < length old) list → All (λ w. w < length now) (list ++ numbers)
    below_now list below =
        let long : length old ≤ length now = omega (arith, ap length g.keys, length-append old g.added) in
        All-append (λ w. w < length now) list numbers
        (λ i d within. (let less = below i d within in omega (arith, less, long)))
        (stand-within now numbers done g.stand)

-- one iteration: the key at the index i of `next` gets its number
pub numbers_next : {old : List Key} (next : List Key) (i : ℕ) {numbers : List ℕ} {now : List Key} {k : Key} {n : ℕ}
    {new : List Key} → i < length next → get_or next i (First 0 0) ≡ k → GetNumbers old (take i next) numbers now →
    IsNumberOf now k n new → GetNumbers old (take (i + 1) next) (numbers ++ n ∷ []) new
numbers_next next i within is g number = rw (take_more next i (First 0 0) within) (rw is (numbers_more g number))

-- what follows from a fact that holds if a call succeeds
pub ok_then : {X E : Type 0} (r : Result X E) (P Q : Type 0) → OnOk r P → (P → Q) → OnOk r Q
ok_then r P Q one h = search rules

-- what follows from two facts that hold if a call succeeds
pub ok_both : {X E : Type 0} (r : Result X E) (P Q R : Type 0) → OnOk r P → OnOk r Q → (P → Q → R) → OnOk r R
ok_both r P Q R one two h = search rules

-- a visit adds a vertex whose successors are the numbers that were found
pub visits_found : {mover : ℕ} {old : DraftData} {key : Key} {next : List Key} {numbers : List ℕ} {new : DraftData} →
    GetNumbers old.keys next numbers new.keys → new.game ≡ old.game ++ record {
      owner = owner_of_key mover key;
      priority = priority_of_key key;
      successors = numbers;
    } ∷ [] → Visits mover old key next new
visits_found {numbers = numbers} g grown = record {
  numbers = numbers;
  game = grown;
  stand = g.stand;
  added = g.added;
  keys = g.keys;
  from_next = g.from_next;
  different = g.different;
  counted = g.counted;
}

take_to_next : (xs : List Key) (i : ℕ) → i < length xs → take (suc i) xs ≡ take i xs ++ get_or xs i (First 0 0) ∷ []
take_to_next xs i within = subst (λ n. take n xs ≡ take i xs ++ get_or xs i (First 0 0) ∷ []) (add-one i)
    (take_more xs i (First 0 0) within)

take_whole : (xs : List Key) → take (length xs) xs ≡ xs
take_whole xs = take_all (length xs) xs (omega arith)

-- keys that have successive numbers keep them
pub numbers_known : (keys next : List Key) (first : ℕ) → ((k : ℕ) → k < length next →
    StandsAt keys (first + k) (get_or next k (First 0 0))) →
    GetNumbers keys next (range_with_len first (length next)) keys
numbers_known keys next first stand = subst (λ l. GetNumbers keys l (range_with_len first (length next)) keys)
    (take_whole next) (go (length next) (omega arith))
  where
    go : (i : ℕ) → i ≤ length next → GetNumbers keys (take i next) (range_with_len first i) keys
    go zero within = numbers_none
    go (suc i) within = rw (take_to_next next i (omega arith), ← range_more first i)
        (numbers_more (go i (omega arith)) (Came (stand i (omega arith)) refl))

-- new keys get successive numbers
pub numbers_new : (keys next : List Key) → ((k : ℕ) → k < length next → Contains keys (get_or next k (First 0 0)) → ⊥) →
    AllPairs (λ x y. x ≢ y) next → GetNumbers keys next (range_with_len (length keys) (length next)) (keys ++ next)
numbers_new keys next absent differ =
    subst (λ l. GetNumbers keys l (range_with_len (length keys) (length next)) (keys ++ l)) (take_whole next)
    (go (length next) (omega arith))
  where
    fresh : (i : ℕ) → i < length next → Contains (keys ++ take i next) (get_or next i (First 0 0)) → ⊥
    fresh i within c = elim (Contains-append_cases keys (take i next) (get_or next i (First 0 0)) c) [
      | inl there ↦ absent i within there
      | inr (j, less, is) ↦
          let before : j < i = omega (arith, less, length-take i next) in
          let key = get_or next i (First 0 0) in
          differ j i (First 0 0) before within (sym (get_or-take i next j (First 0 0) before)
          ∙ get_or_default (take i next) j (First 0 0) key less ∙ is)
    ]

    go : (i : ℕ) → i ≤ length next →
        GetNumbers keys (take i next) (range_with_len (length keys) i) (keys ++ take i next)
    go zero within = rw (append-nil keys) numbers_none
    go (suc i) within =
        let less : i < length next = omega (arith, within) in
        rw (take_to_next next i less, ← range_more (length keys) i) (numbers_more (go i (omega (arith, within)))
        (Comes (fresh i less) (omega (arith, length-append keys (take i next), length-take i next))
        (sym (append_assoc keys (take i next) (get_or next i (First 0 0) ∷ [])))))
