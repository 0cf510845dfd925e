-- Letters are divided into classes by rows of leaves: two letters are in one class if they have the same row.
use Rattle.std.proofs.Common.{◌≡◌, ◌∙◌, ℕ, ◌+◌, ◌<◌, ◌≤◌, List, [], ◌∷◌, ◌++◌, length, get_or, ap}
use Rattle.std.proofs.Common.{arith, inl, inr, refl, subst, sym}
use Rattle.std.specs.List.{All, Contains}
use Rattle.std.specs.Option.{unwrap_or}
use Rattle.std.proofs.lemmas.Bool.{cases_lt}
use Rattle.std.proofs.lemmas.List.{get_or_default, get_or-map, length-append, length-map, map_push}
use Rattle.std.proofs.lemmas.List.Elements.{All-push}
use Rattle.std.proofs.Math.ListN.{get_or-append}
use Rattle.std.proofs.Math.Seq.{get_or-append_seam}
use Rattle.ps_automaton.specs.Automata.{AutomatonData, IsWhole, pair_of}
use Rattle.ps_machine.specs.Boards.{Board, IsClassLetter, IsListOf, IsSecondLetter, SameSteps}
use Rattle.ps_machine.specs.BuiltBoards.{board_of}
use Rattle.ps_machine.specs.Inner.ByLetters.{AreLeast, Grows, IsAdded, IsDividing, IsForLetters, IsRow, IsTried}
use Rattle.ps_machine.specs.Inner.ByLetters.{Stays, key_of}
use Rattle.ps_machine.specs.Inner.Exploring.{AreLeavesBehind}
use Rattle.ps_machine.specs.Inner.Moving.{leaf_key, leaf_keys, step_key}
use Rattle.ps_machine.specs.declared.key.Key.TheVariants.{First, Second}
use Rattle.ps_machine.specs.declared.key.Order.{Order}
use Rattle.ps_machine.specs.declared.letters.LetterMoves.{LetterMoves}
use Rattle.ps_machine.proofs.AutomatonGames.BoardSteps.{step_of_key}
use Rattle.ps_machine.proofs.LettersOneByOne.ByLetters.{AreKeysOfLeast, keys_all, keys_more, keys_skip, leaf_within}
use Rattle.ps_machine.proofs.LettersOneByOne.ByLetters.{least_all}
use Rattle.ps_machine.proofs.LettersOneByOne.ByLetters.{least_more, least_skip, rows_same, same_rows}

-- ## One more letter

module _ {start m : LetterMoves} {q tried x : ℕ} {letters row : List ℕ} (d : IsDividing start m q tried letters)
    (next : IsTried start tried x) (state : q ≤ start.automaton.now.states)
    (is : IsRow start.automaton.now start.seconds.items q x row) where
  state_of : {order : Order} {a : AutomatonData} → IsForLetters order a start → q ≤ a.states
  state_of f = subst (λ (b : AutomatonData). q ≤ b.states) f.same state

  row_of : {order : Order} {a : AutomatonData} (w : ℕ) {other : List ℕ} → IsForLetters order a start →
      IsRow start.automaton.now start.seconds.items q w other → IsRow a start.seconds.items q w other
  row_of w {other} f r = subst (λ (b : AutomatonData). IsRow b start.seconds.items q w other) f.same r

  -- the row of the letter is there already
  pub dividing_skip : (k : ℕ) → k < length letters →
      get_or m.rows.items (length start.rows.items + k) [] ≡ row → IsDividing start m q (tried + 1) letters
  dividing_skip k within same = record {
    firsts = d.firsts;
    seconds = d.seconds;
    automaton = d.automaton;
    many = d.many;
    before = d.before;
    rows = d.rows;
    least = λ order a f. least_skip (board_of order a) (First q 0) x next.is (d.least order a f) (
      k,
      get_or letters k 0,
      within,
      get_or_default letters k (get_or letters k 0) 0 within,
      rows_same order a q f.whole (state_of f) f.seconds (row_of x f is)
          (row_of (get_or letters k 0) f (d.rows k within))
          (sym same),
    );
  }

  -- the row of the letter is new
  module _ (new : LetterMoves) (none : (k : ℕ) → k < length letters →
      get_or m.rows.items (length start.rows.items + k) [] ≡ row → ⊥) (rows : new.rows.items ≡ m.rows.items ++ row ∷ [])
    where
      old_row : (k : ℕ) → k < length m.rows.items → get_or new.rows.items k [] ≡ get_or m.rows.items k []
      old_row k lt = ap (λ l. get_or l k []) rows ∙ get_or-append m.rows.items (row ∷ []) [] k lt

      new_row : get_or new.rows.items (length m.rows.items) [] ≡ row
      new_row = ap (λ l. get_or l (length m.rows.items) []) rows ∙ get_or-append_seam m.rows.items row [] []

      row_at : (k : ℕ) → k < length (letters ++ x ∷ []) → IsRow start.automaton.now start.seconds.items q
          (get_or (letters ++ x ∷ []) k 0) (get_or new.rows.items (length start.rows.items + k) [])
      row_at k lt = elim (cases_lt k (length letters)) [
        | inl less ↦ rw (
          get_or-append letters (x ∷ []) 0 k less,
          old_row (length start.rows.items + k)
              (omega (arith, less, d.many)),
        ) (d.rows k less)
        | inr more ↦
            let last : k ≡ length letters = omega (arith, more, lt, length-append letters (x ∷ [])) in
            let place : length start.rows.items + k ≡ length m.rows.items = omega (arith, last, d.many) in
            rw (place, last, get_or-append_seam letters x [] 0, new_row) is
      ]

      pub dividing_more : new.firsts ≡ m.firsts → new.seconds ≡ m.seconds → new.automaton ≡ m.automaton →
          IsDividing start new q (tried + 1) (letters ++ x ∷ [])
      dividing_more firsts seconds automaton = record {
        firsts = rw firsts d.firsts;
        seconds = rw seconds d.seconds;
        automaton = rw automaton d.automaton;
        many = omega (
          arith,
          ap length rows,
          length-append m.rows.items (row ∷ []),
          length-append letters (x ∷ []),
          d.many,
        );
        before = λ k lt. old_row k (omega (arith, lt, d.many)) ∙ d.before k lt;
        rows = row_at;
        least = λ order a f. least_more (board_of order a) (First q 0) x next.is (d.least order a f) f.firsts
            next.within (λ any. none any.0 any.2 (same_rows order a q f.whole (state_of f) f.seconds (row_of x f is)
            (row_of (get_or letters any.0 0) f (d.rows any.0 any.2)) (
            let w : any.1 ≡ get_or letters any.0 0 = sym any.3 ∙ get_or_default letters any.0 any.1 0 any.2 in
            subst (λ w. SameSteps (board_of order a) q w x) w any.4)));
      }

-- ## All letters

-- once all letters were tried, the kept letters are the least letters of the classes
pub divided_listed : {start m : LetterMoves} {q tried : ℕ} {letters : List ℕ} →
    IsDividing start m q tried letters → {order : Order} {a : AutomatonData} → tried ≡ length start.firsts.items →
    IsForLetters order a start → IsListOf (IsClassLetter (board_of order a) q) letters
divided_listed {start} {q = q} {letters = letters} d {order} {a} all f =
    least_all (board_of order a) (First q 0) f.firsts
    (subst (λ n. AreLeast (board_of order a) (First q 0) start.firsts.items n letters) all (d.least order a f))

-- ## The leaves behind a class

module _ (order : Order) (a : AutomatonData) (q x : ℕ) {seconds row : List ℕ} (whole : IsWhole a) (state : q ≤ a.states)
    (listed : IsListOf (IsSecondLetter (board_of order a)) seconds) (r : IsRow a seconds q x row) where
  abbrev board : Board
  board = board_of order a

  -- the leaves stand for the steps behind the first letters of the second player
  pub record AreLeavesOf (tried : ℕ) (leaves : List ℕ) : Type 0 where
    pub keys : AreKeysOfLeast board q x seconds tried (leaf_keys a leaves)
    pub named : All (λ leaf. leaf < length a.steps) leaves

  module _ (at : ℕ) (within : at < length seconds) where
    key_is : key_of board (Second q x) (get_or seconds at 0) ≡ leaf_key a (get_or row at 0)
    key_is = ap (λ o. step_key (pair_of a (unwrap_or o (length a.steps)))) (r.leaves at within)

    named_leaf : get_or row at 0 < length a.steps
    named_leaf = leaf_within order a q whole state listed (x + get_or seconds at 0) (r.leaves at within)

    key_among : (leaves : List ℕ) → Contains leaves (get_or row at 0) →
        Contains (leaf_keys a leaves) (leaf_key a (get_or row at 0))
    key_among leaves c = (
      c.0,
      omega (arith, c.1, length-map leaves (λ l. leaf_key a l)),
      get_or-map (λ l. leaf_key a l) leaves c.0 (get_or row at 0) (leaf_key a (get_or row at 0)) c.1
          ∙ ap (λ l. leaf_key a l) c.2,
    )

    leaf_among : (leaves : List ℕ) → All (λ l. l < length a.steps) leaves →
        Contains (leaf_keys a leaves) (leaf_key a (get_or row at 0)) → Contains leaves (get_or row at 0)
    leaf_among leaves named c =
        let inside : c.0 < length leaves = omega (arith, c.1, length-map leaves (λ l. leaf_key a l)) in
        let e : leaf_key a (get_or leaves c.0 (get_or row at 0)) ≡ leaf_key a (get_or row at 0) =
        sym (get_or-map (λ l. leaf_key a l) leaves c.0 (get_or row at 0) (leaf_key a (get_or row at 0)) inside) ∙ c.2 in (
          c.0,
          inside,
          whole.once (get_or leaves c.0 (get_or row at 0)) (get_or row at 0)
              (named c.0 (get_or row at 0) inside) named_leaf (step_of_key e),
        )

    pub leaves_more : {old new : List ℕ} → AreLeavesOf at old → IsAdded old (get_or row at 0) new →
        AreLeavesOf (at + 1) new
    leaves_more {old} were (Stays there same) = rw same (record {
      keys = keys_skip board q x (get_or seconds at 0) refl were.keys
          (subst (Contains (leaf_keys a old)) (sym key_is) (key_among old there));
      named = were.named;
    })
    leaves_more {old} were (Grows absent grown) = rw grown (record {
      keys = subst (λ l. AreKeysOfLeast board q x seconds (at + 1) l)
          (ap (λ k. leaf_keys a old ++ k ∷ []) key_is
          ∙ sym (map_push (λ l. leaf_key a l) old (get_or row at 0)))
          (keys_more board q x (get_or seconds at 0) refl were.keys listed within
          (λ c. absent (leaf_among old were.named
          (subst (Contains (leaf_keys a old)) key_is c))));
      named = All-push (λ l. l < length a.steps) old (get_or row at 0) were.named named_leaf;
    })

  pub leaves_all : {tried : ℕ} {leaves : List ℕ} → tried ≡ length seconds → AreLeavesOf tried leaves →
      AreLeavesBehind order a q x leaves
  leaves_all {leaves = leaves} all are = record {
    named = are.named;
    leads = keys_all board q x listed
        (subst (λ n. AreKeysOfLeast board q x seconds n (leaf_keys a leaves)) all are.keys);
  }
