-- The table that gives the numbers of the vertices that stand for the classes of a state.
use Rattle.std.proofs.Common.{◌≡◌, ◌≢◌, ◌∙◌, ℕ, suc, ◌+◌, ◌-◌, ◌<◌, ◌≤◌, List, [], ◌∷◌, ◌++◌, length, map}
use Rattle.std.proofs.Common.{ap, arith, get_or, inl, inr, refl, set, sym, subst, zero-add}
use Rattle.std.specs.List.{AllPairs, Contains, range_with_len}
use Rattle.std.proofs.lemmas.Bool.{cases_eq, cases_lt}
use Rattle.std.proofs.lemmas.List.{get_or-map, get_or-set_other, get_or-set_same, get_or_default}
use Rattle.std.proofs.lemmas.List.{length-map, length-set}
use Rattle.std.proofs.lemmas.List.Elements.{All-map, Contains-append_cases, Contains-get_or}
use Rattle.std.proofs.lemmas.Option.{get_or_from_slice_get, slice_get-get_or, slice_get_within}
use Rattle.ps_automaton.specs.Automata.{AutomatonData, IsWhole}
use Rattle.ps_machine.specs.Boards.{Board, IsClassLetter, IsListOf, LeadsTo}
use Rattle.ps_machine.specs.BuiltBoards.{board_of}
use Rattle.ps_machine.specs.Numbering.{StandsAt}
use Rattle.ps_machine.specs.Inner.ByLetters.{CanOccur}
use Rattle.ps_machine.specs.Inner.Exploring.{AreLeavesBehind, AreNumbers, AreSpans, AreStepNumbers, FindsSuccessors}
use Rattle.ps_machine.specs.Inner.Exploring.{GetNumbers, IsEntered, IsSpan, no_span}
use Rattle.ps_machine.specs.Inner.Moving.{leaf_key, leaf_keys}
use Rattle.ps_machine.specs.declared.key.Key.{Key}
use Rattle.ps_machine.specs.declared.key.Key.TheVariants.{First, Second}
use Rattle.ps_machine.specs.declared.key.Order.{Order}
use Rattle.ps_machine.specs.declared.numbers.Numbers.{Numbers}
use Rattle.ps_machine.specs.declared.numbers.Span.{Span}
use Rattle.ps_machine.proofs.LettersOneByOne.ByLetters.{classes_occur, leads_differ, leads_some}
use Rattle.ps_machine.proofs.AutomatonGames.GameKeys.Getting.{numbers_known, numbers_new}
use Rattle.ps_machine.proofs.AutomatonGames.GameKeys.StepNumbers.{steps_still}
use Rattle.ps_machine.proofs.AutomatonGames.GameKeys.Standing.{no_second, class_letter}
use Rattle.ps_diagram.proofs.ClassesOfLetters.Distinct.{at_left}

abbrev class_keys : ℕ → List ℕ → List Key
class_keys q letters = map (λ x. Second q x) letters

class_key_at : (q : ℕ) (letters : List ℕ) (k : ℕ) (d : Key) → k < length letters →
    get_or (class_keys q letters) k d ≡ Second q (get_or letters k 0)
class_key_at q letters k d within = get_or-map (λ x. Second q x) letters k 0 d within

class_state : {q r x y : ℕ} → Second q x ≡ Second r y → q ≡ r
class_state e = cc

-- a class that is among the keys of a state's classes is one of the state's classes
class_among : (q r x : ℕ) (letters : List ℕ) → Contains (class_keys q letters) (Second r x) →
    (q ≡ r) × Contains letters x
class_among q r x letters c =
    let within : c.0 < length letters = omega (arith, c.1, length-map letters (λ y. Second q y)) in
    let e : Second q (get_or letters c.0 0) ≡ Second r x = sym (class_key_at q letters c.0 (Second r x) within) ∙ c.2 in
    (class_state e, (c.0, within, get_or_default letters c.0 x 0 within ∙ class_letter e))

none_in_none : (letters : List ℕ) (x : ℕ) → length letters ≡ 0 → Contains letters x → ⊥
none_in_none letters x none c = omega (arith, none, c.1)

stand_at_end : (keys next : List Key) (k : ℕ) → k < length next →
    StandsAt (keys ++ next) (length keys + k) (get_or next k (First 0 0))
stand_at_end [] next k within = rw zero-add (slice_get-get_or next k (First 0 0) within)
stand_at_end (x ∷ keys) next k within =
    let e : suc (length keys + k) ≡ suc (length keys) + k = omega arith in
    subst (λ n. StandsAt (x ∷ keys ++ next) n (get_or next k (First 0 0))) e (stand_at_end keys next k within)

module _ {Divided : ℕ → ℕ → List ℕ → Type 0} {board : Board} {keys : List Key} where
  -- ## The classes of one more state

  module _ {spans : List Span} (q : ℕ) (were : AreSpans Divided board keys spans) (state : q ≤ board.states)
      (none : (get_or spans q no_span).count ≡ 0) where
    -- no vertex stands for a class of the state
    no_class_yet : (x : ℕ) → Contains keys (Second q x) → ⊥
    no_class_yet x c =
        let is = were.each q state in none_in_none is.letters x (is.long ∙ none) (is.whole x c)

    module _ {Now : ℕ → ℕ → List ℕ → Type 0} {span : Span} (letters : List ℕ)
        (still : (place r : ℕ) (l : List ℕ) → Divided place r l → Now place r l)
        (first : span.first ≡ length keys) (count : length letters ≡ span.count) (divided : Now span.place q letters)
        (listed : IsListOf (IsClassLetter board q) letters) where
      here : IsSpan Now board (keys ++ class_keys q letters) q span
      here = record {
        letters = letters;
        long = count;
        stand = λ k lt. (let within : k < length letters = omega (arith, lt, count) in
            subst (λ n. StandsAt (keys ++ class_keys q letters) n (Second q (get_or letters k 0)))
            (omega (arith, first)) (subst (λ key. StandsAt (keys ++ class_keys q letters) (length keys + k) key)
            (class_key_at q letters k (First 0 0) within) (stand_at_end keys (class_keys q letters) k
            (omega (arith, within, length-map letters (λ x. Second q x))))));
        whole = λ x c. elim (Contains-append_cases keys (class_keys q letters) (Second q x) c) [
          | inl before ↦ absurd (no_class_yet x before)
          | inr added ↦ (class_among q q x letters added).1
        ];
        divided = λ some. divided;
        listed = λ some. listed;
      }

      there : (r : ℕ) → r ≤ board.states → r ≢ q →
          IsSpan Now board (keys ++ class_keys q letters) r (get_or spans r no_span)
      there r within other = (let is = were.each r within in record {
        letters = is.letters;
        long = is.long;
        stand = λ k lt. at_left keys (class_keys q letters) ((get_or spans r no_span).first + k) (is.stand k lt);
        whole = λ x c. elim (Contains-append_cases keys (class_keys q letters) (Second r x) c) [
          | inl before ↦ is.whole x before
          | inr added ↦ absurd (other (sym (class_among q r x letters added).0))
        ];
        divided = λ some. still (get_or spans r no_span).place r is.letters (is.divided some);
        listed = is.listed;
      })

      pub spans_more : AreSpans Now board (keys ++ class_keys q letters) (set spans q span)
      spans_more = record {
        sized = length-set spans q span ∙ were.sized;
        each = λ r within. elim (cases_eq r q) [
          | inl same ↦ subst (λ (n : ℕ). IsSpan Now board (keys ++ class_keys q letters) n
              (get_or (set spans q span) n no_span)) (sym same)
              (rw (get_or-set_same spans q span no_span (omega (arith, state, were.sized))) here)
          | inr other ↦ rw (get_or-set_other spans q r span no_span other) (there r within other)
        ];
      }

      leads : LeadsTo board (First q 0) (class_keys q letters)
      leads = (letters, listed, refl)

      pub some_class : 0 < span.count
      some_class = omega (
        arith,
        count,
        leads_some board (First q 0) (class_keys q letters) leads,
        length-map letters (λ x. Second q x),
      )

      pub found_new : FindsSuccessors board (First q 0) keys (range_with_len span.first span.count)
          (keys ++ class_keys q letters)
      found_new = record {
        next = class_keys q letters;
        leads = leads;
        occur = classes_occur board q (class_keys q letters) state leads;
        numbered = rw (first, sym count) (subst (λ n. GetNumbers keys (class_keys q letters)
            (range_with_len (length keys) n) (keys ++ class_keys q letters)) (length-map letters (λ x. Second q x))
            (numbers_new keys (class_keys q letters) (λ k lt c. (
            let within : k < length letters = omega (arith, lt, length-map letters (λ x. Second q x)) in
            no_class_yet (get_or letters k 0) (subst (Contains keys) (class_key_at q letters k (First 0 0) within) c)))
            (leads_differ board (First q 0) (class_keys q letters) leads)));
      }

  -- ## The classes of a state whose letters were divided

  module _ {spans : List Span} (are : AreSpans Divided board keys spans) (q : ℕ) (state : q ≤ board.states) where
    abbrev span : Span
    span = get_or spans q no_span

    pub found_known : 0 < span.count →
        FindsSuccessors board (First q 0) keys (range_with_len span.first span.count) keys
    found_known some =
        let is = are.each q state in
        let to : LeadsTo board (First q 0) (class_keys q is.letters) = (is.letters, is.listed some, refl) in
        record {
          next = class_keys q is.letters;
          leads = to;
          occur = classes_occur board q (class_keys q is.letters) state to;
          numbered = subst (λ n. GetNumbers keys (class_keys q is.letters) (range_with_len span.first n) keys)
              (length-map is.letters (λ x. Second q x) ∙ is.long) (numbers_known keys (class_keys q is.letters)
              span.first (λ k lt. (
              let within : k < length is.letters = omega (arith, lt, length-map is.letters (λ x. Second q x)) in
              rw (class_key_at q is.letters k (First 0 0) within) (is.stand k (omega (arith, within, is.long))))));
        }

    -- a vertex that stands for a class of the state, and the index of this class
    pub record IsClassAt (v x : ℕ) : Type 0 where
      pub letters : List ℕ
      pub divided : Divided span.place q letters
      pub after : span.first ≤ v
      pub within : v - span.first < length letters
      pub is : get_or letters (v - span.first) 0 ≡ x

    pub class_at : AllPairs (λ x y. x ≢ y) keys → (v x : ℕ) → StandsAt keys v (Second q x) → IsClassAt v x
    class_at differ v x at =
        let is = are.each q state in
        let key : Key = Second q x in
        let inside : v < length keys = slice_get_within keys v key at in
        let c = is.whole x (subst (Contains keys) (get_or_from_slice_get keys v key key at)
        (Contains-get_or keys v key inside)) in
        let letter : get_or is.letters c.0 0 ≡ x = get_or_default is.letters c.0 0 x c.1 ∙ c.2 in
        let n = span.first + c.0 in
        let there : StandsAt keys n key = subst (λ (y : ℕ). StandsAt keys n (Second q y)) letter
        (is.stand c.0 (omega (arith, c.1, is.long))) in
        let same : v ≡ n = one_place keys v n differ at there in
        let index : v - span.first ≡ c.0 = omega (arith, same) in
        record {
          letters = is.letters;
          divided = is.divided (omega (arith, c.1, is.long));
          after = omega (arith, same);
          within = omega (arith, index, c.1);
          is = ap (λ k. get_or is.letters k 0) index ∙ letter;
        }
      where
        one_place : (keys : List Key) (v n : ℕ) → AllPairs (λ x y. x ≢ y) keys → {key : Key} → StandsAt keys v key →
            StandsAt keys n key → v ≡ n
        one_place keys v n differ {key} one two =
            let e = get_or_from_slice_get keys v key key one ∙ sym (get_or_from_slice_get keys n key key two) in
            elim (cases_eq v n) [
              | inl same ↦ same
              | inr other ↦ elim (cases_lt v n) [
                | inl less ↦ absurd (differ v n key less (slice_get_within keys n key two) e)
                | inr more ↦ absurd (differ n v key (omega (arith, other, more)) (slice_get_within keys v key one)
                    (sym e))
              ]
            ]

-- ## Vertices of the first player that are added

module _ {keys new : List Key} (a : AutomatonData) (leaves : List ℕ) {numbers : List ℕ} where
  -- no vertex that was added stands for a class
  class_before : GetNumbers keys (leaf_keys a leaves) numbers new → (q x : ℕ) → Contains new (Second q x) →
      Contains keys (Second q x)
  class_before g q x c =
      elim (Contains-append_cases keys g.added (Second q x) (subst (λ l. Contains l (Second q x)) g.keys c)) [
        | inl before ↦ before
        | inr (j, less, is) ↦
            let from = g.from_next j (Second q x) less in
            let within : from.0 < length leaves = omega (arith, from.1, length-map leaves (λ l. leaf_key a l)) in
            absurd (no_second (sym (get_or-map (λ l. leaf_key a l) leaves from.0 0
            (get_or g.added j (Second q x)) within) ∙ from.2 ∙ is))
      ]

  pub spans_still : {Divided : ℕ → ℕ → List ℕ → Type 0} {board : Board} {spans : List Span} →
      AreSpans Divided board keys spans →
      GetNumbers keys (leaf_keys a leaves) numbers new → AreSpans Divided board new spans
  spans_still {spans} were g = record {
    sized = were.sized;
    each = λ q within. (let is = were.each q within in record {
      letters = is.letters;
      long = is.long;
      stand = λ k lt. subst (λ l. StandsAt l ((get_or spans q no_span).first + k) (Second q (get_or is.letters k 0)))
          (sym g.keys) (at_left keys g.added ((get_or spans q no_span).first + k) (is.stand k lt));
      whole = λ x c. is.whole x (class_before g q x c);
      divided = is.divided;
      listed = is.listed;
    });
  }

-- ## The tables together

module _ {Divided Now : ℕ → ℕ → List ℕ → Type 0} {order : Order} {a : AutomatonData} {n : Numbers} (q : ℕ) {span : Span}
    (letters : List ℕ) (were : AreNumbers Divided order a n) (state : q ≤ a.states)
    (still : (place r : ℕ) (l : List ℕ) → Divided place r l → Now place r l)
    (none : (get_or n.spans.items q no_span).count ≡ 0) (first : span.first ≡ length n.keys.items)
    (count : length letters ≡ span.count) (divided : Now span.place q letters)
    (listed : IsListOf (IsClassLetter (board_of order a) q) letters) where
  pub found_divided : {keys : List Key} → keys ≡ n.keys.items ++ map (λ x. Second q x) letters →
      FindsSuccessors (board_of order a) (First q 0) n.keys.items (range_with_len span.first span.count) keys
  found_divided e = rw e (found_new q were.spans state none letters still first count divided listed)

  pub numbers_divided : {now : Numbers} → now.keys.items ≡ n.keys.items ++ map (λ x. Second q x) letters →
      now.steps.items ≡ n.steps.items → now.spans.items ≡ set n.spans.items q span → AreNumbers Now order a now
  numbers_divided {now} keys steps spans = record {
    different = (found_divided keys).numbered.different were.different;
    steps = rw (keys, steps) (steps_still q letters were.steps);
    spans = rw (keys, spans) (spans_more q were.spans state none letters still first count divided listed);
  }

  pub entered_divided : {spans : List Span} → spans ≡ set n.spans.items q span → IsEntered spans q
  entered_divided e = rw (e, get_or-set_same n.spans.items q span no_span (omega (arith, state, were.spans.sized)))
      (some_class q were.spans state none letters still first count divided listed)

  pub still_entered : {spans : List Span} → spans ≡ set n.spans.items q span → (r : ℕ) → IsEntered n.spans.items r →
      IsEntered spans r
  still_entered {spans} e r was = elim (cases_eq r q) [
    | inl same ↦ subst (IsEntered spans) (sym same) (entered_divided e)
    | inr other ↦ rw (e, get_or-set_other n.spans.items q r span no_span other) was
  ]

module _ {order : Order} {a : AutomatonData} (leaves : List ℕ) {numbers : List ℕ} where
  pub numbers_stepped : {Divided : ℕ → ℕ → List ℕ → Type 0} {n now : Numbers} → AreNumbers Divided order a n →
      GetNumbers n.keys.items (leaf_keys a leaves) numbers now.keys.items →
      AreStepNumbers a now.keys.items now.steps.items → now.spans.items ≡ n.spans.items → AreNumbers Divided order a now
  numbers_stepped were g steps same = record {
    different = g.different were.different;
    steps = steps;
    spans = rw same (spans_still a leaves were.spans g);
  }

  pub found_steps : {q x : ℕ} {keys new : List Key} → IsWhole a → AreLeavesBehind order a q x leaves →
      GetNumbers keys (leaf_keys a leaves) numbers new →
      FindsSuccessors (board_of order a) (Second q x) keys numbers new
  found_steps whole behind g = record {
    next = leaf_keys a leaves;
    leads = behind.leads;
    occur = All-map (CanOccur (board_of order a)) (λ leaf. leaf_key a leaf) leaves
        (λ k d within. whole.targets (get_or leaves k d) (behind.named k d within));
    numbered = g;
  }
