-- It is decidable which faults an HOA file has, and which pair of clashing edges is the first, so each file is either
-- admitted or refused.
use Rattle.std.proofs.Common.{◌≡◌, ◌≢◌, ◌∙◌, ℕ, zero, suc, ◌+◌, ◌^◌, ◌<◌, ◌≤◌, ◌⊎◌, inl, inr, Bool, true, false, rules}
use Rattle.std.proofs.Common.{List, [], ◌∷◌, length, Option, Some, None, slice_get, refl, sym, arith}
use Rattle.std.proofs.lemmas.Bool.{cases_eq, cases_lt}
use Rattle.std.proofs.lemmas.Option.{slice_get_within}
use Rattle.ps_text.proofs.ParsedAnswers.Decisions.{Decided, decide_as, decide_below, decide_both, decide_not}
use Rattle.ps_text.proofs.ParsedAnswers.Decisions.{decide_true}
use Rattle.ps_label.specs.Expression.{Expression}
use Rattle.ps_label.specs.Truth.{label_truth}
use Rattle.ps_hoa.specs.Files.{GuardData, EdgeData, RowData, FileData, stated, of_state, at_letter, is_among}
use Rattle.ps_hoa.specs.Edges.{row_among, row_of, IsEnabled, IsTaken, is_marked}
use Rattle.ps_automaton.specs.Answers.{AreAlike, AreClashing, Clash, IsFirstClash, IsAdmitted, IsRefused}
use Rattle.ps_automaton.specs.Chains.{Chain, chain_of, has_complement}
use Rattle.ps_automaton.specs.declared.fault.AutomatonFault.{AutomatonFault}
use Rattle.ps_automaton.specs.declared.fault.AutomatonFault.TheVariants.{ComplementedSet, NonParity, Nondeterministic}
use Rattle.ps_automaton.specs.declared.fault.AutomatonFault.TheVariants.{OutOfMemory}
use Rattle.ps_text.proofs.Combinators.Simple.{same_some}
use Rattle.ps_automaton.proofs.EdgesAtLetters.TakenEdges.{clash_of}

-- if a property is decidable for each number, a smallest number has it, or no number less than n has it
least_below : (P : ℕ → Type 0) → ((k : ℕ) → Decided (P k)) → (n : ℕ) →
    ((m : ℕ) × P m × ((k : ℕ) → P k → m ≤ k)) ⊎ ((k : ℕ) → k < n → P k → ⊥)
least_below P tell zero = inr (λ k lt h. absurd (omega arith))
least_below P tell (suc n) = elim (least_below P tell n) [
  | inl m ↦ inl m
  | inr none ↦ elim (tell n) [
    | inl here ↦ inl (n, here, λ k h. elim (cases_lt k n) [ inl lt ↦ absurd (none k lt h) | inr le ↦ le ])
    | inr never ↦ inr (λ k lt h. search (rules, cases_lt))
  ]
]

-- if a decidable property holds only for numbers less than n, it is decidable whether it holds for some number
pub some_or_none : (P : ℕ → Type 0) → ((k : ℕ) → Decided (P k)) → (n : ℕ) → ((k : ℕ) → P k → k < n) →
    Decided ((k : ℕ) × P k)
some_or_none P tell n within = grind (arith, least_below P tell n)

-- if a decidable property holds for some number, it holds for a smallest number
least_of : (P : ℕ → Type 0) → ((k : ℕ) → Decided (P k)) → (k : ℕ) → P k → (m : ℕ) × P m × ((k : ℕ) → P k → m ≤ k)
least_of P tell k h = elim (least_below P tell (suc k)) [ inl m ↦ m | inr none ↦ absurd (none k (omega arith) h) ]

-- if a property is decidable for each value, it is decidable whether an option has a value with this property
pub decide_some : {X : Type 0} (o : Option X) (P : X → Type 0) → ((x : X) → Decided (P x)) →
    Decided ((x : X) × (o ≡ Some x) × P x)
decide_some None P tell = inr (λ h. (let e = h.1 in cc))
decide_some (Some x) P tell = decide_as (λ p. (x, refl, p)) (λ h. rw (same_some x h.0 h.1) h.2) (tell x)

same_or_not : (a b : Bool) → Decided (a ≡ b)
same_or_not a b = grind arith

-- it is decidable whether two Boolean functions on numbers agree everywhere, if they agree from the number n on
same_tests : (f g : ℕ → Bool) (n : ℕ) → ((k : ℕ) → n ≤ k → f k ≡ g k) → Decided ((k : ℕ) → f k ≡ g k)
same_tests f g n far = elim (least_below (λ k. f k ≢ g k) (λ k. decide_not (same_or_not (f k) (g k))) n) [
  | inl m ↦ inr (λ same. m.1 (same m.0))
  | inr none ↦ inl (λ k. search (rules, same_or_not, cases_lt))
]

-- a number greater than each number in a list
abbrev above : List ℕ → ℕ
above [] = 0
above (m ∷ ms) = suc m + above ms

among-above : (n : ℕ) (ms : List ℕ) → above ms ≤ n → is_among n ms ≡ false
among-above n [] le = refl
among-above n (m ∷ ms) le = grind (arith, among-above n ms)

marked-above : (row : RowData) (edge : EdgeData) (n : ℕ) → above row.marks + above edge.marks ≤ n →
    is_marked row edge n ≡ false
marked-above row edge n le = rw (among-above n row.marks (omega arith), among-above n edge.marks (omega arith))

pub alike_or_not : (row : RowData) (one other : EdgeData) → Decided (AreAlike row one other)
alike_or_not row one other = decide_both (cases_eq one.target other.target)
    (same_tests (is_marked row one) (is_marked row other) (above row.marks + above one.marks + above other.marks)
    (λ set le. marked-above row one set (omega arith) ∙ sym (marked-above row other set (omega arith))))

pub open_or_not : (aliases : List Expression) (label : Option Expression) (guard : GuardData) (letter : ℕ) →
    Decided (IsEnabled aliases label guard letter)
open_or_not aliases label (stated e) letter = decide_true (label_truth aliases letter e)
open_or_not aliases None of_state letter = inr (λ h. h)
open_or_not aliases (Some e) of_state letter = decide_true (label_truth aliases letter e)
open_or_not aliases label (at_letter k) letter = cases_eq letter k

module _ (file : FileData) where
  clashing_or_not : (row : RowData) (first second : ℕ) → Decided (AreClashing file row first second)
  clashing_or_not row first second =
      let Both : EdgeData → EdgeData → ℕ → Type 0 = λ one other letter.
      (letter < 2 ^ length file.names) × (IsTaken file row one letter × IsTaken file row other letter) in
      decide_as (λ h. (let d = h.1.2.2 in clash_of h.0 h.1.1 h.1.2.1 d.0.1.0 d.0.1.1.0 d.0.1.1.1 d.1))
      (λ c. search rules) (decide_both (decide_below (suc first) second)
      (decide_some (slice_get row.edges first) _ (λ one. decide_some (slice_get row.edges second) _
      (λ other. decide_both (some_or_none (Both one other) (λ letter. grind (
        arith,
        decide_both,
        decide_below,
        open_or_not,
      )) (2 ^ length file.names) (λ letter h. h.0)) (decide_not (alike_or_not row one other))))))

  clash_or_not : (q first second : ℕ) → Decided (Clash file q first second)
  clash_or_not q first second = decide_as (λ h. grind arith) (λ c. grind arith)
      (decide_some (row_of file q) (λ row. AreClashing file row first second) (λ row. clashing_or_not row first second))

  abbrev WithFirst : ℕ → ℕ → Type 0
  WithFirst q second = (first : ℕ) × Clash file q first second

  with_first_or_not : (q second : ℕ) → Decided (WithFirst q second)
  with_first_or_not q second = some_or_none (λ first. Clash file q first second)
      (λ first. clash_or_not q first second) second (λ first c. c.clashing.earlier)

  abbrev WithSecond : ℕ → Type 0
  WithSecond q = (second : ℕ) × WithFirst q second

  abbrev edges_in : Option RowData → ℕ
  edges_in None = 0
  edges_in (Some row) = length row.edges

  with_second_or_not : (q : ℕ) → Decided (WithSecond q)
  with_second_or_not q = some_or_none (WithFirst q) (with_first_or_not q) (edges_in (row_of file q))
      (λ second f. search (rules, slice_get_within))

  abbrev states_bound : List RowData → ℕ
  states_bound [] = 0
  states_bound (row ∷ rows) = suc row.state + states_bound rows

  row_within : (rows : List RowData) (q : ℕ) {row : RowData} → row_among rows q ≡ Some row → q < states_bound rows
  row_within [] q e = cc
  row_within (r ∷ rows) q {row} e = grind (arith, row_within rows q {row = row})

  deterministic_or_first : ((q first second : ℕ) → Clash file q first second → ⊥) ⊎
      ((q : ℕ) × (first : ℕ) × (second : ℕ) × IsFirstClash file q first second)
  deterministic_or_first = elim (some_or_none WithSecond with_second_or_not (states_bound file.rows)
      (λ q w. (let c = w.1.1 in row_within file.rows q c.of_state))) [
        | inr none ↦ inl (λ q first second c. none (q, (second, (first, c))))
        | inl some ↦
            let q = least_of WithSecond with_second_or_not some.0 some.1 in
            let second = least_of (WithFirst q.0) (with_first_or_not q.0) q.1.0 q.1.1 in
            let first =
            least_of (λ f. Clash file q.0 f second.0) (λ f. clash_or_not q.0 f second.0) second.1.0 second.1.1 in
            inr (
              q.0,
              first.0,
              second.0,
              record {
                clash = first.1;
                least_state = λ p a b c. q.2 p (b, (a, c));
                least_second = λ a b c. second.2 b (a, c);
                least_first = first.2;
              },
            )
      ]

  pub admitted_or_refused : IsAdmitted file ⊎ ((fault : AutomatonFault) × (fault ≢ OutOfMemory) × IsRefused file fault)
  admitted_or_refused = search (rules, by, deterministic_or_first)
    where
      by : (b : Bool) → has_complement file.condition ≡ b → (o : Option Chain) → chain_of file.condition ≡ o →
          ((q first second : ℕ) → Clash file q first second → ⊥) ⊎
          ((q : ℕ) × (first : ℕ) × (second : ℕ) × IsFirstClash file q first second) →
          IsAdmitted file ⊎ ((fault : AutomatonFault) × (fault ≢ OutOfMemory) × IsRefused file fault)
      by true is o e d = inr (ComplementedSet, (λ f. cc), is)
      by false plain None is d = inr (NonParity, (λ f. cc), (plain, is))
      by false plain (Some chain) is (inl none) = search rules
      by false plain (Some chain) is (inr c) = inr (Nondeterministic c.0 c.1 c.2, (λ f. cc), (plain, chain, is, c.3))
