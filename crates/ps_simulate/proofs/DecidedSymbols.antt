-- It is decidable whether a circuit has the inputs and outputs that its role (controller or environment) requires,
-- since only finitely many symbols and names are compared.
-- - `decide_all`, `decide_some`: it is decidable whether all, or some, numbers below a bound have a property
-- - `symbols_decided`: the lemma that proves the law `symbols_are_decided`
use Rattle.std.proofs.Common.{◌≡◌, ℕ, zero, suc, ◌<◌, ◌⊎◌, inl, inr, Bool, List, [], length, Option, None}
use Rattle.std.proofs.Common.{Some, sym, subst, arith, rules}
use Rattle.std.specs.Prelude.{slice_index_or}
use Rattle.std.specs.Str.{bytes_eq}
use Rattle.std.proofs.lemmas.Bool.{cases_Bool, cases_eq}
use Rattle.std.proofs.lemmas.Slice.Eq.{bytes_eq-Decides}
use Rattle.ps_text.proofs.ParsedAnswers.Decisions.{Decided, decide_as, decide_below, decide_both}
use Rattle.ps_circuit.specs.Circuits.{CircuitData}
use Rattle.ps_hoa.specs.Files.{is_among}
use Rattle.ps_simulate.specs.Symbols.{AreNamesOnce, HasSymbols, IsSymbol, reads_controllable, sets_controllable}
use Rattle.ps_simulate.specs.declared.role.Role.{Role}
use Rattle.ps_simulate.proofs.NamingLemmas.{some_same, within}

-- ## Numbers below a bound

decide_implied : {A B : Type 0} → Decided A → Decided B → Decided (A → B)
decide_implied (inl a) (inl b) = inl (λ _. b)
decide_implied (inl a) (inr n) = inr (λ f. n (f a))
decide_implied (inr n) d = inl (λ a. absurd (n a))

decide_all : (P : ℕ → Type 0) (n : ℕ) → ((k : ℕ) → Decided (P k)) → Decided ((k : ℕ) → k < n → P k)
decide_all P zero each = inl (λ k below. absurd (omega (arith, below)))
decide_all P (suc n) each = go (decide_all P n each) (each n)
  where
    next : ((k : ℕ) → k < n → P k) → P n → (k : ℕ) → k < suc n → P k
    next all here k below = elim (cases_eq k n) [
      | inl same ↦ subst P (sym same) here
      | inr differ ↦ all k (omega arith)
    ]

    go : Decided ((k : ℕ) → k < n → P k) → Decided (P n) → Decided ((k : ℕ) → k < suc n → P k)
    go (inl all) (inl here) = inl (next all here)
    go (inl all) (inr not) = inr (λ more. not (more n (omega arith)))
    go (inr some) here = inr (λ more. some (λ k below. more k (omega (arith, below))))

decide_some : (P : ℕ → Type 0) (n : ℕ) → ((k : ℕ) → Decided (P k)) → Decided ((k : ℕ) × (k < n) × P k)
decide_some P zero each = inr (λ found. omega (arith, found.1))
decide_some P (suc n) each = go (decide_some P n each) (each n)
  where
    go : Decided ((k : ℕ) × (k < n) × P k) → Decided (P n) → Decided ((k : ℕ) × (k < suc n) × P k)
    go (inl found) here = inl (found.0, omega (arith, found.1), found.2)
    go (inr none) (inl here) = inl (n, omega arith, here)
    go (inr none) (inr not) = inr (λ found. elim (cases_eq found.0 n) [
      | inl same ↦ not (subst P same found.2)
      | inr differ ↦ none (found.0, omega (arith, found.1, differ), found.2)
    ])

-- ## Symbols

decide_same : (a b : Bool) → Decided (a ≡ b)
decide_same a b = grind (arith, cases_Bool)

decide_name : (symbol : Option (List ℕ)) (name : List ℕ) → Decided (symbol ≡ Some name)
decide_name None name = inr (λ e. absurd (search rules))
decide_name (Some bytes) name = elim (cases_Bool (bytes_eq bytes name)) [
  | inl same ↦ inl (grind (arith, bytes_eq-Decides))
  | inr other ↦ inr (λ e. grind (arith, some_same bytes name e, bytes_eq-Decides))
]

module _ (names : List (List ℕ)) (controllable : List ℕ) (wanted : Bool) (symbols : List (Option (List ℕ))) where
  decide_symbol : (k p : ℕ) → Decided (IsSymbol names symbols k p)
  decide_symbol k p = decide_as (λ both. record { within = both.0; is = both.1 }) (λ s. (s.within, s.is))
      (decide_both (decide_below (suc p) (length names))
      (decide_name (slice_index_or symbols k None) (slice_index_or names p [])))

  -- it is decidable whether the proposition p, if it is of the wanted kind (controllable or not), is named by some
  -- symbol
  decide_each : (p : ℕ) →
      Decided (is_among p controllable ≡ wanted → (k : ℕ) × IsSymbol names symbols k p)
  decide_each p = decide_implied (decide_same (is_among p controllable) wanted)
      (decide_as (λ found. (found.0, found.2))
      (λ found. (found.0, within symbols found.0 (slice_index_or names p []) found.1.is, found.1))
      (decide_some (λ k. IsSymbol names symbols k p) (length symbols) (λ k. decide_symbol k p)))

  -- it is decidable whether the symbol k names a proposition of the wanted kind (controllable or not)
  decide_one_of : (k : ℕ) →
      Decided ((p : ℕ) × IsSymbol names symbols k p × (is_among p controllable ≡ wanted))
  decide_one_of k = decide_as (λ found. (found.0, found.2.0, found.2.1))
      (λ found. (found.0, found.1.within, (found.1, found.2)))
      (decide_some (λ p. IsSymbol names symbols k p × (is_among p controllable ≡ wanted)) (length names)
      (λ p. decide_both (decide_symbol k p) (decide_same (is_among p controllable) wanted)))

  abbrev Once : ℕ → ℕ → ℕ → Type 0
  Once j k p = IsSymbol names symbols j p → IsSymbol names symbols k p → j ≡ k

  decide_once : Decided ((j k p : ℕ) → Once j k p)
  decide_once = decide_as
      (λ all j k p one other. all j (within symbols j (slice_index_or names p []) one.is) k
      (within symbols k (slice_index_or names p []) other.is) p one.within one other)
      (λ all j _ k _ p _. all j k p)
      (decide_all (λ j. (k : ℕ) → k < length symbols → (p : ℕ) → p < length names → Once j k p) (length symbols)
      (λ j. decide_all (λ k. (p : ℕ) → p < length names → Once j k p) (length symbols)
      (λ k. decide_all (Once j k) (length names)
      (λ p. decide_implied (decide_symbol j p) (decide_implied (decide_symbol k p) (cases_eq j k))))))

  decide_names_once : Decided (AreNamesOnce names controllable wanted symbols)
  decide_names_once = decide_as
      (λ facts. record { each = facts.0; some = facts.1.0; once = facts.1.1 })
      (λ are. (are.each, (are.some, are.once)))
      (decide_both (decide_all _ (length names) decide_each)
      (decide_both (decide_all _ (length symbols) decide_one_of) decide_once))

pub symbols_decided : (role : Role) (names : List (List ℕ)) (controllable : List ℕ) (c : CircuitData) →
    HasSymbols role names controllable c ⊎ ¬ HasSymbols role names controllable c
symbols_decided role names controllable c =
    decide_as (λ both. record { inputs = both.0; outputs = both.1 }) (λ has. (has.inputs, has.outputs))
    (decide_both (decide_names_once names controllable (reads_controllable role) c.input_names)
    (decide_names_once names controllable (sets_controllable role) c.output_names))
