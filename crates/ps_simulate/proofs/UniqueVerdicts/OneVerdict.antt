-- A circuit that reads a stem once and then a lap repeatedly has at most one word (`IsWordOf`), and an automaton gives at
-- most one verdict (`IsVerdictOf`) on it.
use Rattle.std.proofs.Common.{◌≡◌, ◌∙◌, ℕ, zero, suc, ◌<◌, ◌≤◌, inl, inr, Bool, List, [], ◌∷◌, ◌++◌, map, get_or}
use Rattle.std.proofs.Common.{length, take, drop, refl, sym, ap, ap₂, arith, rules, append_assoc, ◌+◌, ◌*◌}
use Rattle.std.specs.Prelude.{◌↔◌, IsTrue}
use Rattle.std.proofs.lemmas.Bool.{cases_order, cases_eq}
use Rattle.std.proofs.lemmas.List.{append-nil}
use Rattle.std.proofs.Math.Nat.{mul-le-mul_right}
use Rattle.std.proofs.Math.Seq.{drop-append_seam, take-append_seam}
use Rattle.ps_hoa.specs.Files.{FileData}
use Rattle.ps_circuit.specs.Circuits.{CircuitData, IsCircuit}
use Rattle.ps_circuit.specs.Values.{Moment, GoesOn, HasOneValues}
use Rattle.ps_simulate.specs.declared.role.Role.{Role}
use Rattle.ps_simulate.specs.declared.lassos.Verdict.{Verdict}
use Rattle.ps_simulate.specs.Symbols.{HasSymbols}
use Rattle.ps_simulate.specs.Lassos.{laps_of, latches_along, RepeatsLatches, IsVerdictOf, IsWordOf}
use Rattle.ps_simulate.specs.Words.{TraceWordData}
use Rattle.ps_simulate.proofs.UniqueVerdicts.OneTrace.{firsts_agree}
use Rattle.ps_simulate.proofs.UniqueVerdicts.OneLetter.{one_letters}
use Rattle.ps_simulate.proofs.LapsOfRuns.LassoLemmas.{along_more, at_end, length_trace}

-- if j is at most n, the word that repeats `lap` n times begins with the word that repeats it j times
laps_front : (lap : List (List Bool)) (j n : ℕ) → j ≤ n → (more : List (List Bool)) ×
    (laps_of lap n ≡ laps_of lap j ++ more)
laps_front lap j zero le = search (rules, append-nil)
laps_front lap j (suc n) le = elim (cases_eq j (suc n)) [
  | inl same ↦ ([], ap (laps_of lap) (sym same) ∙ sym (append-nil (laps_of lap j)))
  | inr other ↦ let rest = laps_front lap j n (omega arith) in
      (rest.0 ++ lap, ap (λ ls. ls ++ lap) rest.1 ∙ append_assoc (laps_of lap j) rest.0 lap)
]

module _ {c : CircuitData} (is_circuit : IsCircuit c) (one : HasOneValues c) where
  abbrev Behind : List Moment → List Bool → List Moment → List Bool → List (List Bool) → Type 0
  Behind ms last ns last' more =
      (rest : List Moment) × (ns ≡ ms ++ rest) × GoesOn c last rest last' × (map (λ m. m.inputs) rest ≡ more)

  -- the traces ms and ns start with the same latch values: if the inputs of ns begin with the inputs of ms, the trace
  -- ns begins with the trace ms
  goes_behind : (latches last last' : List Bool) (ms ns : List Moment) (more : List (List Bool)) →
      GoesOn c latches ms last → GoesOn c latches ns last'
      → map (λ m. m.inputs) ns ≡ map (λ m. m.inputs) ms ++ more → Behind ms last ns last' more
  goes_behind latches last last' [] ns more a b same = search rules
  goes_behind latches last last' (m ∷ ms) [] more a b same = cc
  goes_behind latches last last' (m ∷ ms) (n ∷ ns) more (next, at, steps, rest) (next', at', steps', rest') same =
      let inputs : m.inputs ≡ n.inputs = cc in
      let tails : map (λ (m : Moment). m.inputs) ns ≡ map (λ (m : Moment). m.inputs) ms ++ more = cc in
      let first = firsts_agree c is_circuit one latches next next' m n at at' steps steps' inputs in
      grind (arith, goes_behind next last last' ms ns more rest (rw first.1 rest') tails)

  no_letters : (ms : List Moment) → map (λ m. m.inputs) ms ≡ [] → ms ≡ []
  no_letters [] e = refl
  no_letters (m ∷ ms) e = absurd (cc)

  module _ (stem lap : List (List Bool)) where
    -- let two traces read the lap until latch values repeat for the first time, one j times and the other j' times;
    -- then j < j' is impossible, since the second trace would repeat latch values after j readings
    not_earlier : (i j i' j' : ℕ) (ms ns : List Moment) → RepeatsLatches c stem lap i j ms →
        RepeatsLatches c stem lap i' j' ns → j < j' → ⊥
    not_earlier i j i' j' ms ns a b lt =
        let more = laps_front lap j j' (omega arith) in
        let reads : map (λ (m : Moment). m.inputs) ns ≡ map (λ (m : Moment). m.inputs) ms ++ more.0 =
        grind (arith, append_assoc) in
        let behind : Behind ms a.last ns b.last more.0 = grind (arith, goes_behind) in
        let size = length_trace stem lap ms j a.reads in
        let le = mul-le-mul_right {m = i} {n = j} (length lap) (omega (arith, a.earlier)) in
        let at : (t : ℕ) → t ≤ length ms → get_or (latches_along ns b.last) t [] ≡ get_or
        (latches_along ms a.last) t [] = search (rules, along_more) in
        grind (arith, at_end ms a.last)

    one_repetition : (i j i' j' : ℕ) (ms ns : List Moment) → RepeatsLatches c stem lap i j ms →
        RepeatsLatches c stem lap i' j' ns →
        (i ≡ i') × (j ≡ j') × (ms ≡ ns)
    one_repetition i j i' j' ms ns a b =
        let laps : j ≡ j' = elim (cases_order j j') [
          | inl same ↦ same
          | inr (inl less) ↦ absurd (not_earlier i j i' j' ms ns a b less)
          | inr (inr more) ↦ absurd (not_earlier i' j' i j ns ms b a more)
        ] in
        let reads : map (λ (m : Moment). m.inputs) ns ≡ map (λ (m : Moment). m.inputs) ms ++ [] =
        search (rules, append-nil) in
        grind (arith, goes_behind, no_letters, append-nil, cases_order)

-- ---- the word and the verdict

-- two lists with equal first parts of one length are equal part by part
halves : (xs ys us vs : List ℕ) → length xs ≡ length us → xs ++ ys ≡ us ++ vs → (xs ≡ us) × (ys ≡ vs)
halves xs ys us vs many same = (
  sym (take-append_seam xs ys) ∙ ap₂ take many same ∙ take-append_seam us vs,
  sym (drop-append_seam xs ys) ∙ ap₂ drop many same ∙ drop-append_seam us vs,
)

pub one_word : {role : Role} {names : List (List ℕ)} {controllable : List ℕ} {c : CircuitData}
    {stem lap : List (List Bool)} {v w : TraceWordData} → IsCircuit c → HasOneValues c →
    HasSymbols role names controllable c → IsWordOf names c stem lap v → IsWordOf names c stem lap w → v ≡ w
one_word {c} {stem} {lap} {v} {w} is one has a b =
    let same = one_repetition is one stem lap a.i a.j b.i b.j a.trace b.trace a.repeats b.repeats in
    let letters = one_letters has a.trace (v.stem ++ v.lap) (w.stem ++ w.lap) a.are_letters
    (rw (sym same.2) at b.are_letters) in
    let many = a.stem_is ∙ ap (λ i. length stem + i * length lap) same.0 ∙ sym b.stem_is in
    let parts = halves v.stem v.lap w.stem w.lap many letters in
    grind arith

one_truth : (a b : Bool) (P : Type 0) → (IsTrue a ↔ P) → (IsTrue b ↔ P) → a ≡ b
one_truth a b P h k = search rules

pub one_verdict : {role : Role} {file : FileData} {c : CircuitData} {stem lap : List (List Bool)} {v w : Verdict} →
    IsCircuit c → HasOneValues c → HasSymbols role file.names file.controllable c → IsVerdictOf file c stem lap v →
    IsVerdictOf file c stem lap w → v ≡ w
one_verdict {file} is one has a b =
    let same = one_word is one has a.is_word b.is_word in
    grind (arith, one_truth)
