-- A fair run satisfies its obligations.
use Rattle.std.proofs.Common.{◌≡◌, ℕ, suc, zero, ◌+◌, ◌-◌, ◌<◌, ◌≤◌, ◌⊎◌, inl, inr, true, false, List, arith}
use Rattle.std.proofs.Common.{subst, sym}
use Rattle.std.proofs.Math.Nat.{eq-or-lt_of_le}
use Rattle.std.specs.List.{Contains}
use Rattle.ps_formula.specs.NormalForms.{NormalFormula, truth, literal, both, either, after, reaches, keeps, plain}
use Rattle.ps_formula.specs.Satisfaction.{Reaches, Satisfies}
use Rattle.ps_tableau.specs.Covers.{Brings, Cover, Covers, SatisfiesAll}
use Rattle.ps_tableau.specs.Runs.{IsFairRun, IsPartialTableau, Tableau}
use Rattle.ps_tableau.proofs.CoversOfSets.Brought.{brought_covered}

reach_now : {A B : ℕ → Type 0} (i : ℕ) → B i → Reaches A B i
reach_now i here = record { end = i; later = omega arith; there = here; before = λ k low high. absurd (omega arith) }

reach_later : {A B : ℕ → Type 0} (i : ℕ) → A i → Reaches A B (i + 1) → Reaches A B i
reach_later {A} i a r = record {
  end = r.end;
  later = let h = r.later in omega arith;
  there = r.there;
  before = λ k low high. elim (eq-or-lt_of_le low) [
    | inl same ↦ subst A same a
    | inr above ↦ r.before k (omega arith) high
  ];
}

-- what the cover at an index is enough for
abbrev Covered : (w : ℕ → ℕ) (run : ℕ → Cover) (i : ℕ) → NormalFormula → Type 0
Covered w run i f = Covers (run i) (w i) f

-- the cover at an index is enough for the next obligations of the cover before it
carried : (t : Tableau) (w states : ℕ → ℕ) (run : ℕ → Cover) → IsPartialTableau t → IsFairRun t w states run →
    (i : ℕ) (f : NormalFormula) → Brings (Contains (run i).next) f → Covered w run (i + 1) f
carried t w states run tableau fair i f brings =
    brought_covered (Contains (run i).next) (run (i + 1)) (w (i + 1)) (λ g there.
    let r = fair.is_run in
    let next : Contains (t.obligations (states (i + 1))) g =
    subst (λ (l : List NormalFormula). Contains l g) (sym (r.leads i)) there in
    ((tableau.exact (states (i + 1)) (r.state (i + 1))).enough (run (i + 1)) (r.cover (i + 1))).each g next
    (w (i + 1)) (r.meets (i + 1))) brings

-- an until that is postponed at each index up to one at which it is not postponed
until_in : (w : ℕ → ℕ) (run : ℕ → Cover) (f g : NormalFormula) →
    ((i : ℕ) (h : NormalFormula) → Brings (Contains (run i).next) h → Covered w run (i + 1) h) →
    ((i : ℕ) → Covered w run i f → Satisfies (plain f) w i) →
    ((i : ℕ) → Covered w run i g → Satisfies (plain g) w i) →
    (j : ℕ) → ¬ Contains (run j).postponed (reaches f g) → (d i : ℕ) → i + d ≡ j →
    Covered w run i (reaches f g) → Reaches (Satisfies (plain f) w) (Satisfies (plain g) w) i
until_in w run f g carry left right j free d i far (inl here) = reach_now i (right i here)
until_in w run f g carry left right j free zero i far (inr later) =
    let same : i ≡ j = omega arith in
    absurd (free (subst (λ (k : ℕ). Contains (run k).postponed (reaches f g)) same later.2))
until_in w run f g carry left right j free (suc d) i far (inr later) =
    reach_later i (left i later.0)
    (until_in w run f g carry left right j free d (i + 1) (omega arith) (carry i (reaches f g) later.1))

release_at : (w : ℕ → ℕ) (run : ℕ → Cover) (f g : NormalFormula) →
    ((i : ℕ) (h : NormalFormula) → Brings (Contains (run i).next) h → Covered w run (i + 1) h) →
    ((i : ℕ) → Covered w run i f → Satisfies (plain f) w i) →
    ((i : ℕ) → Covered w run i g → Satisfies (plain g) w i) → (d i j : ℕ) → i + d ≡ j →
    Covered w run i (keeps f g) →
    Satisfies (plain g) w j ⊎ ((k : ℕ) × (i ≤ k) × (k < j) × Satisfies (plain f) w k)
release_at w run f g carry left right zero i j far here =
    let same : i ≡ j = omega arith in inl (subst (λ (k : ℕ). Satisfies (plain g) w k) same (right i here.0))
release_at w run f g carry left right (suc d) i j far here = elim here.1 [
  | inl now ↦ inr (i, omega arith, omega arith, left i now)
  | inr later ↦ elim (release_at w run f g carry left right d (i + 1) j (omega arith) (carry i (keeps f g) later)) [
    | inl there ↦ inl there
    | inr before ↦ inr (before.0, omega arith, before.2, before.3)
  ]
]

covered_holds : (t : Tableau) (w states : ℕ → ℕ) (run : ℕ → Cover) → IsPartialTableau t → IsFairRun t w states run →
    (f : NormalFormula) (i : ℕ) → Covered w run i f → Satisfies (plain f) w i
covered_holds t w states run tableau fair (truth b) i h = h
covered_holds t w states run tableau fair (literal true p) i h = h
covered_holds t w states run tableau fair (literal false p) i h = h
covered_holds t w states run tableau fair (both f g) i h =
    (covered_holds t w states run tableau fair f i h.0, covered_holds t w states run tableau fair g i h.1)
covered_holds t w states run tableau fair (either f g) i (inl h) = inl (covered_holds t w states run tableau fair f i h)
covered_holds t w states run tableau fair (either f g) i (inr h) = inr (covered_holds t w states run tableau fair g i h)
covered_holds t w states run tableau fair (after f) i h =
    covered_holds t w states run tableau fair f (i + 1) (carried t w states run tableau fair i f h)
covered_holds t w states run tableau fair (reaches f g) i (inl here) =
    reach_now i (covered_holds t w states run tableau fair g i here)
covered_holds t w states run tableau fair (reaches f g) i (inr later) =
    let r = fair.is_run in
    let known = tableau.untils (states i) (run i) (reaches f g) (r.state i) (r.cover i) later.2 in
    let free = fair.fair.often (reaches f g) known i in
    until_in w run f g (carried t w states run tableau fair) (covered_holds t w states run tableau fair f)
    (covered_holds t w states run tableau fair g) free.0 free.2 (free.0 - i) i (let low = free.1 in omega arith)
    (inr later)
covered_holds t w states run tableau fair (keeps f g) i h = record {
  each = λ j low. release_at w run f g (carried t w states run tableau fair)
      (covered_holds t w states run tableau fair f) (covered_holds t w states run tableau fair g) (j - i) i j
      (omega arith) h;
}

pub fair_run_satisfies_lem : (t : Tableau) (w states : ℕ → ℕ) (run : ℕ → Cover) → IsPartialTableau t →
    IsFairRun t w states run → SatisfiesAll (t.obligations (states 0)) w 0
fair_run_satisfies_lem t w states run tableau fair = record {
  each = λ f there. let r = fair.is_run in
      covered_holds t w states run tableau fair f 0
      (((tableau.exact (states 0) (r.state 0)).enough (run 0) (r.cover 0)).each f there (w 0) (r.meets 0));
}
