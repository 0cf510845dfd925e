-- A word that satisfies the obligations of a state, and along which formulas are true or false, has a fair run.
use Rattle.std.proofs.Common.{◌≡◌, ℕ, suc, zero, ◌+◌, ◌<◌, ◌≤◌, inl, inr, List, arith, subst, ap, ◌∙◌, refl}
use Rattle.std.proofs.Math.Numerals.{add-one}
use Rattle.std.specs.List.{Contains}
use Rattle.ps_formula.specs.NormalForms.{NormalFormula, truth, literal, both, either, after, reaches, keeps, plain}
use Rattle.ps_formula.specs.Satisfaction.{IsDecidedWord}
use Rattle.ps_tableau.specs.Covers.{Cover, Fits, SatisfiesAll}
use Rattle.ps_tableau.specs.Runs.{HasFairRun, IsTableau, Tableau}

-- a state whose obligations the word satisfies at an index
record Here (t : Tableau) (w : ℕ → ℕ) (i : ℕ) : Type 0 where
  state : ℕ
  within : state < t.count
  satisfied : SatisfiesAll (t.obligations state) w i

-- a cover of a state which the word can use at an index, and the state to which it leads
record Step (t : Tableau) (w : ℕ → ℕ) (i state : ℕ) : Type 0 where
  cover : Cover
  there : Contains (t.covers state) cover
  fits : Fits cover w i
  target : ℕ
  within : target < t.count
  leads : t.obligations target ≡ cover.next

step : (t : Tableau) (w : ℕ → ℕ) → IsTableau t → IsDecidedWord w → (i : ℕ) (h : Here t w i) → Step t w i h.state
step t w tableau decided i h =
    let used = (tableau.exact h.state h.within).usable w i decided h.satisfied in
    let next = tableau.closed h.state used.0 h.within used.1 in
    record {
      cover = used.0;
      there = used.1;
      fits = used.2;
      target = next.0;
      within = next.1;
      leads = next.2;
    }

abbrev after_step : (t : Tableau) (w : ℕ → ℕ) (i state : ℕ) → Step t w i state → Here t w (suc i)
after_step t w i state s = record {
  state = s.target;
  within = s.within;
  satisfied = subst (SatisfiesAll (t.obligations s.target) w) (add-one i) (record {
    each = λ f there. s.fits.next f (subst (λ (l : List NormalFormula). Contains l f) s.leads there);
  });
}

abbrev along : (t : Tableau) (w : ℕ → ℕ) → IsTableau t → IsDecidedWord w → Here t w 0 → (i : ℕ) → Here t w i
along t w tableau decided start zero = start
along t w tableau decided start (suc i) =
    after_step t w i (along t w tableau decided start i).state
    (step t w tableau decided i (along t w tableau decided start i))

-- an until that is postponed holds at the next index, so its end comes, and there it is not postponed
pub is_free : (w : ℕ → ℕ) (run : ℕ → Cover) → IsDecidedWord w → ((i : ℕ) → Fits (run i) w i) → (f : NormalFormula)
    (i : ℕ) → (j : ℕ) × (i ≤ j) × ¬ Contains (run j).postponed f
is_free w run decided fits (reaches f g) i = elim (decided.each (plain (reaches f g)) (i + 1)) [
  | inl holds ↦ (
    holds.end,
    (let h = holds.later in omega arith),
    λ postponed. ((fits holds.end).postponed (reaches f g) postponed).0 holds.there,
  )
  | inr fails ↦ (i, omega arith, λ postponed. fails ((fits i).postponed (reaches f g) postponed).1)
]
is_free w run decided fits (truth b) i = (i, omega arith, λ postponed. (fits i).postponed (truth b) postponed)
is_free w run decided fits (literal b p) i = (i, omega arith, λ postponed. (fits i).postponed (literal b p) postponed)
is_free w run decided fits (both f g) i = (i, omega arith, λ postponed. (fits i).postponed (both f g) postponed)
is_free w run decided fits (either f g) i = (i, omega arith, λ postponed. (fits i).postponed (either f g) postponed)
is_free w run decided fits (after f) i = (i, omega arith, λ postponed. (fits i).postponed (after f) postponed)
is_free w run decided fits (keeps f g) i = (i, omega arith, λ postponed. (fits i).postponed (keeps f g) postponed)

pub satisfied_has_fair_run_lem : (t : Tableau) (w : ℕ → ℕ) (q : ℕ) → IsTableau t → IsDecidedWord w → q < t.count →
    SatisfiesAll (t.obligations q) w 0 → HasFairRun t w q
satisfied_has_fair_run_lem t w q tableau decided within satisfied =
    let start : Here t w 0 = record { state = q; within = within; satisfied = satisfied } in
    let here : (i : ℕ) → Here t w i = along t w tableau decided start in
    let steps : (i : ℕ) → Step t w i (here i).state = λ i. step t w tableau decided i (here i) in
    let states : ℕ → ℕ = λ i. (here i).state in
    let run : ℕ → Cover = λ i. (steps i).cover in
    record {
      states = states;
      run = run;
      start = refl;
      fair_run = record {
        is_run = record {
          state = λ i. (here i).within;
          cover = λ i. (steps i).there;
          meets = λ i. (steps i).fits.guard;
          leads = λ i. ap (λ (k : ℕ). t.obligations (states k)) (add-one i) ∙ (steps i).leads;
        };
        fair = record { often = λ f known i. is_free w run decided (λ k. (steps k).fits) f i };
      };
    }
