-- What the known formulas bring: the cover or the word that does for all of them does for it too.
use Rattle.std.proofs.Common.{ℕ, inl, inr, arith, refl}
use Rattle.ps_formula.specs.NormalForms.{NormalFormula, plain}
use Rattle.ps_formula.specs.Satisfaction.{Keeps, Satisfies}
use Rattle.ps_tableau.specs.Covers.{Brings, Cover, Covers, of_known, of_true, of_both, of_first, of_second, of_left}
use Rattle.ps_tableau.specs.Covers.{of_right, of_kept, of_end}

pub brought_more : (P Q : NormalFormula → Type 0) → ((f : NormalFormula) → P f → Brings Q f) →
    {f : NormalFormula} → Brings P f → Brings Q f
brought_more P Q more (of_known {f} there) = more f there
brought_more P Q more of_true = of_true
brought_more P Q more (of_both h k) = of_both (brought_more P Q more h) (brought_more P Q more k)
brought_more P Q more (of_first h) = of_first (brought_more P Q more h)
brought_more P Q more (of_second h) = of_second (brought_more P Q more h)
brought_more P Q more (of_left h) = of_left (brought_more P Q more h)
brought_more P Q more (of_right h) = of_right (brought_more P Q more h)
brought_more P Q more (of_kept h) = of_kept (brought_more P Q more h)
brought_more P Q more (of_end h) = of_end (brought_more P Q more h)

-- a cover that is enough for each known formula is enough for what they bring
pub brought_covered : (P : NormalFormula → Type 0) (c : Cover) (letter : ℕ) →
    ((f : NormalFormula) → P f → Covers c letter f) → {f : NormalFormula} → Brings P f → Covers c letter f
brought_covered P c letter all (of_known {f} there) = all f there
brought_covered P c letter all of_true = refl
brought_covered P c letter all (of_both h k) =
    (brought_covered P c letter all h, brought_covered P c letter all k)
brought_covered P c letter all (of_first h) = (brought_covered P c letter all h).0
brought_covered P c letter all (of_second h) = (brought_covered P c letter all h).1
brought_covered P c letter all (of_left h) = inl (brought_covered P c letter all h)
brought_covered P c letter all (of_right h) = inr (brought_covered P c letter all h)
brought_covered P c letter all (of_kept h) = (brought_covered P c letter all h).0
brought_covered P c letter all (of_end h) = inl (brought_covered P c letter all h)

pub release_now : (A B : ℕ → Type 0) (i : ℕ) → Keeps A B i → B i
release_now A B i r = elim (r.each i (omega arith)) [
  | inl there ↦ there
  | inr before ↦ absurd (let low = before.1 in let high = before.2 in omega arith)
]

-- a word that satisfies each known formula satisfies what they bring
pub brought_holds : (P : NormalFormula → Type 0) (w : ℕ → ℕ) (i : ℕ) →
    ((f : NormalFormula) → P f → Satisfies (plain f) w i) → {f : NormalFormula} → Brings P f →
    Satisfies (plain f) w i
brought_holds P w i all (of_known {f} there) = all f there
brought_holds P w i all of_true = refl
brought_holds P w i all (of_both h k) = (brought_holds P w i all h, brought_holds P w i all k)
brought_holds P w i all (of_first h) = (brought_holds P w i all h).0
brought_holds P w i all (of_second h) = (brought_holds P w i all h).1
brought_holds P w i all (of_left h) = inl (brought_holds P w i all h)
brought_holds P w i all (of_right h) = inr (brought_holds P w i all h)
brought_holds P w i all (of_kept {f} {g} h) =
    release_now (Satisfies (plain f) w) (Satisfies (plain g) w) i (brought_holds P w i all h)
brought_holds P w i all (of_end h) = record {
  end = i;
  later = omega arith;
  there = brought_holds P w i all h;
  before = λ k low high. absurd (omega arith);
}
