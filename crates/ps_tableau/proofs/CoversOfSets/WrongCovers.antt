-- Lists of covers of `p U q` that are wrong.
use Rattle.std.proofs.Common.{◌≡◌, ℕ, inl, inr, [], ◌∷◌, arith, refl, subst, sym}
use Rattle.std.proofs.lemmas.Bool.{false≢true}
use Rattle.std.specs.Prelude.{IsTrue}
use Rattle.ps_label.specs.Truth.{is_in}
use Rattle.ps_label.specs.Words.{lasso_word}
use Rattle.ps_formula.specs.NormalForms.{NormalFormula, plain}
use Rattle.ps_formula.specs.Satisfaction.{Satisfies}
use Rattle.ps_formula.proofs.LassoTruths.{lasso_is_decided}
use Rattle.ps_tableau.specs.Covers.{AreCoversOf, Cover, SatisfiesAll}
use Rattle.ps_tableau.specs.Examples.{end_now, p_until_q, not_postponing}
use Rattle.ps_tableau.proofs.Members.{first_in, in_none, in_one, later_in}

-- at the letter of p alone, the until must be postponed
pub not_postponing_is_not_enough : ¬ AreCoversOf (p_until_q ∷ []) (end_now ∷ not_postponing ∷ [])
not_postponing_is_not_enough covers =
    let enough = covers.enough not_postponing
    (later_in end_now (not_postponing ∷ []) not_postponing (first_in not_postponing [])) in
    elim (enough.each p_until_q (first_in p_until_q []) 1 refl) [
      | inl end ↦ false≢true end
      | inr later ↦ in_none p_until_q later.2
    ]

-- a word whose first letter is p alone, and whose other letters are q alone, satisfies the until without q at first
pub end_alone_is_not_usable : ¬ AreCoversOf (p_until_q ∷ []) (end_now ∷ [])
end_alone_is_not_usable covers =
    let w : ℕ → ℕ = lasso_word (1 ∷ []) (2 ∷ []) in
    let holds : Satisfies (plain p_until_q) w 0 = record {
      end = 1;
      later = omega arith;
      there = refl;
      before = λ k low high. let e : 0 ≡ k = omega arith in subst (λ (j : ℕ). IsTrue (is_in 0 (w j))) e refl;
    } in
    let satisfied : SatisfiesAll (p_until_q ∷ []) w 0 = record {
      each = λ f there. subst (λ (g : NormalFormula). Satisfies (plain g) w 0) (in_one p_until_q f there) holds;
    } in
    let used = covers.usable w 0 (lasso_is_decided (1 ∷ []) (2 ∷ []) (omega arith)) satisfied in
    let is : end_now ≡ used.0 = in_one end_now used.0 used.1 in
    false≢true (subst (λ (c : Cover). IsTrue (c.guard (w 0))) (sym is) used.2.guard)
