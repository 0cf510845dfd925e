use Rattle.std.proofs.Common.{◌∙◌, ◌∷◌, [], ap, arith, get_or, length, length-append, sym, take}
use Rattle.std.proofs.lemmas.List.{take_more}
use Rattle.std.proofs.lemmas.Option.{slice_get-get_or}
use Rattle.ps_cone.proofs.Pairs.{contains_at}
use Rattle.ps_formula.specs.Formulas.{Formula, formula_at}
use Rattle.ps_formula.specs.Satisfaction.{Satisfies}
use Rattle.ps_label.specs.Words.{lasso_word}
use Rattle.ps_sentences.proofs.GrownLemmas.{all_append, all_at, all_over, mapped_join, mapped_over}
use Rattle.std.specs.List.{Contains}
use Rattle.ps_models.proofs.claims.first_violated.Goals as goal

pub holds-requires-clause-root : goal.holds-requires-clause-root
holds-requires-clause-root c =
    all_at _ c.args.formulas.now c.loop-formula.formula-index 0 c.requires.there c.loop-formula-test.true

pub loop-formula-preserved-then-branch : goal.loop-formula-preserved-then-branch
loop-formula-preserved-then-branch c =
    let fs = c.args.formulas.now in
    let k = c.loop-formula.formula-index in
    let w = lasso_word c.args.word.now.stem c.args.word.now.lap in
    let P : Formula → Type 0 = λ f. Satisfies f w 0 in
    let inv = c.loop-formula.invariant in
    record {
      among = inv.among;
      violated = inv.violated;
      none = λ empty. mapped_over P (formula_at c.args.table.now) (sym (take_more fs k 0 c.loop-formula-test.true))
          (mapped_join P (formula_at c.args.table.now) (take k fs) (get_or fs k 0 ∷ []) (inv.none empty)
          ((rw (c.stem.ensures, c.lap.ensures) at c.in_ok-holds.ensures).0 c.if-branch.true, tt));
    }

pub loop-formula-preserved : goal.loop-formula-preserved
loop-formula-preserved c =
    let fs = c.args.formulas.now in
    let k = c.loop-formula.formula-index in
    let x = get_or fs k 0 in
    let w = lasso_word c.args.word.now.stem c.args.word.now.lap in
    let inv = c.loop-formula.invariant in
    let old = c.loop-formula.found.items in
    let there : Contains fs x = contains_at fs k x (slice_get-get_or fs k 0 c.loop-formula-test.true) in
    let items = c.in_ok-push.ensures.items in
    record {
      among = all_over (Contains fs) (sym items) (all_append (Contains fs) old (x ∷ []) inv.among (there, tt));
      violated = mapped_over (λ f. ¬ Satisfies f w 0) (formula_at c.args.table.now) (sym items)
          (mapped_join (λ f. ¬ Satisfies f w 0) (formula_at c.args.table.now) old (x ∷ []) inv.violated (
            λ holds. let yes = (rw (c.stem.ensures, c.lap.ensures) at c.in_ok-holds.ensures).1 holds in
                let no = c.if-branch.false in cc,
            tt,
          ));
      none = λ empty. absurd (omega (arith, ap length (sym items ∙ empty), length-append old (x ∷ [])));
    }
