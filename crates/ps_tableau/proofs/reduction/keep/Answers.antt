use Rattle.std.proofs.Common.{List, inl, refl, subst, sym, ℕ, ◌∷◌, []}
use Rattle.std.proofs.lemmas.List.Elements.{Contains-append_left, Contains-push, Contains-push_cases}
use Rattle.std.specs.List.{Contains}
use Rattle.ps_formula.specs.NormalForms.{normal_formula_at}
use Rattle.ps_tableau.proofs.CoversOfSets.ReduceLemmas.{kept_brings, rest_brings}
use Rattle.ps_tableau.specs.Covers.{Brings, of_known}
use Rattle.ps_tableau.specs.Inner.Reduction.{IsOneOf, KeepsOrBrings}
use Rattle.ps_tableau.proofs.reduction.keep.Goals as goal

pub is_brought-requires-clause-known : goal.is_brought-requires-clause-known
is_brought-requires-clause-known c k there =
    c.requires.kept k (subst (λ (ks : List ℕ). Contains ks k) c.deref.ensures.value there)

pub returns-then-is_brought : goal.returns-then-is_brought
returns-then-is_brought c =
    let nodes = c.args.formulas.now in
    let f = normal_formula_at nodes c.args.index in
    record {
      fewer = λ k h. inl h;
      kept = λ k h. h;
      brings = kept_brings nodes c.args.kept.now.items c.args.rest.now f
          (subst (λ (ks : List ℕ). Brings (IsOneOf nodes ks) f)
          c.deref.ensures.value (c.is_brought.ensures c.if-is_brought.true));
    }

pub returns-then-is_brought-2 : goal.returns-then-is_brought-2
returns-then-is_brought-2 c =
    let nodes = c.args.formulas.now in
    let f = normal_formula_at nodes c.args.index in
    record {
      fewer = λ k h. inl h;
      kept = λ k h. h;
      brings = rest_brings nodes c.args.kept.now.items c.args.rest.now f
          (c.is_brought-2.ensures c.if-is_brought-2.true);
    }

pub returns : goal.returns
returns c =
    let nodes = c.args.formulas.now in
    let had = c.args.kept.now.items in
    let index = c.args.index in
    subst (λ (ks : List ℕ). KeepsOrBrings nodes had c.args.rest.now index ks) (sym c.in_ok-push.ensures.items) (record {
      fewer = λ k h. Contains-push_cases had index k h;
      kept = λ k h. Contains-append_left had (index ∷ []) k h;
      brings = of_known (index, inl (Contains-push had index), refl);
    })
