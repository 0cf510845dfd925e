use Rattle.std.proofs.Common.{◌≡◌, ◌∙◌, ◌+◌, ◌-◌, ◌<◌, ◌∷◌, List, ℕ, ap, append-nil, arith, drop}
use Rattle.std.proofs.Common.{length, map, subst, sym}
use Rattle.std.proofs.lemmas.Result.{IfOk-weaker}
use Rattle.ps_formula.specs.NormalForms.{NormalFormula, normal_formula_at}
use Rattle.ps_formula.specs.declared.normal_node.NormalNode.{NormalNode}
use Rattle.ps_tableau.proofs.BoardLemmas.{grows_trans}
use Rattle.ps_tableau.proofs.CoversOfSets.KnownLemmas.{covers_at, drop_one, fails_known, place_within}
use Rattle.ps_tableau.proofs.CoversOfSets.WayLemmas.{right_kept}
use Rattle.ps_tableau.specs.Boards.{HasCovers, formulas_in}
use Rattle.ps_tableau.specs.Inner.Joins.{IsPlaceOf}
use Rattle.ps_tableau.specs.Sets.{indices_in}
use Rattle.ps_tableau.specs.declared.edge.Edge.{Edge}
use Rattle.ps_tableau.proofs.states.edges_from.Goals as goal

pub place_with-requires-clause-right : goal.place_with-requires-clause-right
place_with-requires-clause-right c = right_kept c.loop-place.invariant.grows c.requires.right

pub place_with-requires-clause-others : goal.place_with-requires-clause-others
place_with-requires-clause-others c = place_within c.loop-place.invariant.last

pub returns-in_err-last-2 : goal.returns-in_err-last-2
returns-in_err-last-2 c =
    fails_known _ c.from_residual-in_err-last-2.result (grows_trans c.loop-place.invariant.grows
    c.place_with.ensures.grows) (c.place_with.ensures.known) c.from_residual-in_err-last-2.ensures.1

pub loop-place-preserved : goal.loop-place-preserved
loop-place-preserved c =
    let items = c.in_ok-formulas.formulas.items in
    let place = c.loop-place.place - 1 in
    let next : place + 1 ≡ c.loop-place.place = omega arith in
    let within : place < length items = omega (arith, c.len-place.ensures) in
    let index = c.index.result.now in
    let split : drop place items ≡ index ∷ drop c.loop-place.place items =
    subst (λ n. drop place items ≡ index ∷ drop n items) next (drop_one items place index within c.index.ensures) in
    record {
      grows = grows_trans c.loop-place.invariant.grows c.place_with.ensures.grows;
      known = c.place_with.ensures.known;
      last = subst (λ (ks : List ℕ). IsPlaceOf c.place_with.new.board c.place_with.new.known ks c.in_ok-last-2.last)
          (sym split)
          (c.in_ok-last-2.ensures.made (drop c.loop-place.place items) c.loop-place.invariant.last);
    }

pub index-requires-2 : goal.index-requires-2
index-requires-2 c =
    let low = place_within c.loop-place.invariant.last in
    omega (arith, low, c.loop-place.invariant.known.count, c.loop-place.known.covers.ok.0)

pub returns : goal.returns
returns c = record {
  grows = c.loop-place.invariant.grows;
  known = c.loop-place.invariant.known;
  made = IfOk-weaker c.appended.result _ _ (λ out is.
      let b = c.args.board.now in
      let mid = c.loop-place.board in
      let v = c.loop-place.invariant in
      let items = c.in_ok-formulas.formulas.items in
      let done : c.loop-place.place ≡ 0 = omega arith in
      let found = c.index-2.result.now in
      let made = covers_at found v.known v.last c.index-2.ensures in
      let whole : map (normal_formula_at mid.formulas) (drop c.loop-place.place items) ≡ formulas_in b c.args.state =
      ap (λ n. map (normal_formula_at mid.formulas) (drop n items)) done
      ∙ ap (map (normal_formula_at mid.formulas)) c.in_ok-formulas.ensures
      ∙ ap (λ (nodes : List NormalNode). map (normal_formula_at nodes) (indices_in b.sets c.args.state))
      v.grows.formulas in
      let same = is ∙ append-nil c.deref.result.now ∙ c.deref.ensures.value in
      subst (λ (es : List Edge). HasCovers mid (formulas_in b c.args.state) es) (sym same)
      (subst (λ (fs : List NormalFormula). HasCovers mid fs found.items) whole made)) c.appended.ensures;
}
