use Rattle.std.proofs.Common.{◌≡◌, ◌∙◌, ◌∷◌, ℕ, List, Some, ap, get_or, map, refl, subst, sym}
use Rattle.std.proofs.lemmas.Bool.{eqb-true}
use Rattle.std.proofs.lemmas.Option.{get_or_from_slice_get, slice_get-get_or}
use Rattle.std.proofs.lemmas.Result.{IfOk-weaker}
use Rattle.std.specs.List.{slice_get}
use Rattle.ps_formula.specs.NormalForms.{NormalFormula, normal_formula_at}
use Rattle.ps_tableau.proofs.BoardLemmas.{formulas_kept, grows_trans}
use Rattle.ps_tableau.proofs.CoversOfSets.KnownLemmas.{covers_at, fails_known, found_at, known_kept, place_kept}
use Rattle.ps_tableau.proofs.CoversOfSets.WayLemmas.{right_kept}
use Rattle.ps_tableau.specs.Boards.{HasCovers, formulas_in}
use Rattle.ps_tableau.specs.Inner.Joins.{IsPlaceOf}
use Rattle.ps_tableau.specs.Sets.{indices_in}
use Rattle.ps_tableau.specs.declared.edge.Edge.{Edge}
use Rattle.ps_tableau.proofs.states.place_with.Goals as goal
use Rattle.ps_tableau.proofs.states.place_with.Goals.{After-set_with}

others_there : (c : After-set_with) →
    slice_get c.args.known.now.sets c.args.others ≡ Some c.index-as_slice-others.result
others_there c = slice_get-get_or c.args.known.now.sets c.args.others c.index-as_slice-others.result c.requires.others
    ∙ ap Some (sym (subst (λ (xs : List ℕ).
    c.index-as_slice-others.result ≡ get_or xs c.args.others c.index-as_slice-others.result) c.as_slice.ensures
    c.index-as_slice-others.is))

others_are : (c : After-set_with) (rest : List ℕ) → IsPlaceOf c.args.board.now c.args.known.now rest c.args.others →
    indices_in c.args.board.now.sets c.index-as_slice-others.result ≡ rest
others_are c rest at =
    let same =
    get_or_from_slice_get c.args.known.now.sets c.args.others at.set c.index-as_slice-others.result at.there in
    let is = subst (λ (xs : List ℕ).
    c.index-as_slice-others.result ≡ get_or xs c.args.others c.index-as_slice-others.result) c.as_slice.ensures
    c.index-as_slice-others.is in
    ap (indices_in c.args.board.now.sets) (is ∙ same) ∙ at.is

others_known : (c : After-set_with) → IsPlaceOf c.set_with.new.self c.args.known.now
    (indices_in c.args.board.now.sets c.index-as_slice-others.result) c.args.others
others_known c = place_kept c.set_with.ensures.grows c.requires.known
    (record { set = c.index-as_slice-others.result; there = others_there c; is = refl })

pub returns-in_err-set : goal.returns-in_err-set
returns-in_err-set c =
    fails_known _ c.from_residual.result
    (c.set_with.ensures.grows) (known_kept c.set_with.ensures.grows c.requires.known) c.from_residual.ensures.1

pub returns-in-Some : goal.returns-in-Some
returns-in-Some c = record {
  grows = c.set_with.ensures.grows;
  known = known_kept c.set_with.ensures.grows c.requires.known;
  made = λ rest at. record {
    set = c.in_ok-set.set;
    there = found_at _ eqb-true _ _ _ c.in-Some.ensures.0 c.in-Some.ensures.1;
    is = c.in_ok-set.ensures.made.right ∙ ap (λ (ks : List ℕ). c.args.index ∷ ks)
        (others_are (goal.at.returns-in-Some c).After-set_with rest at);
  };
}

pub joined_with-requires-clause-right : goal.joined_with-requires-clause-right
joined_with-requires-clause-right c = right_kept c.set_with.ensures.grows c.requires.right

pub joined_with-requires-clause-edges : goal.joined_with-requires-clause-edges
joined_with-requires-clause-edges c =
    let w = (goal.at.joined_with-requires-clause-edges c).After-set_with in
    let mid = c.set_with.new.self in
    let fs = map (normal_formula_at mid.formulas) (indices_in c.args.board.now.sets c.index-as_slice-others.result) in
    (subst (λ (es : List Edge). HasCovers mid fs es) (sym c.deref.ensures.value)
    (covers_at c.index.result.now (known_kept c.set_with.ensures.grows c.requires.known) (others_known w)
    c.index.ensures)).held

pub joined_with-requires-clause-needed : goal.joined_with-requires-clause-needed
joined_with-requires-clause-needed c = rw c.set_with.ensures.grows.needed c.requires.needed

pub returns-in_err-covers : goal.returns-in_err-covers
returns-in_err-covers c =
    let grows = grows_trans c.set_with.ensures.grows c.joined_with.ensures.grows in
    fails_known _ c.from_residual-in_err-covers.result grows (known_kept grows c.requires.known)
    c.from_residual-in_err-covers.ensures.1

pub returns : goal.returns
returns c =
    let w = (goal.at.returns c).After-set_with in
    let mid = c.set_with.new.self in
    let new = c.joined_with.new.board in
    let grows = grows_trans c.set_with.ensures.grows c.joined_with.ensures.grows in
    let set = c.in_ok-set.set in
    let made = c.in_ok-set.ensures.made in
    let covers = c.in_ok-covers.ensures.made in
    let f = normal_formula_at mid.formulas in
    let fs = map f (indices_in c.args.board.now.sets c.index-as_slice-others.result) in
    let before = subst (λ (es : List Edge). HasCovers mid fs es) (sym c.deref.ensures.value)
    (covers_at c.index.result.now (known_kept c.set_with.ensures.grows c.requires.known) (others_known w)
    c.index.ensures) in
    let whole : formulas_in new set ≡ f c.args.index ∷ fs =
    formulas_kept c.joined_with.ensures.grows made.held ∙ ap (map f) made.right in
    record {
      grows = grows;
      known = c.add.ensures.known new (known_kept grows c.requires.known)
          (c.joined_with.ensures.grows.sets.held set made.held)
          (subst (λ (gs : List NormalFormula). HasCovers new gs c.in_ok-covers.covers.items) (sym whole)
          (record { held = covers.held; right = covers.right fs before.right }));
      made = IfOk-weaker c.add.result _ _ (λ place there rest at. record {
        set = c.in_ok-set.set;
        there = there;
        is = c.joined_with.ensures.grows.sets.same c.in_ok-set.set made.held ∙ made.right
            ∙ ap (λ (ks : List ℕ). c.args.index ∷ ks) (others_are w rest at);
      }) c.add.ensures.place;
    }
