use Rattle.std.proofs.Common.{◌≡◌, ◌+◌, ◌++◌, ◌∷◌, [], All, take, ap, sym, ◌∙◌, rules}
use Rattle.std.specs.Prelude.{IsTrue}
use Rattle.std.proofs.lemmas.List.{take_more}
use Rattle.ps_diagram.proofs.NodeTables.Cells.{keeps_refl}
use Rattle.ps_diagram.proofs.NodeTables.KnownLemmas.{keeps_trans}
use Rattle.ps_product.specs.declared.truth.Truth.{Truth}
use Rattle.ps_product.specs.Truths.{IsTruth}
use Rattle.ps_product.proofs.CircuitFunctions.GroupLemmas.{grouped_again, grouped_more, grouped_none, taken}
use Rattle.ps_product.proofs.CircuitFunctions.GroupLemmas.{told_before}
use Rattle.ps_product.proofs.CircuitFunctions.TruthLemmas.{truth_kept}
use Rattle.ps_product.proofs.CircuitFunctions.TruthNodes.{truths_kept}
use Rattle.ps_product.proofs.grouping.grouped.Goals as goal
use Rattle.ps_product.proofs.grouping.grouped.Goals.{After-index-truths-place, then-not-is_told_apart+in_ok-made}
use Rattle.ps_product.proofs.grouping.grouped.Goals.{else-not-is_told_apart}

-- the function is a function of the store that is given
held : (c : After-index-truths-place) → IsTruth c.args.store.now c.index-truths-place.result
held c = rw c.index-truths-place.is
    (c.requires.truths c.loop-place.place c.index-truths-place.result c.loop-place-test.true)

before : (c : After-index-truths-place) → All (IsTruth c.args.store.now) (take c.loop-place.place c.args.truths.now)
before c = taken (IsTruth c.args.store.now) c.args.truths.now c.loop-place.place c.requires.truths

pub loop-place-init : goal.loop-place-init
loop-place-init c = record {
  keeps = keeps_refl c.args.store.now;
  held = c.requires.whole.held;
  grouped = grouped_none (keeps_refl c.args.store.now) c.requires.whole.held c.requires.whole.total;
}

pub is_told_apart-requires-clause-before : goal.is_told_apart-requires-clause-before
is_told_apart-requires-clause-before c = truths_kept _ c.loop-place.invariant.keeps (before c)

pub is_told_apart-requires-clause-truth : goal.is_told_apart-requires-clause-truth
is_told_apart-requires-clause-truth c = truth_kept c.loop-place.invariant.keeps _ (held c)

pub split_by-requires : goal.split_by-requires
split_by-requires c =
    let k = c.loop-place.invariant.keeps in
    record {
      whole = record {
        held = c.loop-place.invariant.held;
        total = λ x lt. c.loop-place.invariant.grouped.total x (rw (← k.propositions) lt);
      };
      truth_is = truth_kept k _ (held (goal.at.split_by-requires c).After-index-truths-place);
    }

pub returns-in_err-made : goal.returns-in_err-made
returns-in_err-made c = record {
  keeps = keeps_trans c.loop-place.invariant.keeps c.split_by.ensures.keeps;
  held = search rules;
  grouped = search rules;
}

pub loop-place-preserved : goal.loop-place-preserved
loop-place-preserved c =
    let v = c.loop-place.invariant in
    let i = c.loop-place.place in
    let truths = c.args.truths.now in
    let truth = c.index-truths-place.result in
    let at = (goal.at.loop-place-preserved c).After-index-truths-place in
    let more : take (i + 1) truths ≡ take i truths ++ truth ∷ [] =
    take_more truths i truth c.loop-place-test.true
    ∙ ap (λ (m : Truth). take i truths ++ m ∷ []) (sym c.index-truths-place.is) in
    elim c.if-not-is_told_apart.branch [
      | then-not-is_told_apart+in_ok-made w ↦ rw (w.store-is, w.made-is, more) (record {
        keeps = keeps_trans v.keeps w.split_by.ensures.keeps;
        held = w.in_ok-made.ensures.held;
        grouped = grouped_more (take i truths) truth w.in_ok-made.made v.keeps (before at) (held at) v.grouped
            w.in_ok-made.ensures.grouped;
      })
      | else-not-is_told_apart w ↦
          let told : IsTrue c.is_told_apart.result = search rules in
          rw (w.store-is, w.made-is, more) (record {
            keeps = v.keeps;
            held = v.held;
            grouped = grouped_again (take i truths) truth
                (told_before (take i truths) truth v.keeps (before at) (held at) (c.is_told_apart.ensures told))
                v.grouped;
          })
    ]
