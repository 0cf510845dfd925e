use Rattle.std.proofs.Common.{List, ◌∷◌, [], ◌++◌, get_or, refl, ap, ◌∙◌, sym, arith, rules}
use Rattle.std.proofs.lemmas.List.{length-map, length-append}
use Rattle.std.proofs.lemmas.Option.{slice_get_within}
use Rattle.ps_hoa.specs.declared.file.Edge.{Edge}
use Rattle.ps_automaton.specs.Inner.Drafts.{Extends}
use Rattle.ps_automaton.specs.Inner.Places.{IsPlaced}
use Rattle.ps_automaton.specs.Inner.Views.{chain_data}
use Rattle.ps_automaton.proofs.StepsByState.DistinctEntries.{at_end}
use Rattle.ps_automaton.proofs.EdgesAtLetters.Fitting.{edge_at, edge_marks_few}
use Rattle.ps_automaton.proofs.EdgesAtLetters.LetterRows.{targets_more}
use Rattle.ps_automaton.proofs.StepsByState.Steps.{extends_both, named_wider, step_extends, step_within, named_more}
use Rattle.ps_automaton.proofs.draft.places_of_edges.Goals as goal

pub target_of-target-requires-clause-edge : goal.target_of-target-requires-clause-edge
target_of-target-requires-clause-edge c =
    let x = c.edge-item in
    let l = c.loop-edge in
    edge_marks_few c.requires.1 c.requires.2 l.edge-index
    (edge_at c.args.row.now.edges.items l.edge-index omega arith
    (x.is ∙ ap (λ (es : List Edge). get_or es l.edge-index x.result) c.deref-edge-items.ensures.value))

pub loop-edge-preserved : goal.loop-edge-preserved
loop-edge-preserved c =
    let x = c.edge-item in
    let l = c.loop-edge in
    let inv = l.invariant in
    let chain = chain_data c.args.levels.now.chain in
    let new = c.place_of.new.self in
    let target = c.target_of-target.result in
    let step = c.step_to.result in
    let placed : IsPlaced l.steps new step c.in_ok-place.place = c.in_ok-place.ensures in
    let more : Extends l.steps new = step_extends step placed in
    let at = edge_at c.args.row.now.edges.items l.edge-index omega arith
    (x.is ∙ ap (λ (es : List Edge). get_or es l.edge-index x.result) c.deref-edge-items.ensures.value) in
    let targets = inv.named.0 in
    let count = inv.named.1 in
    let all = targets ++ target ∷ [] in
    record {
      extends = extends_both c.args.steps.now l.steps new inv.extends more;
      within = λ states low a. step_within step placed
          (search (rules, low l.edge-index _ at, c.step_to.ensures, c.target_of-target.ensures.state))
          (inv.within states low a);
      so_far = omega (arith, c.in_ok-push.ensures.len, inv.so_far);
      named = (
        all,
        omega (arith, length-append targets (target ∷ []), count),
        targets_more targets count refl at c.target_of-target.ensures inv.named.2,
        named_more chain all l.steps new l.places.items c.in_ok-place.place more placed.stored c.step_to.ensures
            (rw (← count) (at_end targets target)) inv.so_far c.in_ok-push.ensures.items
            (named_wider chain targets target l.steps l.places.items (inv.so_far ∙ sym count) inv.named.3),
      );
    }

pub returns-clause-places : goal.returns-clause-places
returns-clause-places c =
    let named = c.loop-edge.invariant.named in
    (named.0, search (rules, length-map, slice_get_within), search rules)
