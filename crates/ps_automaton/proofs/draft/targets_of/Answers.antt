use Rattle.std.proofs.Common.{List, get_or, ap, ◌∙◌, arith, rules}
use Rattle.std.proofs.lemmas.List.{length-map}
use Rattle.std.proofs.lemmas.Option.{slice_get_within}
use Rattle.ps_hoa.specs.declared.file.Edge.{Edge}
use Rattle.ps_automaton.proofs.EdgesAtLetters.Fitting.{edge_at, edge_marks_few}
use Rattle.ps_automaton.proofs.EdgesAtLetters.LetterRows.{targets_more}
use Rattle.ps_automaton.proofs.draft.targets_of.Goals as goal

pub target_of-requires-clause-edge : goal.target_of-requires-clause-edge
target_of-requires-clause-edge c =
    let x = c.edge-item in
    let l = c.loop-edge in
    edge_marks_few c.requires.1 c.requires.2 l.edge-index
    (edge_at c.args.row.now.edges.items l.edge-index omega arith
    (x.is ∙ ap (λ (es : List Edge). get_or es l.edge-index x.result) c.deref-edge-items.ensures.value))

pub loop-edge-preserved : goal.loop-edge-preserved
loop-edge-preserved c =
    let x = c.edge-item in
    let l = c.loop-edge in
    let at = edge_at c.args.row.now.edges.items l.edge-index omega arith
    (x.is ∙ ap (λ (es : List Edge). get_or es l.edge-index x.result) c.deref-edge-items.ensures.value) in
    grind (
      arith,
      targets_more l.targets.items l.invariant.so_far c.in_ok-push.ensures.items at c.target_of.ensures
          l.invariant.each,
    )

pub returns : goal.returns
returns c = search (rules, length-map, slice_get_within)
