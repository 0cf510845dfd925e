use Rattle.std.proofs.Common.{◌≡◌, ◌∙◌, length, subst, arith}
use Rattle.std.proofs.lemmas.List.{length-map}
use Rattle.ps_hoa.specs.Views.{row_data}
use Rattle.ps_automaton.specs.Inner.Drafts.{AreSteps, IsUnion}
use Rattle.ps_automaton.proofs.StepsByState.RowSteps.{leaf_within, steps_of_row}
use Rattle.ps_automaton.proofs.draft.node_by_labels.Goals as goal
use Rattle.ps_diagram.proofs.NodeTables.KnownLemmas.{keeps_trans}

pub node_of_union-requires-clause-within : goal.node_of_union-requires-clause-within
node_of_union-requires-clause-within c = λ letter small.
    let letters = c.in_ok-union.ensures.keeps.propositions ∙ c.in_ok-label.ensures.keeps.propositions
    ∙ c.requires.source.letters in
    leaf_within c.in_ok-union.ensures.union letter (rw letters at small)

pub returns-clause-steps : goal.returns-clause-steps
returns-clause-steps c =
    let row = row_data c.args.row.now in
    let made = c.in_ok-node_of_union.ensures in
    let all_edges : length c.args.row.now.edges.items ≡ length row.edges = grind (arith, length-map) in
    let union = subst (λ n. IsUnion c.args.source.now.file.now row n c.in_ok-union.union.targets c.joined.new.store
    c.in_ok-union.union.node) all_edges c.in_ok-union.ensures.union in
    let steps : AreSteps c.args.source.now.file.now.states c.node_of_union.new.pairs.steps =
    made.within c.args.source.now.file.now.states
    (λ k target e. let h = union.joined.within k target e in omega (arith, h)) c.requires.source.steps in
    record {
      grows = grind (arith, keeps_trans c.in_ok-union.ensures.keeps made.keeps, steps);
      node =
          λ q of_state. steps_of_row c.requires.sound c.requires.sound_row c.args.source.now.levels.now.few union.joined
          steps made.leaf.1 q of_state c.node_of_union.new.pairs.store made.held made.leaf.2;
    }
