use Rattle.std.proofs.Common.{arith, ◌≡◌, ◌≤◌, ℕ, length, Some}
use Rattle.std.specs.List.{slice_get}
use Rattle.ps_hoa.specs.Views.{row_data}
use Rattle.ps_automaton.specs.Inner.Drafts.{AreJoined, AreSteps}
use Rattle.ps_automaton.specs.Inner.LetterSets.{edge_at}
use Rattle.ps_automaton.specs.declared.targets.Target.{Target}
use Rattle.ps_automaton.proofs.EdgesAtLetters.FirstEdges.{joined_mod}
use Rattle.ps_automaton.proofs.StepsByState.RowSteps.{steps_of_row}
use Rattle.ps_automaton.proofs.draft.node_by_sets.Goals as goal
use Rattle.ps_automaton.proofs.draft.node_by_sets.Goals.{In-Some-2, In_ok-node}

joined : (c : In-Some-2) → AreJoined c.args.source.now.file.now (row_data c.args.row.now)
    (length (row_data c.args.row.now).edges) c.in_ok-targets.targets.items (edge_at c.in-Some-2.edges.items)
joined c = rw c.deref.ensures.value at (rw c.in-Some-2.is at c.in_ok-edges.ensures.joined)

all_steps : (c : In_ok-node) → AreJoined c.args.source.now.file.now (row_data c.args.row.now)
    (length (row_data c.args.row.now).edges) c.in_ok-targets.targets.items (edge_at c.in-Some-2.edges.items) →
    AreSteps c.args.source.now.file.now.states c.node_of_edges.new.pairs.steps
all_steps c first =
    let low : (k : ℕ) (target : Target) → slice_get c.deref-2.result.now k ≡ Some target →
    target.state ≤ c.args.source.now.file.now.states = λ k target e.
    let h = first.within k target (rw c.deref-2.ensures.value at e) in
    omega (arith, h) in
    c.in_ok-node.ensures.within c.args.source.now.file.now.states low c.requires.source.steps

pub node_of_edges-requires-clause-firsts : goal.node_of_edges-requires-clause-firsts
node_of_edges-requires-clause-firsts c = rw (c.deref-3.ensures.value, c.deref-2.ensures.value)
    (rw c.deref.ensures.value at (rw c.in-Some-2.is at c.in_ok-edges.ensures.firsts))

pub returns : goal.returns
returns c =
    let made = (goal.at.returns c).In_ok-node in
    let first = joined (goal.at.returns c).In-Some-2 in
    let node = c.in_ok-node.ensures in
    let steps = all_steps made first in
    let leaf = rw (c.deref-3.ensures.value, c.requires.source.letters) at node.leaf.2 in
    record {
      grows = grind (arith, steps);
      node = λ q of_state. steps_of_row c.requires.sound c.requires.sound_row c.args.source.now.levels.now.few
          (joined_mod (edge_at c.in-Some-2.edges.items) first) steps
          (rw c.deref-2.ensures.value at node.leaf.1) q of_state c.node_of_edges.new.pairs.store node.held leaf;
    }
