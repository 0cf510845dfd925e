use Rattle.std.proofs.Common.{◌≡◌, ℕ, get_or, subst, sym, ap, ◌∙◌, arith, List}
use Rattle.std.proofs.lemmas.List.{get_or_append_left, get_or_push}
use Rattle.ps_diagram.specs.Table.{IsNode, leaf_of}
use Rattle.ps_automaton.specs.Inner.Views.{chain_data}
use Rattle.ps_automaton.proofs.StepsByState.Drafting.{steps_stay}
use Rattle.ps_automaton.proofs.StepsByState.Steps.{extends_same}
use Rattle.ps_automaton.proofs.draft.nodes_of.Goals as goal

pub returns-clause-draft : goal.returns-clause-draft
returns-clause-draft c =
    let file = c.args.file.now in
    let chain = chain_data c.args.levels.now.chain in
    let made = c.in_ok-nodes.ensures in
    let steps = c.nodes_of_states.new.pairs.steps in
    let keeps = c.leaf.ensures.keeps in
    let nodes = c.in_ok-nodes.nodes.items in
    let is = c.in_ok-push.ensures.items in
    let size = made.one_each in
    let sink : get_or c.push.new.self.items file.states 0 ≡ c.in_ok-leaf.field-0 = grind (arith, get_or_push) in
    record {
      letters = keeps.propositions ∙ made.letters;
      all_steps = made.steps;
      one_each = omega (arith, c.in_ok-push.ensures.len, size);
      states = λ q within.
          let same =
          ap (λ (ns : List ℕ). get_or ns q 0) is ∙ get_or_append_left nodes _ 0 q (omega (arith, within, size)) in
          grind (arith, steps_stay file chain nodes file.states (extends_same steps) keeps made.states q within);
      sink_held = subst (IsNode c.leaf.new.self) (sym sink) c.in_ok-leaf.ensures.held;
      sink = λ letter. ap (λ node. leaf_of c.leaf.new.self node letter) sink ∙ c.in_ok-leaf.ensures.leaf letter;
    }
