use Rattle.std.proofs.Common.{arith}
use Rattle.ps_automaton.specs.Inner.Views.{chain_data}
use Rattle.ps_automaton.proofs.EdgesAtLetters.Ready.{kept_nodes}
use Rattle.ps_automaton.proofs.StepsByState.Drafting.{steps_stay, one_more, first_fault}
use Rattle.ps_automaton.proofs.draft.nodes_of_states.Goals as goal

pub returns-in_err-state_node-clause-refused : goal.returns-in_err-state_node-clause-refused
returns-in_err-state_node-clause-refused c =
    let fault = first_fault c.args.source.now.file.now (chain_data c.args.source.now.levels.now.chain)
    c.loop-state.pairs.steps c.loop-state.pairs.store c.loop-state.nodes.items c.loop-state.state
    c.loop-state.invariant.each in
    grind arith

pub loop-state-preserved : goal.loop-state-preserved
loop-state-preserved c =
    let file = c.args.source.now.file.now in
    let chain = chain_data c.args.source.now.levels.now.chain in
    let g = c.in_ok-state_node.ensures.grows in
    let inv = c.loop-state.invariant in
    let new = c.state_node.new.pairs in
    let kept = steps_stay file chain c.loop-state.nodes.items c.loop-state.state g.extends g.keeps inv.each in
    grind (
      arith,
      kept_nodes g.keeps inv.nodes_of,
      one_more file chain new.steps new.store c.loop-state.nodes.items
          inv.count c.in_ok-push.ensures.items kept c.in_ok-state_node.ensures.node,
    )
