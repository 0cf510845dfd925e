use Rattle.std.proofs.Common.{sym, subst, arith}
use Rattle.std.specs.List.{Contains}
use Rattle.ps_automaton.specs.declared.step.Step.{Step}
use Rattle.ps_machine.specs.Inner.Moving.{step_key}
use Rattle.ps_machine.specs.Numbering.{StandsAt}
use Rattle.ps_basis.proofs.ListedOrder.{listed_in_order}
use Rattle.ps_brief.specs.Listings.{listed_keys}
use Rattle.ps_brief.specs.Settings.{board_in}
use Rattle.ps_brief.proofs.BriefArenas.ArenaMoves.{items_lead, leaf_listed, leaf_named, moves_all, moves_more}
use Rattle.ps_brief.proofs.BriefArenas.ArenaMoves.{over_mask}
use Rattle.ps_brief.proofs.ListedStates.KeptListings.{listed_within}
use Rattle.ps_brief.proofs.arena.find_moves.Goals as goal

pub node-node-requires : goal.node-node-requires
node-node-requires c =
    listed_within c.args.setting.now c.requires.listing c.args.state c.requires.state.0 c.requires.state.1

pub behind-requires-clause-over : goal.behind-requires-clause-over
behind-requires-clause-over c = over_mask c.args.setting.now c.requires.listing.fits c.args.letter c.requires.letter

pub pair-step-requires : goal.pair-step-requires
pair-step-requires c = leaf_named c.args.setting.now c.requires.listing.fits c.args.state c.args.letter c.node-node.result
    c.in_ok-rest.rest
    (listed_within c.args.setting.now c.requires.listing c.args.state c.requires.state.0 c.requires.state.1)
    c.requires.letter c.node-node.ensures.node c.in_ok-rest.ensures.keeps c.in_ok-rest.ensures.held
    c.in_ok-rest.ensures.leaf c.deref-leaf-items.result.now c.in_ok-leaves.leaves.items
    c.deref-leaf-items.ensures.value c.in_ok-leaves.ensures c.loop-leaf.leaf-index c.loop-leaf-test.true

pub place-requires : goal.place-requires
place-requires c = subst (λ (step : Step). Contains (listed_keys c.args.listing.now) (step_key step))
    (sym c.pair-step.ensures.pair)
    (leaf_listed c.args.setting.now c.requires.listing.fits c.args.state c.args.letter c.node-node.result c.in_ok-rest.rest
    (listed_within c.args.setting.now c.requires.listing c.args.state c.requires.state.0 c.requires.state.1)
    c.requires.letter c.node-node.ensures.node c.in_ok-rest.ensures.keeps c.in_ok-rest.ensures.held
    c.in_ok-rest.ensures.leaf c.deref-leaf-items.result.now c.in_ok-leaves.leaves.items
    c.deref-leaf-items.ensures.value c.in_ok-leaves.ensures (listed_keys c.args.listing.now)
    (listed_in_order (board_in c.args.setting.now) (listed_keys c.args.listing.now) c.requires.listing.listed)
    c.requires.state.0 c.requires.state.1 c.loop-leaf.leaf-index c.loop-leaf-test.true)

pub loop-leaf-preserved : goal.loop-leaf-preserved
loop-leaf-preserved c =
    let at : StandsAt (listed_keys c.args.listing.now) c.place.result (step_key c.pair-step.result) =
    c.place.ensures in
    rw c.in_ok-push.ensures.items (moves_more (listed_keys c.args.listing.now) c.args.setting.now.automaton.now
    c.deref-leaf-items.result.now c.loop-leaf.leaf-index c.loop-leaf.successors.items c.place.result
    c.loop-leaf-test.true
    (subst (λ (step : Step). StandsAt (listed_keys c.args.listing.now) c.place.result (step_key step))
    c.pair-step.ensures.pair at) c.loop-leaf.invariant)

pub returns-clause-found : goal.returns-clause-found
returns-clause-found c = (
  _,
  items_lead c.args.setting.now c.requires.listing.fits c.args.state c.args.letter c.node-node.result c.in_ok-rest.rest
      (listed_within c.args.setting.now c.requires.listing c.args.state c.requires.state.0 c.requires.state.1)
      c.requires.letter c.node-node.ensures.node c.in_ok-rest.ensures.keeps c.in_ok-rest.ensures.held
      c.in_ok-rest.ensures.leaf c.deref-leaf-items.result.now c.in_ok-leaves.leaves.items
      c.deref-leaf-items.ensures.value c.in_ok-leaves.ensures,
  moves_all (listed_keys c.args.listing.now) c.args.setting.now.automaton.now c.deref-leaf-items.result.now
      c.loop-leaf.leaf-index c.loop-leaf.successors.items (omega (arith, c.loop-leaf-test.false))
      c.loop-leaf.invariant,
)
