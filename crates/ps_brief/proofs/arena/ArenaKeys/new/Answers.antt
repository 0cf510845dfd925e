use Rattle.std.proofs.Common.{get_or, rules}
use Rattle.ps_automaton.specs.declared.step.Step.{Step}
use Rattle.ps_machine.specs.declared.key.Key.TheVariants.{First}
use Rattle.ps_basis.proofs.ArenaKeys.{stands_in}
use Rattle.ps_brief.specs.Listings.{listed_keys}
use Rattle.ps_brief.proofs.BriefArenas.ArenaKeyLists.{keys_begun, no_step}
use Rattle.ps_brief.proofs.ListedStates.ListedPlaces.{index_stands}
use Rattle.ps_brief.proofs.arena.ArenaKeys.new.Goals as goal

pub loop-step-init : goal.loop-step-init
loop-step-init c = keys_begun c.args.listing.now c.args.bases.now
    (record { list = c.in_ok-keys.field-0; firsts = c.new.result }) c.requires.different c.in_ok-keys.ensures
    (λ q. search rules)

pub add_state-requires : goal.add_state-requires
add_state-requires c =
    let step : Step = get_or c.as_slice-step-items.result.now c.loop-step.step-index no_step in
    c.requires.rising step.state step.priority
    (stands_in (listed_keys c.args.listing.now) c.loop-step.step-index (First step.state step.priority)
    (index_stands c.args.listing.now.entered.keys c.as_slice-step-items.result.now c.loop-step.step-index no_step
    c.as_slice-step-items.ensures.keys c.loop-step-test.true))

pub loop-step-preserved : goal.loop-step-preserved
loop-step-preserved c = c.in_ok-add_state.ensures c.args.listing.now c.loop-step.step-index
    (get_or c.as_slice-step-items.result.now c.loop-step.step-index no_step).priority c.loop-step.invariant
    (index_stands c.args.listing.now.entered.keys c.as_slice-step-items.result.now c.loop-step.step-index no_step
    c.as_slice-step-items.ensures.keys c.loop-step-test.true)
