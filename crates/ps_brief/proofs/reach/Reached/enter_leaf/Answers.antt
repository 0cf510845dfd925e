use Rattle.std.proofs.Common.{subst}
use Rattle.ps_automaton.specs.Automata.{pair_of}
use Rattle.ps_automaton.specs.declared.step.Step.{Step}
use Rattle.ps_machine.specs.Numbering.{StandsAt}
use Rattle.ps_machine.specs.declared.key.Key.TheVariants.{First}
use Rattle.ps_brief.specs.Inner.Drafts.{play_of}
use Rattle.ps_brief.specs.Inner.Reaching.{IsFound}
use Rattle.ps_brief.proofs.DrawnMachines.EnteredPlaces.{inserts}
use Rattle.ps_brief.proofs.reach.Reached.enter_leaf.Goals as goal

pub returns-clause-inserts : goal.returns-clause-inserts
returns-clause-inserts c =
    let plan = c.args.plan.now in
    let step = pair_of plan.setting.now.automaton.now c.args.leaf in
    let place = c.in-Some.place in
    let at = subst (λ (s : Step). StandsAt (play_of plan).keys place (First s.state s.priority))
    c.pair-step.ensures.pair c.in-Some.ensures in (
      place,
      record {
        stands = at;
        found = (step.state, step.priority, record { comes = c.requires.comes; stands = at });
      },
      inserts (IsFound plan) c.args.self.now.places.keys c.insert.new.self.keys place c.in_ok-insert.ensures.keys,
    )
