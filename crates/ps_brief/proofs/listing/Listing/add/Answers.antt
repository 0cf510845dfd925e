use Rattle.std.proofs.Common.{◌<◌, length, refl, arith}
use Rattle.std.proofs.lemmas.List.{length-map}
use Rattle.ps_automaton.specs.contracts.step.StepPartialEq.TheImpl as step_eq
use Rattle.ps_brief.specs.Targets.{target_keys}
use Rattle.ps_brief.proofs.ListedStates.EnteredKeys.{adding_next, adding_none, target_key_at}
use Rattle.ps_brief.proofs.ListedStates.StepTests.{passes_itself, same_by_test}
use Rattle.ps_brief.proofs.ListedStates.TargetLists.{key_of_target}
use Rattle.ps_brief.proofs.listing.Listing.add.Goals as goal

pub loop-place-init : goal.loop-place-init
loop-place-init c = record { entered = adding_none c.args.self.now.entered.keys; targets = refl }

pub loop-place-preserved : goal.loop-place-preserved
loop-place-preserved c =
    let inv = c.loop-place.invariant in
    let list = c.args.targets.now.list.items in
    let n = c.loop-place.place in
    let within : n < length list = omega (arith, c.loop-place-test.true) in
    let inside : n < length (target_keys list) = omega (arith, within, length-map list key_of_target) in
    record {
      entered = adding_next (step_eq.eq-value).it same_by_test passes_itself c.args.self.now.entered.keys
          (target_keys list) n c.loop-place.self.entered.keys c.insert.new.self.keys
          (record { state = c.index-target.result.now.state; priority = c.index-target.result.now.priority }) c.requires
          inside
          (target_key_at list n c.index-target.result.now within c.index-target.ensures) inv.entered
          c.in_ok-insert.ensures.keys;
      targets = inv.targets;
    }
