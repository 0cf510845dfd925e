use Rattle.std.proofs.Common.{ap, arith, get_or, length, List, rules}
use Rattle.std.proofs.lemmas.List.{length-map}
use Rattle.ps_automaton.specs.declared.step.Step.{Step}
use Rattle.ps_machine.specs.declared.key.Key.TheVariants.{First}
use Rattle.ps_diagram.proofs.NodeTables.Cells.{keeps_refl}
use Rattle.ps_diagram.proofs.NodeTables.KnownLemmas.{keeps_trans}
use Rattle.ps_basis.proofs.ArenaKeys.{stands_in}
use Rattle.ps_brief.specs.Listings.{listed_keys}
use Rattle.ps_brief.proofs.BriefArenas.ArenaKeyLists.{no_step}
use Rattle.ps_brief.proofs.ListedStates.EnteredKeys.{key_of_step}
use Rattle.ps_brief.proofs.BriefArenas.Findings.{finding_begun, finding_done}
use Rattle.ps_brief.proofs.ListedStates.KeptListings.{listing_kept}
use Rattle.ps_brief.proofs.ListedStates.ListedPlaces.{index_stands}
use Rattle.ps_brief.proofs.bases.bases_of.Goals as goal

pub loop-step-init : goal.loop-step-init
loop-step-init c = record {
  keeps = keeps_refl c.args.store.now;
  finding = finding_begun c.args.setting.now c.args.listing.now (record { of = c.new.result }) (λ q. search rules);
}

pub find-requires-clause-listing : goal.find-requires-clause-listing
find-requires-clause-listing c = listing_kept c.args.setting.now c.loop-step.invariant.keeps c.requires

pub find-requires-clause-listed : goal.find-requires-clause-listed
find-requires-clause-listed c =
    let items = c.as_slice-step-items.result.now in
    let n = c.loop-step.step-index in
    let step : Step = get_or items n no_step in (
      step.priority,
      stands_in (listed_keys c.args.listing.now) n (First step.state step.priority)
          (index_stands c.args.listing.now.entered.keys items n no_step c.as_slice-step-items.ensures.keys
          c.loop-step-test.true),
    )

pub returns-in_err-is_found-clause-keeps : goal.returns-in_err-is_found-clause-keeps
returns-in_err-is_found-clause-keeps c = keeps_trans c.loop-step.invariant.keeps c.in_err-is_found.ensures.keeps

pub loop-step-preserved : goal.loop-step-preserved
loop-step-preserved c =
    let items = c.as_slice-step-items.result.now in
    let n = c.loop-step.step-index in
    record {
      keeps = keeps_trans c.loop-step.invariant.keeps c.find.ensures.keeps;
      finding = c.in_ok-is_found.ensures.found c.if-not-is_found.false n (get_or items n no_step).priority
          c.loop-step.invariant.finding
          (index_stands c.args.listing.now.entered.keys items n no_step c.as_slice-step-items.ensures.keys
          c.loop-step-test.true);
    }

pub returns-clause-bases : goal.returns-clause-bases
returns-clause-bases c =
    let keys = c.args.listing.now.entered.keys in
    finding_done c.args.setting.now c.args.listing.now c.loop-step.bases c.loop-step.step-index
    c.loop-step.invariant.finding (omega (
      arith,
      c.loop-step-test.false,
      ap (λ (xs : List Step). length xs) c.as_slice-step-items.ensures.keys,
      length-map keys key_of_step,
    ))

pub returns-then-not-is_found-clause-none_only : goal.returns-then-not-is_found-clause-none_only
returns-then-not-is_found-clause-none_only c =
    let items = c.as_slice-step-items.result.now in
    let n = c.loop-step.step-index in
    let step : Step = get_or items n no_step in
    record {
      state = step.state;
      priority = step.priority;
      listed = stands_in (listed_keys c.args.listing.now) n (First step.state step.priority)
          (index_stands c.args.listing.now.entered.keys items n no_step c.as_slice-step-items.ensures.keys
          c.loop-step-test.true);
      many = c.in_ok-is_found.ensures.false_only c.if-not-is_found.true;
    }
