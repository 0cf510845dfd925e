use Rattle.std.proofs.Common.{ap, sym, ◌∙◌, arith}
use Rattle.ps_diagram.proofs.NodeTables.Cells.{keeps_refl}
use Rattle.ps_diagram.proofs.NodeTables.KnownLemmas.{keeps_trans}
use Rattle.ps_brief.specs.Listings.{keys_of}
use Rattle.ps_brief.proofs.ListedStates.KeptTargets.{fits_kept}
use Rattle.ps_brief.proofs.ListedStates.Visits.{key_there, none_at, none_past, visiting_begun, visiting_done}
use Rattle.ps_brief.proofs.listing.listing_of.Goals as goal

pub returns-in_err-listing-clause-keeps : goal.returns-in_err-listing-clause-keeps
returns-in_err-listing-clause-keeps c = keeps_refl c.args.store.now

pub loop-state-init : goal.loop-state-init
loop-state-init c = record {
  keeps = keeps_refl c.args.store.now;
  visiting = visiting_begun c.args.setting.now c.in_ok-listing.listing (ap keys_of c.in_ok-listing.ensures.entered)
      c.in_ok-listing.ensures.targets (let start = c.requires.fit.whole.start in omega (arith, start));
}

pub visit-requires-clause-fits : goal.visit-requires-clause-fits
visit-requires-clause-fits c = fits_kept c.args.setting.now c.loop-state.invariant.keeps c.requires

pub visit-requires-clause-state : goal.visit-requires-clause-state
visit-requires-clause-state c =
    let (p, at) = key_there c.loop-state.listing.entered.keys c.loop-state.place c.in-Some.state
    c.in-Some.ensures.state in
    c.loop-state.invariant.visiting.within c.loop-state.place c.in-Some.state p at

pub returns-in_err-visit-clause-keeps : goal.returns-in_err-visit-clause-keeps
returns-in_err-visit-clause-keeps c = keeps_trans c.loop-state.invariant.keeps c.in_err-visit.ensures.keeps

pub loop-state-preserved : goal.loop-state-preserved
loop-state-preserved c =
    let (p, at) = key_there c.loop-state.listing.entered.keys c.loop-state.place c.in-Some.state
    c.in-Some.ensures.state in
    record {
      keeps = keeps_trans c.loop-state.invariant.keeps c.in_ok-visit.ensures.keeps;
      visiting = c.in_ok-visit.ensures.visited c.loop-state.place p c.loop-state.invariant.visiting at;
    }

pub returns-clause-listing : goal.returns-clause-listing
returns-clause-listing c = visiting_done c.args.setting.now c.loop-state.listing c.loop-state.place
    (fits_kept c.args.setting.now c.loop-state.invariant.keeps c.requires) c.loop-state.invariant.visiting
    (none_past c.loop-state.listing.entered.keys c.loop-state.place
    (sym (none_at c.state.result c.in_default.not-Some) ∙ c.state.ensures.state))
