use Rattle.ps_brief.proofs.ListedStates.KeptListings.{listing_kept}
use Rattle.ps_brief.proofs.brief.machine_by_listing.Goals as goal

pub machine_by_bases-requires-clause-listing : goal.machine_by_bases-requires-clause-listing
machine_by_bases-requires-clause-listing c =
    listing_kept c.args.setting.now c.in_ok-bases.ensures.keeps c.requires
