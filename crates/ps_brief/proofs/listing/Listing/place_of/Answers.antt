use Rattle.ps_brief.proofs.ListedStates.PlacedKeys.{place_found}
use Rattle.ps_brief.proofs.listing.Listing.place_of.Goals as goal

pub returns : goal.returns
returns c = place_found c.args.self.now.entered.keys c.get_index_of.result c.args.step c.get_index_of.ensures.index
    c.get_index_of.ensures.found
