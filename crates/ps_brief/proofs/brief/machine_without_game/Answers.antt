use Rattle.ps_brief.specs.declared.brief.TheConstants.{MOST_LETTERS}
use Rattle.ps_brief.proofs.BriefArenas.RichGames.{none_rich}
use Rattle.ps_brief.proofs.brief.machine_without_game.Goals as goal

pub returns-clause-none_only : goal.returns-clause-none_only
returns-clause-none_only c = none_rich c.new-setting.result c.in_ok-listing.listing c.in_ok-listing.ensures.listing
    MOST_LETTERS c.args.order c.args.automaton.now c.new-setting.ensures.order c.new-setting.ensures.automaton
    c.machine_by_listing.result c.machine_by_listing.ensures.none_only
