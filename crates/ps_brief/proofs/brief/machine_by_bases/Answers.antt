use Rattle.ps_brief.specs.ArenaGames.{letters_at}
use Rattle.ps_brief.proofs.ListedStates.KeptListings.{listing_kept}
use Rattle.ps_brief.proofs.brief.machine_by_bases.Goals as goal

pub brief_machine-requires-clause-listing : goal.brief_machine-requires-clause-listing
brief_machine-requires-clause-listing c =
    listing_kept c.args.setting.now c.in_ok-arena.ensures.keeps c.requires.listing

pub brief_machine-requires-clause-arena : goal.brief_machine-requires-clause-arena
brief_machine-requires-clause-arena c = rw c.deref.ensures.value (record {
  bases = letters_at c.args.bases.now;
  is_arena = c.in_ok-arena.ensures.arena;
})
