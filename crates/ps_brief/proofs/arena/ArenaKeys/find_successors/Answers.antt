use Rattle.std.proofs.Common.{length}
use Rattle.std.proofs.lemmas.Result.{on_ok_weaker}
use Rattle.ps_brief.specs.Listings.{listed_keys}
use Rattle.ps_brief.specs.Settings.{board_in}
use Rattle.ps_brief.proofs.BriefArenas.ArenaSuccessors.{found_moves, second_letter, second_listed}
use Rattle.ps_brief.proofs.arena.ArenaKeys.find_successors.Goals as goal

pub find_moves-requires-clause-state : goal.find_moves-requires-clause-state
find_moves-requires-clause-state c =
    second_listed c.args.setting.now c.args.listing.now c.args.bases.now c.args.self.now
    (length (listed_keys c.args.listing.now)) c.requires.bases c.requires.keys c.args.key c.in-Second.state
    c.in-Second.letter c.in-Second.is c.requires.key

pub find_moves-requires-clause-letter : goal.find_moves-requires-clause-letter
find_moves-requires-clause-letter c =
    second_letter c.args.setting.now c.args.listing.now c.args.bases.now c.args.self.now
    (length (listed_keys c.args.listing.now)) c.requires.bases c.requires.keys c.args.key c.in-Second.state
    c.in-Second.letter c.in-Second.is c.requires.key

pub returns-in-Second-clause-found : goal.returns-in-Second-clause-found
returns-in-Second-clause-found c = on_ok_weaker c.find_moves.result
    (found_moves (board_in c.args.setting.now) c.args.listing.now c.args.bases.now c.args.self.now
    (length (listed_keys c.args.listing.now)) c.requires.keys c.args.key c.in-Second.state c.in-Second.letter
    c.in-Second.is c.find_moves.new.successors.items) c.find_moves.ensures.found
