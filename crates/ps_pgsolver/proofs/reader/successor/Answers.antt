use Rattle.std.proofs.Common.{arith}
use Rattle.std.specs.Option.{option_copied}
use Rattle.ps_text.specs.Answers.{offset_of}
use Rattle.ps_pgsolver.proofs.ReadGames.GameExits.{exit}
use Rattle.ps_pgsolver.proofs.TokensOfGames.SingleSigns.{reads_successor, later_successor}
use Rattle.ps_pgsolver.proofs.reader.successor.Goals as goal

pub returns-in_err-id-clause-part : goal.returns-in_err-id-clause-part
returns-in_err-id-clause-part c = grind (arith, reads_successor, exit)

pub returns-clause-part : goal.returns-clause-part
returns-clause-part c = grind (arith, reads_successor)

pub returns-clause-later : goal.returns-clause-later
returns-clause-later c =
    let old = c.args.tokens.now in
    let known = option_copied c.args.known in
    let at = offset_of old.pieces old.end in
    later_successor known old _ c.any_number_at.ensures.rest (grind arith)
