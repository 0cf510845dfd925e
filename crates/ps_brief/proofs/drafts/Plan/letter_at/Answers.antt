use Rattle.std.proofs.Common.{sym}
use Rattle.ps_brief.proofs.DraftedMoves.MovesAt.{first_below, first_letter}
use Rattle.ps_brief.proofs.drafts.Plan.letter_at.Goals as goal

pub key_of-requires : goal.key_of-requires
key_of-requires c = first_below c.args.self.now c.args.vertex c.args.state c.requires.moves.0 c.in-Some.chosen
    c.requires.moves.1 (sym c.in-Some.ensures)

pub returns : goal.returns
returns c = first_letter c.args.self.now c.args.vertex c.args.state c.requires.moves.0 c.in-Some.chosen
    c.requires.moves.1 (sym c.in-Some.ensures) c.in-Second.state c.in-Second.letter c.in-Second.ensures
