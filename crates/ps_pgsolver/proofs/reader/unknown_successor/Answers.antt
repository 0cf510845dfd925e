use Rattle.std.proofs.Common.{List, ℕ, Some, Ok, subst}
use Rattle.ps_text.specs.Parts.{PartAnswers}
use Rattle.ps_pgsolver.specs.GameTexts.{pg_causes, game}
use Rattle.ps_pgsolver.specs.Lexer.{stream_of}
use Rattle.ps_pgsolver.proofs.ReadGames.GameAnswers.{none_unknown}
use Rattle.ps_pgsolver.proofs.reader.unknown_successor.Goals as goal

pub unreachable-requires : goal.unreachable-requires
unreachable-requires c = c.requires.some (none_unknown c.args.text.now c.args.nodes.now c.in-Ok.field-0 c.requires.read
    (subst (λ (ids : List ℕ). PartAnswers pg_causes (game (Some ids)) (stream_of c.args.text.now) (Ok c.in-Ok.field-0))
    c.ids.ensures.ids c.in-Ok.ensures.answer))
