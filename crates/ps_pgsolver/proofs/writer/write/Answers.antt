use Rattle.std.proofs.Common.{arith, ap, length, subst, sym, ◌≡◌, Ok}
use Rattle.ps_game.specs.Plays.{greatest}
use Rattle.ps_pgsolver.specs.Reading.{IsGameAnswer}
use Rattle.ps_pgsolver.specs.Written.{IsWord, vertex_lines, game_text}
use Rattle.ps_pgsolver.proofs.WrittenGames.{reads_again}
use Rattle.ps_pgsolver.proofs.writer.write.Goals as goal

pub returns-clause-read_again : goal.returns-clause-read_again
returns-clause-read_again c =
    let game = c.args.game.now in
    let lines = vertex_lines game.ids game.names 0 game.game in
    let bytes : c.write_vertices.new.out.items ≡ game_text game = grind arith in
    let word : IsWord (greatest game.ids) = subst IsWord c.greatest_id.ensures c.in_ok-write_head.ensures.word in
    let written = c.in_ok-write_vertices.ensures in
    λ short. subst (λ t. IsGameAnswer t (Ok game)) (sym bytes) (reads_again game written.well_formed c.requires
    written.ids written.priorities word (omega (arith, short, ap length bytes)))
