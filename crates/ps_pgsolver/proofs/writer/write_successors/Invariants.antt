use Rattle.std.proofs.Common.{◌≡◌, ◌++◌, drop}
use Rattle.ps_game.specs.Games.{successors_of}
use Rattle.ps_pgsolver.specs.Written.{commas, list_text}
use Rattle.ps_pgsolver.proofs.writer.write_successors.Given as goal

abbrev pub invariant-loop-number : goal.invariant-loop-number
invariant-loop-number l = l.out.items ++ commas l.named.ids (drop l.number (successors_of l.named.game l.vertex))
    ≡ l.fn.out.items ++ list_text l.named.ids (successors_of l.named.game l.vertex)
