use Rattle.ps_diagram.specs.Table.{Keeps}
use Rattle.ps_game.specs.Games.{successors_of}
use Rattle.ps_brief.specs.Inner.Drafts.{TriesMoves}
use Rattle.ps_brief.proofs.drafts.Plan.moves_at.Given as goal

abbrev pub invariant-loop-number : goal.invariant-loop-number
invariant-loop-number l = record {
  keeps : Keeps l.fn.store l.store;
  tries : TriesMoves l.self l.store l.step.state (successors_of l.self.arena.now l.vertex) l.number l.moves;
}
