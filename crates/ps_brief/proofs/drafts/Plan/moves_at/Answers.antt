use Rattle.std.proofs.Common.{◌≡◌, ℕ, length, subst, arith}
use Rattle.ps_game.specs.Games.{successors_of}
use Rattle.ps_brief.specs.Inner.Drafts.{TriesMoves}
use Rattle.ps_brief.proofs.drafts.Plan.moves_at.Goals as goal

pub returns-clause-tried : goal.returns-clause-tried
returns-clause-tried c =
    let us = successors_of c.args.self.now.arena.now c.args.vertex in
    let all : c.loop-number.number ≡ length us =
    omega (arith, c.loop-number.auto.number-end, c.loop-number-test.false, c.degree-number-end.ensures) in
    subst (λ (k : ℕ). TriesMoves c.args.self.now c.loop-number.store c.args.step.state us k c.loop-number.moves) all
    c.loop-number.invariant.tries
