use Rattle.std.proofs.Common.{◌≡◌, ℕ, length, subst, arith}
use Rattle.ps_attractor.specs.Steps.{Reaching, From}
use Rattle.ps_attractor.proofs.Ends.{attracted}
use Rattle.ps_attractor.proofs.tables.Tables.attract.Goals as goal

pub returns-clause-attracted : goal.returns-clause-attracted
returns-clause-attracted g c subgame target set posed taken =
    let game = g.A.Arena.game c.args.edges.now.arena.now in
    let at_end : c.loop-place.place ≡ length c.loop-place.self.trail = omega arith in
    let Reached : ℕ → Type 0 = λ k. Reaching game c.args.aim c.args.self.now c.loop-place.self (From k) in
    attracted (record {
      is_game = c.args.edges.now.game;
      marks = c.requires.differ;
      begins = c.requires.begin;
      posed = posed;
      taken = taken;
      reached = subst Reached at_end c.loop-place.invariant.reaching;
    })
