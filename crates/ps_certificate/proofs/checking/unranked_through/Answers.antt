use Rattle.std.proofs.Common.{Option, None, Some, ◌+◌, below_more}
use Rattle.std.specs.Prelude.{IfNone}
use Rattle.ps_certificate.specs.declared.flaw.Flaw.{Flaw}
use Rattle.ps_certificate.specs.Inner.Prefixes.{KeepsCountsAt, KeepCountsBefore}
use Rattle.ps_certificate.proofs.checking.unranked_through.Goals as goal

pub returns-in-None-clause-none : goal.returns-in-None-clause-none
returns-in-None-clause-none g c = go c.unranked_at.result c.unranked_at.ensures.none
  where
    before : KeepCountsBefore (g.A.Arena.game c.args.arena.now) c.args.certificate.now c.args.vertex
    before = rw c.in-None.is at c.requires.none

    go : (o : Option Flaw) → IfNone o (KeepsCountsAt (g.A.Arena.game c.args.arena.now)
        c.args.certificate.now c.args.vertex)
        → IfNone o (KeepCountsBefore (g.A.Arena.game c.args.arena.now) c.args.certificate.now (c.args.vertex + 1))
    go None here = below_more _ _ before here
    go (Some flaw) here = tt
