use Rattle.ps_game.specs.Regions.{has}
use Rattle.ps_attractor.proofs.LaidOut.{laid_posed}
use Rattle.ps_attractor.proofs.attractor.attracted_tables.Goals as goal

pub returns-clause-attracted : goal.returns-clause-attracted
returns-clause-attracted g c =
    let laid = rw (c.region.ensures, c.count.ensures.vertices) at c.in_ok-tables.ensures.laid_out in
    record {
      old = c.in_ok-tables.tables;
      laid = laid;
      grown = c.in_ok-attract.ensures.grown;
      attracted = λ set taken. c.in_ok-attract.ensures.attracted (has c.args.subgame.now) (has c.args.target.now) set
          (laid_posed c.args.player c.requires.is_subgame c.requires.target_within laid) taken;
    }
