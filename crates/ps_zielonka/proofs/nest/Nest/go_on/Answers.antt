use Rattle.std.proofs.Common.{◌≡◌, ◌+◌, ◌*◌, length, refl, ap}
use Rattle.ps_attractor.specs.declared.aim.Aim.{Aim}
use Rattle.ps_zielonka.specs.declared.level.TheConstants.{UNPLACED}
use Rattle.ps_zielonka.specs.Inner.Levels.{code_of}
use Rattle.ps_zielonka.proofs.PendingCalls.Climbs.{on_aim}
use Rattle.ps_zielonka.proofs.PendingCalls.GoesOn.{Reached, going_on, fits_reopened, on_nest, on_falls}
use Rattle.ps_zielonka.proofs.PendingCalls.Frames.{last_waits}
use Rattle.ps_zielonka.proofs.nest.Nest.go_on.Goals as goal

pub attract-requires-clause-fits : goal.attract-requires-clause-fits
attract-requires-clause-fits g c = record {
  fits =
      fits_reopened (last_waits c.args.self.now.frames.items c.args.frame c.requires.nest).segment.within
      c.requires.nest.sound.fits c.in_ok-reopen.ensures.reopened;
  winners = rw c.reopen.ensures.winner c.requires.nest.sound.winners;
}

pub returns : goal.returns
returns g c =
    let nest = c.requires.nest in
    let frame = c.args.frame in
    let frames = c.args.self.now.frames.items in
    let made = c.in_ok-attract.ensures in
    let aim : Aim = record {
      player = c.opponent.result;
      begin = frame.turn;
      level = code_of c.args.placed.level;
      free = UNPLACED;
    } in
    let is_level : code_of c.args.placed.level ≡ 2 * length frames + 1 = ap code_of c.requires.level in
    let is_aim : aim ≡ on_aim (2 * length frames) frame = cc (c.opponent.ensures, is_level) in
    let reached : Reached (g.A.Arena.game c.args.edges.now.arena.now) (code_of c.args.placed.level) aim frame
    c.args.self.now.board.tables c.reopen.new.self.tables c.attract.new.self.tables c.args.self.now.board.winner.items
    c.attract.new.self.winner.items = record {
      reopened = c.in_ok-reopen.ensures.reopened;
      grown = made.grown;
      given = rw c.reopen.ensures.winner at made.given;
      attracted = made.attracted;
    } in
    let going = going_on frames nest is_level is_aim (fits_reopened (last_waits frames frame nest).segment.within
    nest.sound.fits c.in_ok-reopen.ensures.reopened) made.fits.fits reached in
    record {
      stack = on_nest frames nest going made.fits.fits made.fits.winners;
      falls = on_falls frames nest is_level going c.requires.lost.1 c.requires.lost.2;
      depth = refl;
    }
