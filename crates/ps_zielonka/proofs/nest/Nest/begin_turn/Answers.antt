use Rattle.std.proofs.Common.{◌≡◌, ◌+◌, ◌%◌, ℕ, List, [], ◌∷◌, ◌++◌, length, get_or, refl, ap, ◌∙◌, arith}
use Rattle.std.proofs.lemmas.Grind.{common_steps}
use Rattle.std.proofs.lemmas.List.{length_push}
use Rattle.ps_game.specs.Games.{priority_of}
use Rattle.ps_attractor.specs.declared.aim.Aim.{Aim}
use Rattle.ps_zielonka.specs.declared.frame.Frame.{Frame}
use Rattle.ps_zielonka.specs.Inner.Nests.{IsNest}
use Rattle.ps_zielonka.specs.Inner.Levels.{code_of}
use Rattle.ps_zielonka.specs.declared.level.TheConstants.{UNPLACED}
use Rattle.ps_zielonka.specs.declared.level.Level.TheVariants.{Attracted}
use Rattle.ps_zielonka.proofs.PendingCalls.Begun.{Begun}
use Rattle.ps_zielonka.proofs.PendingCalls.Begins.{frame_of, begun_nest, begun_falls}
use Rattle.ps_zielonka.proofs.PendingCalls.Deep.{depth_begun}
use Rattle.ps_zielonka.proofs.nest.Nest.begin_turn.Goals as goal

pub returns : goal.returns
returns g c =
    let game = g.A.Arena.game c.args.edges.now.arena.now in
    let aim : Aim = record {
      player = c.of_priority-player.result;
      begin = c.placed-turn.result;
      level = code_of (Attracted c.len-depth.result);
      free = UNPLACED;
    } in
    let order : List ℕ = c.args.self.now.order in
    let frames : List Frame = c.args.self.now.frames.items in
    let first : c.at.result ≡ get_or order c.args.cursor 0 = c.at.ensures in
    let b : Begun = record {
      game = game;
      aim = aim;
      order = order;
      start = c.args.self.now.cursor;
      cursor = c.args.cursor;
      behind = c.in_ok-behind.behind;
      depth = length frames;
      old = c.args.self.now.board.tables;
      mid = c.place_tops.new.tables;
      new = c.attract.new.self.tables;
      winner = c.args.self.now.board.winner.items;
      winner_now = c.attract.new.self.winner.items;
      sound = c.requires.searching.stack.sound;
      searches = c.requires.searching.stack.searches c.requires.searching.searches;
      player = c.of_priority-player.ensures ∙ ap (λ n. n % 2) (c.priority.ensures ∙ ap (priority_of game) first);
      begin = c.placed-turn.ensures;
      level = omega (arith, c.len-depth.ensures);
      free = refl;
      within = c.requires.within;
      unplaced = c.requires.unplaced;
      first = c.requires.first;
      just_greatest = c.is_empty.result;
      just = λ first. grind (arith, common_steps, c.is_empty.ensures, first);
      placed = c.in_ok-behind.ensures.placed;
      ends = c.in_ok-behind.ensures.ends;
      fits = c.in_ok-attract.ensures.fits.fits;
      winners = c.in_ok-attract.ensures.fits.winners;
      grown = c.in_ok-attract.ensures.grown;
      attracted = c.in_ok-attract.ensures.attracted;
      given = c.in_ok-attract.ensures.given;
    } in
    let pushed : c.push.new.self.items ≡ frames ++ frame_of b ∷ [] =
    cc (c.in_ok-push.ensures.items, c.placed-turn.ensures, c.placed-top.ensures) in
    let size : length c.push.new.self.items ≡ length frames + 1 = ap length pushed ∙ length_push frames (frame_of b) in
    let nest : IsNest game c.attract.new.self.tables c.attract.new.self.winner.items order c.push.new.self.items
    c.in_ok-behind.behind c.args.self.now.solved = rw pushed (begun_nest b frames c.args.self.now.solved refl
    c.requires.searching.searches c.requires.searching.stack.waits c.requires.searching.stack.rises) in
    record {
      stack = nest;
      falls = rw c.requires.searching.searches (begun_falls b frames c.push.new.self.items refl size);
      deep = depth_begun b c.max-self.result size c.requires.searching.searches
          (omega (arith, c.max-self.ensures, c.len.ensures, c.push.new.self.ok.0)) nest;
    }
