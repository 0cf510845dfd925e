use Rattle.std.proofs.Common.{◌≡◌, ◌<◌, length, get_or, sym, ap, ◌∙◌, arith, rules}
use Rattle.std.proofs.lemmas.Bool.{eqb-true, eq-eqb, false≢true}
use Rattle.std.proofs.lemmas.List.{get_or_read}
use Rattle.ps_zielonka.specs.declared.board.Board.{Board}
use Rattle.ps_zielonka.proofs.PlacedVertices.Boards.{reopened_free, reopened_lost, reopened_end}
use Rattle.ps_zielonka.proofs.board.Board.reopen.Goals as goal
use Rattle.ps_zielonka.proofs.board.Board.reopen.Goals.{then-eq, else-eq+in_ok-place}

pub loop-place-preserved : goal.loop-place-preserved
loop-place-preserved g c =
    let old = c.args.self.now.tables in
    let mid = c.loop-place.self.tables in
    let winner = c.take_off.new.self.winner.items in
    let spare = c.take_off.new.self.spare in
    let so_far = c.loop-place.invariant in
    let place = c.loop-place.place in
    let turn = c.args.frame.now.turn in
    let u = c.at-vertex.result in
    let taken = c.in_ok-take_off.ensures.spare in
    let below : place < length spare = omega (arith, c.loop-place-test.true, c.len-place-end.ensures) in
    let size : length c.loop-place.self.spare ≡ length spare = ap length so_far.spare in
    let at : get_or spare place 0 ≡ u = ap (λ xs. get_or xs place 0) (sym so_far.spare) ∙ sym c.at-vertex.ensures in
    let same_level : length mid.level ≡ length old.level = so_far.reopened.sizes ∙ ap length c.take_off.ensures.level in
    let within : u < length mid.level = search rules in
    let who : get_or winner u 0 ≡ c.index.result.now = search (rules, get_or_read) in
    elim c.if-eq.branch [
      | then-eq w ↦ record {
        spare = ap (λ (b : Board g.row.W.Denot). b.spare) w.self-is ∙ so_far.spare;
        winner = ap (λ (b : Board g.row.W.Denot). b.winner.items) w.self-is ∙ so_far.winner;
        reopened = rw w.self-is (reopened_free spare
            place u w.set_level.new.self at within (who ∙ eqb-true _ _ (grind arith))
            (grind arith) w.set_level.ensures.moves
            w.set_level.ensures.trail so_far.reopened);
      }
      | else-eq+in_ok-place w ↦ record {
        spare = ap (λ (b : Board g.row.W.Denot). b.spare) w.self-is ∙ so_far.spare;
        winner = ap (λ (b : Board g.row.W.Denot). b.winner.items) w.self-is ∙ so_far.winner;
        reopened = rw w.self-is (reopened_lost spare place u w.place.new.self at within (λ won. false≢true
            (sym w.if-eq.false ∙ c.eq.ensures ∙ eq-eqb _ _ (sym who ∙ won))) (grind arith) so_far.reopened);
      }
    ]

pub returns-clause-reopened : goal.returns-clause-reopened
returns-clause-reopened g c =
    let at_end : c.loop-place.place ≡ length c.take_off.new.self.spare = grind arith in
    reopened_end c.loop-place.place c.args.self.now.tables c.requires.turn.within c.take_off.ensures.level
    c.take_off.ensures.moves c.in_ok-take_off.ensures.trail c.in_ok-take_off.ensures.spare at_end
    (rw c.take_off.ensures.winner at c.loop-place.invariant.reopened)
