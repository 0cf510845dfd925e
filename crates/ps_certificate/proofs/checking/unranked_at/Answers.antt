use Rattle.std.proofs.Common.{◌≡◌, ◌∙◌, Some, sym, arith, below_more, rules}
use Rattle.ps_game.specs.Games.{owner_of}
use Rattle.ps_certificate.specs.Certificates.{Remains, winner_of, choice_of}
use Rattle.ps_certificate.proofs.FlawsAndValidity.SuccessorEdges.{HasEdge-at, Remains-other}
use Rattle.ps_certificate.proofs.FlawsAndValidity.CountRule.{own_edge, own_edges, other_edges, IsFirstFlawAt-rank}
use Rattle.ps_certificate.proofs.FlawsAndValidity.CountRule.{KeepsCountsAt-from_all}
use Rattle.ps_certificate.proofs.checking.unranked_at.Goals as goal

pub returns-in-Some-broken_priority-clause-some : goal.returns-in-Some-broken_priority-clause-some
returns-in-Some-broken_priority-clause-some g c =
    let own : owner_of (g.A.Arena.game c.args.arena.now) c.args.vertex ≡ winner_of
    c.args.certificate.now c.args.vertex = sym c.owner.ensures ∙ c.if-owner-winner.true ∙ c.winner.ensures in
    let is : choice_of c.args.certificate.now c.args.vertex ≡ Some c.in-Some.successor = grind arith in
    let remains : Remains (g.A.Arena.game c.args.arena.now) c.args.certificate.now c.args.vertex c.in-Some.successor =
    own_edge c.requires.sound.right_move own is in
    IsFirstFlawAt-rank c.requires.fits remains (grind arith) c.in-Some-broken_priority.ensures.some
    (λ w other. grind (arith, own_edges))

pub broken_priority-requires-in-loop-number : goal.broken_priority-requires-in-loop-number
broken_priority-requires-in-loop-number g c = record {
  fits = c.requires.fits;
  vertex = c.requires.vertex;
  successor = c.count-vertices.ensures.well_formed.within c.args.vertex c.successor-successor.result
      (search (rules, HasEdge-at));
  same_winner = search (rules, Remains-other, HasEdge-at);
}

pub returns-in-Some-broken_priority-2-clause-some : goal.returns-in-Some-broken_priority-2-clause-some
returns-in-Some-broken_priority-2-clause-some g c =
    let other : owner_of (g.A.Arena.game c.args.arena.now) c.args.vertex ≡ winner_of c.args.certificate.now
    c.args.vertex → ⊥ = λ own. c.if-owner-winner.false (c.owner.ensures ∙ own ∙ sym c.winner.ensures) in
    let remains : Remains (g.A.Arena.game c.args.arena.now) c.args.certificate.now
    c.args.vertex c.successor-successor.result = search (rules, Remains-other, HasEdge-at) in
    IsFirstFlawAt-rank c.requires.fits remains (grind arith) c.in-Some-broken_priority-2.ensures.some
    (search (rules, other_edges))

pub loop-number-preserved : goal.loop-number-preserved
loop-number-preserved g c = search (rules, below_more)

pub returns-clause-none : goal.returns-clause-none
returns-clause-none g c = search (rules, KeepsCountsAt-from_all)
