use Rattle.std.proofs.Common.{arith, below_more, rules}
use Rattle.ps_certificate.specs.Certificates.{IsClosed}
use Rattle.ps_certificate.specs.Inner.Prefixes.{IsFirstUnranked}
use Rattle.ps_certificate.proofs.FlawsAndValidity.CountRule.{first_unranked, valid_in_the_end, valid_has_no_flaw}
use Rattle.ps_certificate.proofs.FlawsAndValidity.FirstFlaws.{first_unsound, IsClosed-from_sound}
use Rattle.ps_certificate.proofs.FlawsAndValidity.Holding.{BothHold-from_valid, NoneWinsOutside-from_valid}
use Rattle.ps_certificate.proofs.checking.check.Goals as goal

pub returns-in-Some-clause-exact : goal.returns-in-Some-clause-exact
returns-in-Some-clause-exact g c = search (rules, valid_has_no_flaw)

pub returns-in-Some-clause-flaw : goal.returns-in-Some-clause-flaw
returns-in-Some-clause-flaw g c = first_unsound c.loop-vertex.invariant.sound c.in-Some.ensures.some

pub loop-vertex-preserved : goal.loop-vertex-preserved
loop-vertex-preserved g c = record {
  sound = below_more _ _ c.loop-vertex.invariant.sound c.in_default.ensures.none;
  none = c.unranked_through-unranked.ensures.none;
  some = c.unranked_through-unranked.ensures.some;
}

pub returns-in-Some-unranked-clause-flaw : goal.returns-in-Some-unranked-clause-flaw
returns-in-Some-unranked-clause-flaw g c =
    let game = g.A.Arena.game c.args.arena.now in
    let closed : IsClosed game c.args.certificate.now = IsClosed-from_sound (λ v below. search rules) in
    let found : IsFirstUnranked game c.args.certificate.now c.in-Some-unranked.flaw =
    rw c.in-Some-unranked.is at c.loop-vertex.invariant.some in
    first_unranked closed found.before found.at_vertex

pub returns-in-None-clause-exact : goal.returns-in-None-clause-exact
returns-in-None-clause-exact g c = search (rules, valid_in_the_end)

pub returns-in-None-clause-regions : goal.returns-in-None-clause-regions
returns-in-None-clause-regions g c = BothHold-from_valid (g.A.Arena.game c.args.arena.now)
    c.args.certificate.now c.requires (valid_in_the_end c.loop-vertex.vertex (omega (
      arith,
      c.loop-vertex-test.false,
      c.count-vertex-end.ensures.vertices,
    )) c.loop-vertex.invariant.sound c.loop-vertex.invariant.none c.in-None.is)

pub returns-in-None-clause-best : goal.returns-in-None-clause-best
returns-in-None-clause-best g c = NoneWinsOutside-from_valid (g.A.Arena.game c.args.arena.now) c.args.certificate.now
    c.count-vertex-end.ensures.well_formed c.requires (valid_in_the_end c.loop-vertex.vertex (omega (
      arith,
      c.loop-vertex-test.false,
      c.count-vertex-end.ensures.vertices,
    )) c.loop-vertex.invariant.sound c.loop-vertex.invariant.none c.in-None.is)
