use Rattle.std.proofs.Common.{arith, below_more, refl, rules}
use Rattle.ps_certificate.proofs.FlawsAndValidity.FirstFlaws.{first_unsound, IsClosed-from_sound, closed_has_no_flaw}
use Rattle.ps_certificate.proofs.FlawsAndValidity.Keeping.{BothKeep-from_closed}
use Rattle.ps_certificate.proofs.closing.closed.Goals as goal

pub returns-in-Some-clause-exact : goal.returns-in-Some-clause-exact
returns-in-Some-clause-exact g c = search (rules, closed_has_no_flaw)

pub returns-in-Some-clause-flaw : goal.returns-in-Some-clause-flaw
returns-in-Some-clause-flaw g c = first_unsound c.loop-vertex.invariant c.in-Some.ensures.some

pub loop-vertex-preserved : goal.loop-vertex-preserved
loop-vertex-preserved g c = below_more _ _ c.loop-vertex.invariant c.in_default.ensures.none

pub returns-clause-exact : goal.returns-clause-exact
returns-clause-exact g c = (
  (λ _. IsClosed-from_sound (λ v below. c.loop-vertex.invariant v (omega arith))),
  λ _. refl,
)

pub returns-clause-regions : goal.returns-clause-regions
returns-clause-regions g c = BothKeep-from_closed (g.A.Arena.game c.args.arena.now) c.args.certificate.now
    (IsClosed-from_sound (λ v below. c.loop-vertex.invariant v (omega arith)))
