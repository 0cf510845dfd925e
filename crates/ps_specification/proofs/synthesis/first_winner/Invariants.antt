use Rattle.ps_tlsf.specs.SpecificationViews.{specification_data}
use Rattle.ps_specification.specs.Inner.Steps.{HasTried}
use Rattle.ps_specification.proofs.synthesis.first_winner.Given as goal

abbrev pub invariant-loop-place : goal.invariant-loop-place
invariant-loop-place g l =
    HasTried (g.P.Proposer.known l.proposer) (specification_data l.specification) l.place l.is_proposed
