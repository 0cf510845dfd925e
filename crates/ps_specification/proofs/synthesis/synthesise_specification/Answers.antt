use Rattle.ps_synthesis.proofs.Reporting.{err_all}
use Rattle.ps_tlsf.specs.SpecificationViews.{specification_data}
use Rattle.ps_specification.specs.Faults.{IsProposalFault, IsSpecificationFault}
use Rattle.ps_specification.specs.Proposing.{ProposerData}
use Rattle.ps_specification.proofs.ProposalReasons.{proposal_reason}
use Rattle.ps_specification.proofs.synthesis.synthesise_specification.Goals as goal

pub returns-clause-refused : goal.returns-clause-refused
returns-clause-refused g c =
    let proposer : ProposerData = g.P.Proposer.known c.args.proposer.now in
    let text = c.args.text.now in
    let spec = specification_data c.in_ok-specification.specification in
    err_all (IsProposalFault proposer spec) (IsSpecificationFault proposer text)
    (proposal_reason proposer spec text c.in_ok-specification.ensures.specification)
    c.first_winner-winner.result c.first_winner-winner.ensures.refused
