use Rattle.std.proofs.Common.{◌+◌, Bool, subst, sym}
use Rattle.ps_tlsf.specs.SpecificationViews.{specification_data}
use Rattle.ps_specification.specs.Inner.Steps.{HasTried}
use Rattle.ps_specification.specs.Proposing.{ProposerData}
use Rattle.ps_specification.proofs.ProposalReasons.{refused_more, tried_more}
use Rattle.ps_specification.proofs.synthesis.first_winner.Goals as goal
use Rattle.ps_specification.proofs.synthesis.first_winner.Goals.{in-Nothing, in-Refused}

pub loop-place-preserved : goal.loop-place-preserved
loop-place-preserved g c =
    let proposer : ProposerData = g.P.Proposer.known c.args.proposer.now in
    let spec = specification_data c.args.specification.now in
    let place = c.loop-place.place in
    let before = c.loop-place.invariant in
    elim c.match-branch-2.branch [
      | in-Nothing w ↦ subst (λ (b : Bool). HasTried proposer spec (place + 1) b) (sym w.is_proposed-is)
          (tried_more proposer spec place c.loop-place.is_proposed before
          (rw w.in-Nothing.is at c.in_ok-try_place.ensures))
      | in-Refused w ↦ subst (λ (b : Bool). HasTried proposer spec (place + 1) b) (sym w.is_proposed-is)
          (refused_more proposer spec place c.loop-place.is_proposed before
          (rw w.in-Refused.is at c.in_ok-try_place.ensures))
    ]
