use Rattle.std.proofs.Common.{sym}
use Rattle.ps_tlsf.specs.Inner.Views.{token_data}
use Rattle.ps_tlsf.specs.Inner.StateViews.{state_data}
use Rattle.ps_tlsf.proofs.OutlinedTexts.NameLemmas.{has_room}
use Rattle.ps_tlsf.proofs.steps.plain_step.Goals as goal

pub declare-requires : goal.declare-requires
declare-requires c =
    λ side e. has_room c.args.next (state_data c.args.state.now) (token_data c.args.token) side e
    (sym c.in_default.ensures)
