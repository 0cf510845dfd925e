use Rattle.ps_pruning.proofs.Lifted.{lift_fits, lift_is_valid}
use Rattle.ps_pruning.proofs.laws.lift_is_certificate.Goals as goal

pub returns : goal.returns
returns c p certificate lifted guide is covered fits valid guides lift = (
  lift_fits p certificate lifted guide is covered fits valid guides lift,
  lift_is_valid p certificate lifted guide is covered fits valid guides lift,
)
