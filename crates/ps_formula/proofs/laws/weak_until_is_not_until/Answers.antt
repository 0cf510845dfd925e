use Rattle.std.proofs.Common.{inl}
use Rattle.ps_formula.proofs.laws.weak_until_is_not_until.Goals as goal

pub returns : goal.returns
returns c f g w i always never = (
  record { each = λ j low. inl (inl (always j low)) },
  λ r. never r.end r.later r.there,
)
