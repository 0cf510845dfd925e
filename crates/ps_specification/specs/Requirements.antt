-- What a specification requires of a circuit.
-- - `order_in spec`: who moves first
-- - `requirement_of spec`: the formula of the whole specification, with its propositions; the outputs are controllable
use Rattle.ps_machine.specs.declared.key.Order.{Order}
use Rattle.ps_machine.specs.declared.key.Order.TheVariants.{Mealy, Moore}
use Rattle.ps_models.specs.Judgements.{NamedFormula}
use Rattle.ps_tlsf.specs.Names.{names_in, outputs_in}
use Rattle.ps_tlsf.specs.Specifications.{Specification}
use Rattle.ps_tlsf.specs.declared.words.Order.{Order as StatedOrder}
use Rattle.ps_tlsf.specs.declared.words.Order.TheVariants as stated

abbrev pub order_stated : StatedOrder → Order
order_stated stated.Mealy = Mealy
order_stated stated.Moore = Moore

abbrev pub order_in : Specification → Order
order_in spec = order_stated spec.order

abbrev pub requirement_of : Specification → NamedFormula
requirement_of spec = record {
  names = names_in spec.names;
  controllable = outputs_in spec.names;
  formula = spec.whole;
}
