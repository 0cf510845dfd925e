use Rattle.std.proofs.Common.{arith, rules}
use Rattle.std.proofs.lemmas.Result.{IfOk-weaker}
use Rattle.ps_circuit.specs.Gates.{chosen_of}
use Rattle.ps_circuit.proofs.GatesAndLinks.GateLemmas.{chosen_bits, meets-extends, passed_on}
use Rattle.ps_circuit.proofs.GatesAndLinks.MadeLemmas.{above-first, above-second}
use Rattle.ps_circuit.proofs.builder.Builder.chosen.Goals as goal

pub returns-in_err-where_true : goal.returns-in_err-where_true
returns-in_err-where_true c = search (rules, passed_on, above-first)

pub returns-in_err-where_false : goal.returns-in_err-where_false
returns-in_err-where_false c = search (
  rules,
  passed_on,
  above-second c.args.self.now c.and.new.self c.args.s c.args.high c.args.low c.in_ok-where_true.where_true
      {ns = c.negated.result} c.in_ok-where_true.ensures.made c.negated.ensures,
)

pub returns : goal.returns
unfolding chosen_of
returns c =
    let last = c.or.ensures in
    record {
      extends = search rules;
      held = search rules;
      bit = IfOk-weaker c.or.result _ _ (λ literal h v m.
          let there = meets-extends c.and-2.new.self c.or.new.self last.extends v m in
          let before = meets-extends c.and.new.self c.and-2.new.self c.and-2.ensures.extends v there in
          chosen_bits v c.args.s c.args.high c.args.low c.in_ok-where_true.where_true c.in_ok-where_false.where_false
          literal c.negated.ensures (grind arith) (c.in_ok-where_false.ensures.bit v there) (h v m)) last.bit;
      made = search rules;
      too_large = last.too_large;
      above = search rules;
    }
