use Rattle.std.proofs.Common.{arith, length, refl, ◌≡◌, ◌≤◌}
use Rattle.std.specs.Prelude.{true}
use Rattle.ps_formula.specs.Formulas.{constant}
use Rattle.ps_tlsf.specs.Trees.{value_of}
use Rattle.ps_tlsf.proofs.SectionFormulas.Building.{keeps_all, keeps_both, pushed_keeps, pushed_valid, pushed_is}
use Rattle.ps_tlsf.proofs.SectionFormulas.Building.{pushed_more}
use Rattle.ps_tlsf.proofs.SectionFormulas.Building.{last_none, last_some, id_valid, if_built}
use Rattle.ps_tlsf.proofs.trees.add_formula.Goals as goal

pub loop-op-init : goal.loop-op-init
loop-op-init c = record {
  keeps = keeps_all c.args.table.now;
  valid = rw c.new-stack.ensures.items tt;
  stack = rw c.new-stack.ensures.items refl;
}

pub loop-op-preserved : goal.loop-op-preserved
loop-op-preserved c = record {
  keeps = keeps_both c.loop-op.invariant.keeps (pushed_keeps c.in_ok-apply.ensures);
  valid = pushed_valid c.in_ok-apply.ensures;
  stack = pushed_more c.args.ops.now c.loop-op.op-index _ (omega arith) (pushed_is c.in_ok-apply.ensures)
      c.loop-op.invariant.stack;
}

pub returns-in-None : goal.returns-in-None
returns-in-None c =
    let none : length c.loop-op.stack.items ≡ 0 = grind arith in
    let all : length c.args.ops.now ≤ c.loop-op.op-index = omega arith in
    if_built c.add_constant.new.table c.add_constant.result (constant true) (value_of c.args.ops.now)
    c.loop-op.invariant.keeps
    (last_none c.loop-op.table c.loop-op.stack.items c.args.ops.now c.loop-op.op-index none all
    c.loop-op.invariant.stack) c.add_constant.ensures

pub returns : goal.returns
returns c = record {
  keeps = c.loop-op.invariant.keeps;
  within = id_valid c.loop-op.table c.loop-op.stack.items c.pop.new.self.items c.in-Some.id c.in-Some.ensures.items
      c.loop-op.invariant.valid;
  is = last_some c.loop-op.table c.loop-op.stack.items c.pop.new.self.items c.in-Some.id c.args.ops.now
      c.loop-op.op-index c.in-Some.ensures.items (omega arith) c.loop-op.invariant.stack;
}
