use Rattle.std.proofs.Common.{◌≡◌, ℕ, ◌<◌, length, arith, subst}
use Rattle.ps_mixing.specs.Inner.Merging.{AreMerged}
use Rattle.ps_mixing.proofs.MovedPropositions.MergedOrders.{other_next, own_next}
use Rattle.ps_mixing.proofs.order.merged.Goals as goal

pub more-preserved-then-is_others_turn : goal.more-preserved-then-is_others_turn
more-preserved-then-is_others_turn c =
    let within : c.more.i < length c.args.others.now = c.is_others_turn.ensures.others c.if-is_others_turn.true in
    record {
      few_others = omega (arith, within);
      few_own = c.more.invariant.few_own;
      merged = other_next c.args.others.now c.args.own.now c.more.i c.more.j c.more.from.items c.push.new.self.items
          c.more.invariant.merged within c.more.invariant.few_own c.in_ok-push.ensures.items;
    }

pub more-preserved : goal.more-preserved
more-preserved c =
    let within : c.more.j < length c.args.own.now = c.is_others_turn.ensures.own c.if-is_others_turn.false in
    record {
      few_others = c.more.invariant.few_others;
      few_own = omega (arith, within);
      merged = own_next c.args.others.now c.args.own.now c.more.i c.more.j c.more.from.items
          c.push-else-is_others_turn.new.self.items c.more.invariant.merged within c.more.invariant.few_others
          c.in_ok-push-2.ensures.items;
    }

pub returns : goal.returns
returns c =
    let others : c.more.i ≡ length c.args.others.now = omega arith in
    let own : c.more.j ≡ length c.args.own.now = omega arith in
    λ is_own can.
    subst (λ (k : ℕ). AreMerged is_own c.args.others.now c.args.own.now k (length c.args.own.now) c.more.from.items)
    others (subst (λ (k : ℕ). AreMerged is_own c.args.others.now c.args.own.now c.more.i k c.more.from.items) own
    (c.more.invariant.merged is_own can))
