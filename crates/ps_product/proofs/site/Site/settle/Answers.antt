use Rattle.std.proofs.Common.{◌≡◌, ◌++◌, ◌∷◌, [], List, ap, refl, ℕ}
use Rattle.ps_diagram.proofs.NodeTables.KnownLemmas.{keeps_trans}
use Rattle.ps_product.proofs.CircuitFunctions.Settling.{emptied, less_left, less_waits, more_left, more_waits}
use Rattle.ps_product.proofs.site.Site.settle.Goals as goal
use Rattle.ps_product.proofs.site.Site.settle.Goals.{In_ok-push, In-Some-pop}

-- the variable that must be evaluated first comes next, and the one that needs it waits
pushed : (c : In_ok-push) → c.push.new.self.items ++ c.in-Some.lower ∷ [] ≡
    (c.loop-lower.stack.items ++ c.loop-lower.top ∷ []) ++ c.in-Some.lower ∷ []
pushed c = ap (λ (xs : List ℕ). xs ++ c.in-Some.lower ∷ []) c.in_ok-push.ensures.items

-- the variable that waited last comes next
rest : (c : In-Some-pop) → c.loop-lower.stack.items ≡ c.pop.new.self.items ++ c.in-Some-pop.waiting ∷ []
rest c = rw c.in-Some-pop.is at c.pop.ensures.items

pub ranks_fall-requires : goal.ranks_fall-requires
ranks_fall-requires c = rw c.circuit.ensures.circuit at c.order-order.ensures

pub loop-lower-smaller-in-Some : goal.loop-lower-smaller-in-Some
loop-lower-smaller-in-Some c =
    more_left c.args.self.net.now c.order-order.result.now c.loop-lower.top c.loop-lower.stack.items
    c.loop-lower.invariant.waits refl c.ranks_fall.ensures (rw c.in-Some.is at c.in_ok-lower.ensures.step) (pushed c)

pub loop-lower-preserved-in-Some : goal.loop-lower-preserved-in-Some
loop-lower-preserved-in-Some c = record {
  learns = record {
    keeps = keeps_trans c.loop-lower.invariant.learns.keeps c.step.ensures.learns.keeps;
    knows = c.step.ensures.learns.knows;
  };
  waits = more_waits c.args.self.net.now c.order-order.result.now c.loop-lower.top c.loop-lower.stack.items
      c.loop-lower.invariant.waits refl c.ranks_fall.ensures (rw c.in-Some.is at c.in_ok-lower.ensures.step) (pushed c);
}

pub loop-lower-smaller : goal.loop-lower-smaller
loop-lower-smaller c =
    rw (← rest c) (less_left c.args.self.net.now c.order-order.result.now c.loop-lower.top c.loop-lower.stack.items
    c.loop-lower.invariant.waits refl c.loop-lower.invariant.learns.knows.size
    (rw c.in_default.is at c.in_ok-lower.ensures.step))

pub loop-lower-preserved : goal.loop-lower-preserved
loop-lower-preserved c = record {
  learns = record {
    keeps = keeps_trans c.loop-lower.invariant.learns.keeps c.step.ensures.learns.keeps;
    knows = c.step.ensures.learns.knows;
  };
  waits = rw (← rest c) (less_waits c.args.self.net.now c.order-order.result.now c.loop-lower.top
      c.loop-lower.stack.items c.loop-lower.invariant.waits refl c.loop-lower.invariant.learns.knows.size
      (rw c.in_default.is at c.in_ok-lower.ensures.step));
}

pub returns-in_default-pop-clause-here : goal.returns-in_default-pop-clause-here
returns-in_default-pop-clause-here c =
    (less_waits c.args.self.net.now c.order-order.result.now c.loop-lower.top c.loop-lower.stack.items
    c.loop-lower.invariant.waits refl c.loop-lower.invariant.learns.knows.size
    (rw c.in_default.is at c.in_ok-lower.ensures.step)).done
    (emptied _ _ _ (rw c.in_default-pop.is at c.pop.ensures.items) c.pop.ensures.rest
    (rw c.in_default-pop.is at c.pop.ensures.cases).0)
