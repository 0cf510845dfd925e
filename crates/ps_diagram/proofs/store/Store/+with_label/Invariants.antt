use Rattle.std.proofs.Common.{◌≡◌, ℕ, Bool, List, drop}
use Rattle.std.specs.Prelude.{◌&&◌}
use Rattle.ps_label.specs.Expression.{expression, operands_in, AreOver}
use Rattle.ps_label.specs.Truth.{expressions, truth, all_true}
use Rattle.ps_diagram.specs.Products.{are_products, is_product, meets}
use Rattle.ps_diagram.proofs.store.Store.+with_label.Given as goal

abbrev pub decreases-with_label : goal.decreases-with_label
decreases-with_label l = goal.size-with_label l

-- the given product and the label are both true exactly if the product extended by the operands visited so far, and the
-- remaining operands, are true; the label is a product of literals exactly if the remaining operands are
abbrev pub invariant-loop-operand : goal.invariant-loop-operand
invariant-loop-operand l = record {
  decides : (known : List Bool) (letter : ℕ) → (meets l.self.propositions l.more letter
      && all_true known letter (operands_in (expressions (drop l.operand-index l.operand-items))))
      ≡ (meets l.self.propositions l.fn.product letter && truth known letter (expression l.label));
  within : (aliases : ℕ) × AreOver aliases l.self.propositions (operands_in (expressions (drop l.operand-index
      l.operand-items)));
  product : are_products (operands_in (expressions (drop l.operand-index l.operand-items))) ≡ is_product (expression
      l.label);
}
