use Rattle.std.proofs.Common.{◌≡◌, ℕ, Bool, List, drop}
use Rattle.std.specs.Prelude.{◌&&◌}
use Rattle.ps_label.specs.Expression.{AreOver, literal_expressions, operands_in}
use Rattle.ps_label.specs.Truth.{all_true}
use Rattle.ps_diagram.specs.Products.{meets}
use Rattle.ps_diagram.proofs.products.Product.with_all.Given as goal

-- the given product and all literals are true exactly if the product extended by the literals visited so far, and the
-- remaining literals, are true
abbrev pub invariant-loop-literal : goal.invariant-loop-literal
invariant-loop-literal l =
    let rest = operands_in (literal_expressions (drop l.literal-index l.literals)) in
    let all = operands_in (literal_expressions l.literals) in (aliases n : ℕ) → AreOver aliases n all →
    AreOver aliases n rest × ((known : List Bool) (letter : ℕ) → (meets n l.more letter && all_true known letter rest)
    ≡ (meets n l.fn.self letter && all_true known letter all))
