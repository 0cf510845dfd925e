use Rattle.std.proofs.Common.{Bool, ap, ◌∙◌, List, ℕ, Option, None, Some, true}
use Rattle.std.specs.Option.{IfSome}
use Rattle.std.specs.Prelude.{◌&&◌, ◌≡◌}
use Rattle.ps_label.specs.Expression.{Expression, expression}
use Rattle.ps_label.specs.Truth.{truth}
use Rattle.ps_diagram.specs.Products.{meets}
use Rattle.ps_diagram.specs.declared.products.Product.{Product}
use Rattle.ps_diagram.proofs.store.Store.product_of.Goals as goal

-- a product that extends the empty product by a label is true exactly where the label is true
alone : (n : ℕ) (e : Expression) (empty : Product) (made : Option Product) →
    ((letter : ℕ) → meets n empty letter ≡ true) →
    IfSome made (λ more. (known : List Bool) (letter : ℕ) → meets n more letter ≡ (meets n empty letter
    && truth known letter e)) →
    IfSome made (λ more. (known : List Bool) (letter : ℕ) → meets n more letter ≡ truth known letter e)
alone n e empty None every h = tt
alone n e empty (Some more) every h = λ known letter.
    h known letter ∙ ap (λ (b : Bool). b && truth known letter e) (every letter)

pub returns-clause-value : goal.returns-clause-value
returns-clause-value c = alone c.args.self.now.propositions (expression c.args.label.now) c.empty.result
    c.with_label.result (c.empty.ensures c.args.self.now.propositions) c.with_label.ensures.value
