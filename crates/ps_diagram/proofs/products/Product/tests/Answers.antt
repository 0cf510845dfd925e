use Rattle.std.proofs.Common.{ap, ◌∙◌, ◌/◌, ◌^◌, ℕ, nat_eq, bit_or}
use Rattle.std.proofs.lemmas.Nat.{and_mask}
use Rattle.ps_diagram.proofs.TreesFromData.Literals.{in_or}
use Rattle.ps_diagram.proofs.products.Product.tests.Goals as goal

pub returns : goal.returns
returns c =
    let p = c.args.proposition in
    let product = c.args.self.now in
    ap (λ (bit : ℕ). nat_eq bit 1) (and_mask (bit_or product.positive product.negative / 2 ^ p) 1)
    ∙ in_or p product.positive product.negative
