use Rattle.std.proofs.Common.{◌+◌, ap, sym, ◌∙◌, arith, add-one}
use Rattle.std.proofs.Math.Nat.{pow-suc}
use Rattle.std.proofs.lemmas.Nat.{one_shl}
use Rattle.ps_label.specs.Truth.{is_in}
use Rattle.ps_diagram.proofs.Letters.{lower_bit, no_bit, top_bit}
use Rattle.ps_product.proofs.nodes.with_bit.Goals as goal

pub returns-then-bit-clause-few : goal.returns-then-bit-clause-few
returns-then-bit-clause-few c =
    let p = c.args.p in
    let shift = one_shl p 64 c.requires.named in
    let few = c.requires.few in
    rw (shift, add-one p, pow-suc 2 p) (omega arith)

pub returns-then-bit-clause-at : goal.returns-then-bit-clause-at
returns-then-bit-clause-at c =
    let p = c.args.p in
    ap (λ b. is_in p (c.args.letter + b)) (one_shl p 64 c.requires.named)
    ∙ top_bit p c.args.letter c.requires.few ∙ sym c.if-bit.true

pub returns-then-bit-clause-before : goal.returns-then-bit-clause-before
returns-then-bit-clause-before c = λ q lt.
    let p = c.args.p in
    ap (λ b. is_in q (c.args.letter + b)) (one_shl p 64 c.requires.named) ∙ lower_bit p c.args.letter q lt

pub returns-else-bit-clause-at : goal.returns-else-bit-clause-at
returns-else-bit-clause-at c =
    no_bit c.args.p c.args.letter c.args.p c.requires.few (omega arith) ∙ sym c.if-bit.false
