use Rattle.std.proofs.Common.{Bool, ap, ◌∙◌}
use Rattle.std.specs.Prelude.{◌&&◌}
use Rattle.ps_label.specs.Expression.{literal_expressions, operands_in}
use Rattle.ps_label.specs.Truth.{all_true}
use Rattle.ps_diagram.specs.Labels.{leaf_where}
use Rattle.ps_diagram.proofs.NodeTables.Cells.{keeps_refl}
use Rattle.ps_diagram.proofs.NodeTables.MadeDiagrams.{by-last}
use Rattle.ps_diagram.proofs.TreeOperations.Truths.{leaf_one}
use Rattle.ps_diagram.proofs.store.Store.of_conjunction.Goals as goal

pub returns : goal.returns
returns c =
    let n = c.args.self.now.propositions in
    let all = operands_in (literal_expressions c.args.literals.now) in
    by-last (keeps_refl c.args.self.now) (λ node h known letter. h letter
    ∙ ap (leaf_where 1) (c.with_all.ensures c.requires.within.0 n c.requires.within.1 known letter
    ∙ ap (λ (b : Bool). b && all_true known letter all) (c.empty.ensures n letter))
    ∙ leaf_one (all_true known letter all)) c.of_product.ensures
