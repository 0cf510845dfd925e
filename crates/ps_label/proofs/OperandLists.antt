-- The operands of a conjunction or disjunction are the elements of its `Vec`.
use Rattle.std.proofs.Common.{◌≡◌, List, arith, refl, ap, ◌∙◌, subst, suc, sym}
use Rattle.std.specs.List.{All}
use Rattle.std.specs.declared.vec.Vec.{Vec}
use Rattle.std.specs.declared.alloc.Global.{Global}
use Rattle.ps_label.specs.declared.label.Label.{Label, Both, Either, Row_of-Label, end_of-Label, more_of-Label}
use Rattle.ps_label.specs.declared.label.Label.{items-the_row-Label, items_hidden-the_row-Label-0}
use Rattle.ps_label.specs.declared.label.Label.TheBlock.{hidden-the_row-Label-0}
use Rattle.ps_label.specs.Expression.{ArePlainLabels, IsPlainLabel, more, all_of, any_of, expression, operands, operands_in}
use Rattle.ps_label.specs.Truth.{expressions}

operands-items : {n : _} (k : Row_of-Label n) → operands k ≡ operands_in (expressions (items-the_row-Label n k))
operands-items end_of-Label = refl
operands-items (more_of-Label l k) = ap (more (expression l)) (operands-items k)

operands-vec : (v : Vec Label Global) → operands (hidden-the_row-Label-0 v) ≡ operands_in (expressions v.items)
operands-vec v = operands-items (hidden-the_row-Label-0 v)
    ∙ ap (λ (ls : List Label). operands_in (expressions ls)) (items_hidden-the_row-Label-0 v)

-- the abstract value of a stored conjunction is the conjunction of its operands' abstract values
pub expression-Both : (labels : Vec Label Global) → expression (Both labels) ≡ all_of (operands_in (expressions
    labels.items))
expression-Both v = ap all_of (operands-vec v)

-- the abstract value of a stored disjunction is the disjunction of its operands' abstract values
pub expression-Either : (v : Vec Label Global) → expression (Either v) ≡ any_of (operands_in (expressions v.items))
expression-Either v = ap any_of (operands-vec v)

plain-items : {n : _} (k : Row_of-Label n) → All IsPlainLabel (items-the_row-Label n k) → ArePlainLabels k
plain-items end_of-Label all = tt
plain-items (more_of-Label l k) all =
    (all 0 l (omega arith), plain-items k (λ i d within. all (suc i) d (omega (arith, within))))

-- the operands of a stored conjunction or disjunction are plain if the elements of its `Vec` are
pub plain-vec : (v : Vec Label Global) → All IsPlainLabel v.items → ArePlainLabels (hidden-the_row-Label-0 v)
plain-vec v all = plain-items (hidden-the_row-Label-0 v)
    (subst (λ (ls : List Label). All IsPlainLabel ls) (sym (items_hidden-the_row-Label-0 v)) all)
