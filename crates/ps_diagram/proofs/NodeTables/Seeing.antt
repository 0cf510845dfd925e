-- What a caller sees of a node, derived from the cell that the store has for it.
use Rattle.std.proofs.Common.{ℕ, ◌+◌, ap, arith}
use Rattle.ps_diagram.specs.declared.view.View.{View}
use Rattle.ps_diagram.specs.declared.view.View.TheVariants.{Nothing, Leaf, Test}
use Rattle.ps_diagram.specs.Letters.{assignment}
use Rattle.ps_diagram.specs.Tree.{leaf_at}
use Rattle.ps_diagram.specs.Table.{Table, IsSoundTable, tree_of}
use Rattle.ps_diagram.specs.Inner.Parts.{IsPart}
use Rattle.ps_diagram.specs.Views.{Sees}
use Rattle.ps_diagram.proofs.Canon.{blind-from, same_tree}
use Rattle.ps_diagram.proofs.Letters.{same_by_numbers}

pub sees : {t : Table} → IsSoundTable t → (node : ℕ) (v : View) → IsPart t node v → Sees t node v
sees s node Nothing h = λ letter. ap (λ u. leaf_at u (assignment letter)) h
sees s node (Leaf k) h = λ letter. ap (λ u. leaf_at u (assignment letter)) h
sees {t} s node (Test p low high) h =
    let n = t.propositions in
    record {
      named = h.below;
      low_held = h.low_held;
      high_held = h.high_held;
      low_earlier = h.low_earlier;
      high_earlier = h.high_earlier;
      low_behind = λ x y e. blind-from (p + 1) n (tree_of t low) h.low_from (assignment x) (assignment y)
          (λ q le. e q (omega (arith, le)));
      high_behind = λ x y e. blind-from (p + 1) n (tree_of t high) h.high_from (assignment x) (assignment y)
          (λ q le. e q (omega (arith, le)));
      leaf = λ letter. ap (λ u. leaf_at u (assignment letter)) h.tree;
      depends = grind (arith, same_tree, same_by_numbers);
    }
