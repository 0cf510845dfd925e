-- If two nodes have different leaves at some letter, they do so at a letter over the table's propositions.
use Rattle.std.proofs.Common.{◌≡◌, ◌↔◌, ℕ, ◌<◌, ◌^◌, Bool, IsTrue, eqb, sym, ◌∙◌, rules}
use Rattle.std.proofs.lemmas.Bool.{eqb-true, eq-eqb}
use Rattle.ps_diagram.specs.Tree.{HaveSameLeaves}
use Rattle.ps_diagram.proofs.Canon.{same_tree}
use Rattle.ps_diagram.specs.declared.fault.OverlayError.{OverlayError}
use Rattle.ps_diagram.specs.declared.fault.OverlayError.TheVariants.{Clash, OutOfMemory}
use Rattle.ps_diagram.specs.Letters.{letter_of}
use Rattle.ps_diagram.specs.Table.{Table, IsNode, IsSoundTable, tree_of, leaf_of}
use Rattle.ps_diagram.specs.Inner.Known.{IsClash}
use Rattle.ps_diagram.specs.Clashes.{TellsClash}
use Rattle.ps_diagram.proofs.Letters.{letter_lt, leaf_by_number, same_by_numbers}

pub tells_clash : {t : Table} → IsSoundTable t → {a b : ℕ} → IsNode t a → IsNode t b → (e : OverlayError) →
    IsClash (tree_of t a) (tree_of t b) e → TellsClash t a b e
tells_clash {t} s {a} {b} ha hb (Clash x y) h =
    let n = t.propositions in (
      letter_of n h.0,
      letter_lt n h.0,
      sym (leaf_by_number n (tree_of t a) (s.ordered a ha) h.0) ∙ h.1,
      sym (leaf_by_number n (tree_of t b) (s.ordered b hb) h.0) ∙ h.2,
      h.3,
    )
tells_clash s ha hb OutOfMemory h = tt

-- two nodes with the same leaf at each letter are equal
pub one_node : {t : Table} → IsSoundTable t → {a b : ℕ} → IsNode t a → IsNode t b →
    HaveSameLeaves (tree_of t a) (tree_of t b) → a ≡ b
one_node {t} s {a} {b} ha hb e = search (rules, same_tree)

pub same_node : {t : Table} → IsSoundTable t → {a b : ℕ} → IsNode t a → IsNode t b → {r : Bool} → r ≡ eqb a b →
    IsTrue r ↔ ((letter : ℕ) → letter < 2 ^ t.propositions → leaf_of t a letter ≡ leaf_of t b letter)
same_node {t} s {a} {b} ha hb e = (
  search (rules, eqb-true),
  (λ h. e ∙ eq-eqb a b
      (one_node s ha hb
      (same_by_numbers t.propositions (tree_of t a) (tree_of t b) (s.ordered a ha) (s.ordered b hb) h))),
)
