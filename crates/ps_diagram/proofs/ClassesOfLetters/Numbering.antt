-- Classes of letters are made from the leaves of a diagram and their least letters.
use Rattle.std.proofs.Common.{◌≡◌, ℕ, ◌+◌, ◌^◌, ◌<◌, List, [], ◌∷◌, ◌++◌, length, get_or, rules}
use Rattle.std.proofs.Common.{refl, sym, ◌∙◌, arith}
use Rattle.std.proofs.lemmas.List.{length_push}
use Rattle.std.specs.Prelude.{All, AllPairs, ◌≢◌}
use Rattle.ps_diagram.specs.declared.classes.Class.{Class}
use Rattle.ps_diagram.specs.Letters.{assignment}
use Rattle.ps_diagram.specs.Table.{Table, IsNode, tree_of}
use Rattle.ps_diagram.specs.Tree.{Tree}
use Rattle.ps_diagram.specs.Inner.Rests.{IsDivided}
use Rattle.ps_diagram.specs.Reached.{AreLeaves}
use Rattle.ps_diagram.specs.Inner.LeafTables.{place_in}
use Rattle.ps_diagram.specs.Inner.Numbered.{class_at, pair_at, AreOf, IsPlaced}
use Rattle.ps_diagram.proofs.NodeTables.Cells.{push_each}
use Rattle.ps_diagram.proofs.NodeTables.LeafTables.{place_at, place_once}

-- if the least letters of a list's leaves ascend, no leaf occurs twice in the list
pub leaves_differ : {t : Table} {node : ℕ} {found : List (ℕ × ℕ)} → AreLeaves t node found →
    AllPairs (λ a b. a.0 ≢ b.0) found
leaves_differ {found} h i j d lt below e = search rules

-- if each leaf of a diagram is the number of a node, so is each leaf in the list of its leaves
pub leaves_held : {t : Table} {node : ℕ} (mask : ℕ) (tree : Tree) {found : List (ℕ × ℕ)} → AreLeaves t node found →
    IsDivided t mask tree (tree_of t node) → All (λ pair. IsNode t pair.0) found
leaves_held mask tree {found} h division i d less =
    let here = (h.least i d less).here.1 in
    let rest = division (assignment (get_or found i d).1) in
    let same : rest.0 ≡ (get_or found i d).0 = cc in
    rw (← same) rest.2

pub nodes_few : (t : Table) {n : ℕ} (leaves : List (ℕ × ℕ)) → n ≡ length t.cells → n < 2 ^ 32 →
    All (λ pair. IsNode t pair.0) leaves → All (λ pair. pair.0 < 2 ^ 32) leaves
nodes_few t leaves count few held i d less = omega (arith, held i d less, count, few)

pub of_push : {leaves : List (ℕ × ℕ)} {n leaf letter : ℕ} {list : List Class} → AreOf leaves n list →
    leaf ≡ (pair_at leaves n).0 → letter ≡ (pair_at leaves n).1 →
    AreOf leaves (n + 1) (list ++ (record { letter = letter; rest = leaf }) ∷ [])
of_push {leaves} {n} {leaf} {letter} {list} h leaf_is letter_is =
    let made : Class = record { letter = letter; rest = leaf } in
    let none : Class = record { letter = 0; rest = 0 } in
    record {
      each = omega (arith, length_push list made, h.each);
      rest = push_each (λ i c. c.rest ≡ (pair_at leaves i).0) none list made h.each refl h.rest leaf_is;
      letter = push_each (λ i c. c.letter ≡ (pair_at leaves i).1) none list made h.each refl h.letter letter_is;
    }

-- in the list of classes that is made from different leaves, each leaf's class is at the leaf's index
pub placed_all : {leaves : List (ℕ × ℕ)} {list : List Class} → AllPairs (λ a b. a.0 ≢ b.0) leaves →
    AreOf leaves (length leaves) list → IsPlaced (place_in leaves) list
placed_all {leaves} {list} differ of = record {
  found = λ k i e. (let at = place_at leaves k i e in (omega (arith, at.0, of.each), of.rest i at.0 ∙ at.1));
  placed = λ i less. (let inside : i < length leaves = omega (arith, less, of.each) in
      place_once leaves (class_at list i).rest i differ (inside, sym (of.rest i inside)));
}
