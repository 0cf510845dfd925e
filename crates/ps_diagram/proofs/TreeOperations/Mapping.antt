-- Trees whose leaves are replaced by a rule.
use Rattle.std.proofs.Common.{ℕ, ◌<◌, ◌≤◌, ◌^◌, Bool, Ok, cond, Option, ap, sym, ◌∙◌, inl, inr}
use Rattle.std.specs.Option.{unwrap_or}
use Rattle.ps_diagram.specs.Tree.{Tree, leaf_at, IsBlind, IsTestOf}
use Rattle.ps_diagram.specs.Table.{Table, IsNode, IsSoundTable, MakesTree, tree_of, leaf_of}
use Rattle.ps_diagram.specs.Split.{IsSides}
use Rattle.ps_diagram.specs.Inner.Known.{IsChangeable, IsMapped}
use Rattle.ps_diagram.specs.Letters.{letter_of}
use Rattle.ps_diagram.proofs.NodeTables.Cells.{bool_cases}
use Rattle.ps_diagram.proofs.Canon.{changed}
use Rattle.ps_diagram.proofs.NodeTables.KnownLemmas.{read_keeps}
use Rattle.ps_diagram.proofs.Sides.{side_at}
use Rattle.ps_diagram.proofs.Letters.{letter_lt, leaf_by_number}
use Rattle.ps_diagram.proofs.NodeTables.MadeDiagrams.{by-sides}

-- The leaves of a node are replaced by replacing those of its two sides one after the other, and making a test of the
-- results, while the table grows. The node may be one of another table (`other`).
pub mapped_sides : {E : Type 0} (rule : Option ℕ → Option ℕ) (other : Option Table) {t u v w : Table}
    {a p al ah low high made : ℕ} → IsSides (unwrap_or other t) a p al ah →
    MakesTree {E = E} t u (Ok low) (IsMapped rule (tree_of (unwrap_or other t) al)) →
    MakesTree {E = E} u v (Ok high) (IsMapped rule (tree_of (unwrap_or other u) ah)) →
    MakesTree {E = E} v w (Ok made) (IsTestOf p (tree_of v low) (tree_of v high)) →
    MakesTree {E = E} t w (Ok made) (IsMapped rule (tree_of (unwrap_or other t) a))
mapped_sides rule other {p = p} sides l h test =
    let j = read_keeps other l.keeps in
    by-sides l h test (λ f. rw (sides.leaf f, test.leaf f) (elim (bool_cases (f p)) [
      | inl is ↦ rw (is, ← j.same _ sides.high_held) (h.leaf f)
      | inr is ↦ rw (is, h.keeps.same _ l.held) (l.leaf f)
    ]))

pub mapped_blind : (rule : Option ℕ → Option ℕ) (level : ℕ) (a c : Tree) → IsMapped rule a c → IsBlind level a →
    IsBlind level c
mapped_blind rule level a c m b f g e = m f ∙ ap rule (b f g e) ∙ sym (m g)

-- a property of all leaves of a node is a property of all leaves of its sides
pub on_side : (P : Option ℕ → Type 0) (v : Bool) {t : Table} {node p low high : ℕ} → IsSides t node p low high →
    ((f : ℕ → Bool) → P (leaf_at (tree_of t node) f)) → (f : ℕ → Bool) → P (leaf_at (tree_of t (cond v high low)) f)
on_side P v {p} s h f = rw (← side_at v s f) (h (changed f p v))

-- if a property holds of a node's leaf at each letter that is given as a number, it holds at each letter that is given
-- as a function
pub by_numbers : (P : Option ℕ → Type 0) {s t : Table} {node : ℕ} → IsSoundTable s → IsNode s node →
    s.propositions ≤ t.propositions → ((letter : ℕ) → letter < 2 ^ s.propositions → P (leaf_of s node letter)) →
    IsChangeable P s t node
by_numbers P {s} {node} sound held few each = let n = s.propositions in record {
  held = held;
  few = few;
  fits = λ f. rw (leaf_by_number n (tree_of s node) (sound.ordered node held) f) (each (letter_of n f) (letter_lt n f));
}
