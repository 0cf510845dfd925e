-- The diagram of an edge has a leaf exactly at the letters at which the edge is taken. Lemmas about the diagrams of
-- edges, about two diagrams that have a leaf at a common letter (`Meet`), and about diagrams in a store that has grown.
use Rattle.std.proofs.Common.{arith, ◌≡◌, ℕ, ◌^◌, ◌<◌, inl, inr, Bool, Option, Some, None, IsTrue, refl, sym}
use Rattle.std.proofs.Common.{ap, ◌∙◌}
use Rattle.std.specs.Option.{option_map}
use Rattle.ps_text.proofs.Combinators.Simple.{none_is_some}
use Rattle.ps_label.specs.Expression.{Expression}
use Rattle.ps_diagram.specs.Labels.{one_where}
use Rattle.ps_diagram.specs.Letters.{assignment}
use Rattle.ps_diagram.specs.Tree.{Tree, leaf_at}
use Rattle.ps_diagram.specs.Table.{Table, IsNode, Keeps, leaf_of}
use Rattle.ps_hoa.specs.Edges.{IsEnabled}
use Rattle.ps_hoa.specs.Files.{EdgeData, RowData, FileData, of_state}
use Rattle.ps_automaton.specs.Inner.Drafts.{IsLabelNode, IsWhere, Meet, ShowsEdge}

pub kept_leaf : {t u : Table} → Keeps t u → {node : ℕ} (letter : ℕ) → IsNode t node →
    leaf_of u node letter ≡ leaf_of t node letter
kept_leaf keeps {node} letter held = ap (λ (tree : Tree). leaf_at tree (assignment letter)) (keeps.same node held)

pub mapped_some : (f : ℕ → ℕ) (o : Option ℕ) {x : ℕ} → option_map f o ≡ Some x → (y : ℕ) × (o ≡ Some y)
mapped_some f None {x} e = absurd (none_is_some x e)
mapped_some f (Some y) e = (y, refl)

-- each leaf of one diagram was replaced by 0, and each leaf of another by 1: if both resulting diagrams have a leaf at
-- a letter, the two original diagrams have a leaf there too
pub guarded_meet : {t u v : Table} {one other zero_node : ℕ} (one_node : ℕ) {x y : ℕ} (letter : ℕ) → Keeps t u →
    Keeps u v → IsNode t one → IsNode t other → IsNode u zero_node →
    ((n : ℕ) → leaf_of u zero_node n ≡ option_map (λ _. 0) (leaf_of t one n)) →
    ((n : ℕ) → leaf_of v one_node n ≡ option_map (λ _. 1) (leaf_of u other n)) → letter < 2 ^ v.propositions →
    leaf_of v zero_node letter ≡ Some x → leaf_of v one_node letter ≡ Some y → Meet t one other
guarded_meet {t} {u} {v} {one} {other} {zero_node} one_node {x} {y} letter tu uv one_held other_held zero_held zero_is
    one_is small first second = grind (arith, mapped_some, kept_leaf)

pub where_one : (b : Bool) {leaf : Option ℕ} → leaf ≡ one_where b → IsWhere leaf 1 (IsTrue b)
where_one b e = grind arith

pub label_shows : (t : Table) (file : FileData) (label : Option Expression) (node : ℕ) →
    IsLabelNode t file label (Some node) →
    IsNode t node × ((letter : ℕ) → IsWhere (leaf_of t node letter) 1 (IsEnabled file.aliases label of_state letter))
label_shows t file label node h = grind (arith, where_one)

pub shown_is_taken : {P : Type 0} {leaf : Option ℕ} (value : ℕ) {x : ℕ} → IsWhere leaf value P → leaf ≡ Some x → P
shown_is_taken value (inl a) e = a.1
shown_is_taken value {x} (inr a) e = absurd (none_is_some x (sym a.0 ∙ e))

pub taken_is_shown : {P : Type 0} (leaf : Option ℕ) (value : ℕ) → IsWhere leaf value P → P → leaf ≡ Some value
taken_is_shown leaf value h p = grind arith

pub kept_shows : (file : FileData) (row : RowData) (edge : EdgeData) {t u : Table} {node : ℕ} (value : ℕ) → Keeps t u →
    IsNode t node → ShowsEdge file row edge t node value → ShowsEdge file row edge u node value
kept_shows file row edge {t} {u} {node} value keeps held shows letter small =
    rw (kept_leaf keeps letter held) (shows letter small)
