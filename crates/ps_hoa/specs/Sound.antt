-- The properties of a parsed file. Every number refers to a state, a proposition, a set or an earlier alias. No list
-- contains a number twice, no two propositions have the same name, and the body describes no state twice. The edges of
-- a state are labelled in one of three ways, and psyn's limits on the size of texts are kept.
-- - `IsSoundFile file`: the numbers in the file are those of existing states, propositions, sets and aliases; nothing
--   occurs twice; edges are labelled in one of the three ways; the limits are kept
use Rattle.std.specs.Prelude.{◌≡◌, ℕ, ◌+◌, ◌^◌, ◌<◌, ◌≤◌, ◌⊎◌, ◌||◌, false, List, [], ◌∷◌, length, All, sum_by, Option}
use Rattle.std.specs.Prelude.{None, Some, IfSome}
use Rattle.std.specs.List.{AllByRecursion}
use Rattle.ps_label.specs.Expression.{Expression, IsOver, AreOverFrom}
use Rattle.ps_hoa.specs.Grammar.Conditions as conditions
use Rattle.ps_hoa.specs.Grammar.Conditions.{Condition, Conditions}
use Rattle.ps_hoa.specs.Files.{GuardData, EdgeData, RowData, FileData, stated, of_state, at_letter, is_among}
use Rattle.ps_hoa.specs.Grammar.Header.{state_limit, proposition_limit, set_limit, alias_limit, has_control, is_empty}
use Rattle.ps_hoa.specs.Grammar.Header.{is_name_among}
use Rattle.ps_hoa.specs.Grammar.Body.{edge_limit, has_row}

-- no number occurs twice
abbrev pub AreDifferent : List ℕ → Type 0
AreDifferent [] = Unit {0}
AreDifferent (n ∷ ns) = (is_among n ns ≡ false) × AreDifferent ns

-- ## Conditions

abbrev mutual
  pub IsCondition : ℕ → Condition → Type 0
  IsCondition sets (conditions.constant b) = Unit {0}
  IsCondition sets (conditions.infinitely s) = s.number < sets
  IsCondition sets (conditions.finitely s) = s.number < sets
  IsCondition sets (conditions.all_hold cs) = AreConditions sets cs
  IsCondition sets (conditions.any_holds cs) = AreConditions sets cs

  pub AreConditions : ℕ → Conditions → Type 0
  AreConditions sets conditions.last = Unit {0}
  AreConditions sets (conditions.more c cs) = IsCondition sets c × AreConditions sets cs

-- ## How the edges of a state are labelled

abbrev pub IsStated : EdgeData → Type 0
IsStated e = (label : Expression) × (e.guard ≡ stated label)

abbrev pub IsOfState : EdgeData → Type 0
IsOfState e = e.guard ≡ of_state

-- the edge with the index i in the list is taken only at the letter k + i
abbrev pub AreAtLetters : ℕ → List EdgeData → Type 0
AreAtLetters k [] = Unit {0}
AreAtLetters k (e ∷ es) = (e.guard ≡ at_letter k) × AreAtLetters (k + 1) es

-- the edges are labelled by the state's label, by a label of each edge, or in order, with one edge for each letter
abbrev pub AreLabelled : ℕ → Option Expression → List EdgeData → Type 0
AreLabelled propositions (Some e) es = AllByRecursion IsOfState es
AreLabelled propositions None es = AllByRecursion IsStated es ⊎ (AreAtLetters 0 es × (length es ≡ 2 ^ propositions))

-- ## The parts of a file

abbrev pub IsLabelOf : FileData → Expression → Type 0
IsLabelOf file e = IsOver (length file.aliases) (length file.names) e

abbrev pub IsGuard : FileData → GuardData → Type 0
IsGuard file (stated e) = IsLabelOf file e
IsGuard file guard = Unit {0}

-- distinct numbers below a bound
pub record AreBelow (count : ℕ) (ns : List ℕ) : Type 0 where
  pub all : All (λ n. n < count) ns
  pub different : AreDifferent ns

pub record IsSoundEdge (file : FileData) (e : EdgeData) : Type 0 where
  pub guard : IsGuard file e.guard
  pub target : e.target < file.states
  pub marks : AreBelow file.sets e.marks

pub record IsSoundRow (file : FileData) (row : RowData) : Type 0 where
  pub state : row.state < file.states
  pub label : IfSome row.label (IsLabelOf file)
  pub marks : AreBelow file.sets row.marks
  pub edges : All (IsSoundEdge file) row.edges
  pub labelled : AreLabelled (length file.names) row.label row.edges

-- the names differ, are not empty, and contain no control bytes
abbrev pub AreNames : List (List ℕ) → Type 0
AreNames [] = Unit {0}
AreNames (name ∷ names) =
    ((is_empty name || has_control name) ≡ false) × (is_name_among name names ≡ false) × AreNames names

-- no two rows describe the same state
abbrev pub AreRowsOnce : List RowData → Type 0
AreRowsOnce [] = Unit {0}
AreRowsOnce (row ∷ rows) = (has_row row.state rows ≡ false) × AreRowsOnce rows

abbrev pub edges_of : List RowData → ℕ
edges_of rows = sum_by (λ row. length row.edges) rows

pub record IsSoundFile (file : FileData) : Type 0 where
  pub states : file.states ≤ state_limit
  pub start : file.start < file.states
  pub few_names : length file.names ≤ proposition_limit
  pub names : AreNames file.names
  pub controllable : AreBelow (length file.names) file.controllable
  pub few_aliases : length file.aliases ≤ alias_limit
  pub aliases : AreOverFrom 0 (length file.names) file.aliases
  pub sets : file.sets ≤ set_limit
  pub condition : IsCondition file.sets file.condition
  pub rows : All (IsSoundRow file) file.rows
  pub rows_once : AreRowsOnce file.rows
  pub few_edges : edges_of file.rows ≤ edge_limit
