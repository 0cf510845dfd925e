-- The meaning of an HOA text: the automaton as the text states it, with the names of its propositions, its aliases and
-- its acceptance condition.
-- - `FileData`: the whole text; a state about which the text states nothing has no row, and no edges
use Rattle.std.specs.Prelude.{ℕ, ◌+◌, max, List, [], ◌∷◌, ◌++◌, Option, None, Some, if◌then◌else◌, nat_eq, Bool, true}
use Rattle.std.specs.Prelude.{false}
use Rattle.ps_label.specs.Expression.{Expression}
use Rattle.ps_hoa.specs.Grammar.Conditions.{Condition}

-- the letters at which an edge is taken: the letters of its label, those of its state's label, or a single letter (an
-- implicit label)
pub data GuardData : Type 0 where
  stated : Expression → GuardData
  of_state : GuardData
  at_letter : ℕ → GuardData

pub record EdgeData : Type 0 where
  pub guard : GuardData
  pub target : ℕ
  pub marks : List ℕ

-- what the text states about a state: an optional label, its acceptance sets, and its edges in order
pub record RowData : Type 0 where
  pub state : ℕ
  pub label : Option Expression
  pub marks : List ℕ
  pub edges : List EdgeData

pub record FileData : Type 0 where
  pub states : ℕ
  pub start : ℕ
  pub names : List (List ℕ)
  pub controllable : List ℕ
  pub aliases : List Expression
  pub sets : ℕ
  pub condition : Condition
  pub rows : List RowData

-- whether a list has a number; `once` adds a number only if the list does not have it
abbrev pub is_among : ℕ → List ℕ → Bool
is_among n [] = false
is_among n (m ∷ ms) = if nat_eq n m then true else is_among n ms

abbrev pub once : List ℕ → ℕ → List ℕ
once ns n = if is_among n ns then ns else ns ++ n ∷ []

-- the greatest of `so_far` and the states that the edges or rows name
abbrev pub greatest_target : ℕ → List EdgeData → ℕ
greatest_target so_far [] = so_far
greatest_target so_far (e ∷ es) = greatest_target (max so_far e.target) es

abbrev pub greatest_state : ℕ → List RowData → ℕ
greatest_state so_far [] = so_far
greatest_state so_far (r ∷ rs) = greatest_state (greatest_target (max so_far r.state) r.edges) rs

-- without `States:`, the number of states is one more than the greatest state that the text names
abbrev pub count_of_states : Option ℕ → ℕ → List RowData → ℕ
count_of_states (Some n) start rows = n
count_of_states None start rows = 1 + greatest_state start rows
