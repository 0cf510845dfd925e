-- Definitions about the decision diagrams of an automaton's steps, which are built for one state of the file after
-- another. (For private functions.)
-- - `IsReady t g`: the diagram store has the diagrams of the file's aliases and of the state's label
-- - `IsWhere leaf value P`: the leaf is the value if P is true, and None if P is false
-- - `IsUnion file row count targets t node`: at each letter, the node's leaf is the index of the target of the edge
--   that is taken
-- - `IsStepsOf file chain q steps t node`: at each letter, the node's leaf is the index of the step from the state q
use Rattle.std.specs.Prelude.{◌≡◌, ℕ, ◌^◌, ◌<◌, ◌≤◌, ◌⊎◌, Bool, List, length, None, Some, Option, IsSomeAnd, slice_get}
use Rattle.std.specs.Prelude.{slice_index, ◌+◌, IfErr, IfOk, IfSome, OnOk, Result}
use Rattle.ps_label.specs.Expression.{Expression}
use Rattle.ps_label.specs.Truth.{is_in, label_truth}
use Rattle.ps_diagram.specs.Labels.{AreNodesOf, one_where}
use Rattle.ps_diagram.specs.Table.{Table, IsNode, Keeps, leaf_of}
use Rattle.ps_hoa.specs.Files.{GuardData, EdgeData, RowData, FileData, stated, of_state, at_letter}
use Rattle.ps_hoa.specs.Edges.{Goes, IsTaken, row_of}
use Rattle.ps_hoa.specs.declared.file.Edge.{Edge}
use Rattle.ps_hoa.specs.Sound.{AreAtLetters, IsLabelOf, IsSoundFile, IsSoundRow}
use Rattle.ps_hoa.specs.Views.{edge_data, row_data}
use Rattle.ps_automaton.specs.Answers.{AreClashing, Clash, IsFirstClash}
use Rattle.ps_automaton.specs.Chains.{Chain, level}
use Rattle.ps_automaton.specs.Inner.LetterSets.{AreLetterSets}
use Rattle.ps_automaton.specs.Inner.Targets.{IsTargetOf}
use Rattle.ps_automaton.specs.Inner.Views.{chain_data}
use Rattle.ps_automaton.specs.declared.fault.AutomatonFault.{AutomatonFault}
use Rattle.ps_automaton.specs.declared.fault.AutomatonFault.TheVariants.{ComplementedSet, NonParity, Nondeterministic}
use Rattle.ps_automaton.specs.declared.fault.AutomatonFault.TheVariants.{OutOfMemory}
use Rattle.ps_automaton.specs.declared.guards.Guards.{Guards}
use Rattle.ps_automaton.specs.declared.pairs.Pairs.{Pairs}
use Rattle.ps_automaton.specs.declared.pairs.Source.{Source}
use Rattle.ps_automaton.specs.declared.step.Step.{Step}
use Rattle.ps_automaton.specs.declared.targets.Target.{Target}
use Rattle.ps_automaton.specs.declared.union.Union.{Union}

-- ## Guards

abbrev pub IsLabelNode : Table → FileData → Option Expression → Option ℕ → Type 0
IsLabelNode t file None None = Unit {0}
IsLabelNode t file None (Some node) = ⊥
IsLabelNode t file (Some e) None = ⊥
IsLabelNode t file (Some e) (Some node) =
    IsNode t node × ((letter : ℕ) → leaf_of t node letter ≡ one_where (label_truth file.aliases letter e))

pub record IsReady (t : Table) (g : Guards) : Type 0 where
  pub sound : IsSoundFile g.file.now
  pub row : IsSoundRow g.file.now (row_data g.row.now)
  pub letters : t.propositions ≡ length g.file.now.names
  pub aliases : AreNodesOf t g.file.now.aliases g.aliases.now
  pub label : IsLabelNode t g.file.now (row_data g.row.now).label g.label

-- the diagram store has the diagrams of the file's aliases and of the row's label, and `place` is the index of an edge
-- of the row
pub record IsReadyAt (t : Table) (g : Guards) (place : ℕ) : Type 0 where
  pub ready : IsReady t g
  pub within : place < length g.row.now.edges.items

-- an edge's own label uses only propositions and aliases of the file; the single letter of an implicit label is a
-- letter over the file's propositions
abbrev pub IsFit : FileData → GuardData → Type 0
IsFit file (stated e) = IsLabelOf file e
IsFit file of_state = Unit {0}
IsFit file (at_letter letter) = letter < 2 ^ length file.names

-- the diagram store has the diagrams of the file's aliases and of the row's label, and the edge's own label or letter
-- fits the file (`IsFit`)
pub record IsReadyTo (t : Table) (g : Guards) (edge : Edge) : Type 0 where
  pub ready : IsReady t g
  pub fit : IsFit g.file.now (edge_data edge).guard

abbrev pub IsWhere : Option ℕ → ℕ → Type 0 → Type 0
IsWhere leaf value P = ((leaf ≡ Some value) × P) ⊎ ((leaf ≡ None) × (P → ⊥))

-- the node has the given leaf at the letters at which the edge is taken, and no leaf at other letters
abbrev pub ShowsEdge : FileData → RowData → EdgeData → Table → ℕ → ℕ → Type 0
ShowsEdge file row edge t node value = (letter : ℕ) → letter < 2 ^ length file.names →
    IsWhere (leaf_of t node letter) value (IsTaken file row edge letter)

-- there is a letter at which both diagrams have a leaf
abbrev pub Meet : Table → ℕ → ℕ → Type 0
Meet t one other =
    (letter : ℕ) × (letter < 2 ^ t.propositions) × (x : ℕ) × (y : ℕ) × (leaf_of t one letter ≡ Some x) ×
    (leaf_of t other letter ≡ Some y)

-- ## Unions

abbrev pub IsTargetAt : RowData → EdgeData → List Target → ℕ → Type 0
IsTargetAt row edge targets place =
    (target : Target) × (slice_get targets place ≡ Some target) × IsTargetOf row edge target

-- an edge that is taken at a letter, and is one of the first `count` edges of a state
pub record TakenEdge (file : FileData) (row : RowData) (count letter : ℕ) : Type 0 where
  pub place : ℕ
  pub within : place < count
  pub edge : EdgeData
  pub at_place : slice_get row.edges place ≡ Some edge
  pub taken : IsTaken file row edge letter

-- For each letter, `place_at` gives the index of the target of the edge that is taken among the first `count` edges, or
-- None.
pub record AreJoined (file : FileData) (row : RowData) (count : ℕ) (targets : List Target)
    (place_at : ℕ → Option ℕ) : Type 0 where
  pub there : (letter : ℕ) → letter < 2 ^ length file.names → (e : TakenEdge file row count letter) →
      IsSomeAnd (place_at letter) (IsTargetAt row e.edge targets)
  pub from : (letter place : ℕ) → letter < 2 ^ length file.names → place_at letter ≡ Some place →
      TakenEdge file row count letter
  pub within : (place : ℕ) (target : Target) → slice_get targets place ≡ Some target → target.state < file.states

-- the diagram at a node gives, for each letter, the index of the target of the edge that is taken, or None
pub record IsUnion (file : FileData) (row : RowData) (count : ℕ) (targets : List Target) (t : Table) (node : ℕ) : Type 0
  where
    pub held : IsNode t node
    pub joined : AreJoined file row count targets (leaf_of t node)

-- the first `count` edges of a row are joined, and the diagram store has the diagrams of the file's aliases and of the
-- row's label
pub record IsJoining (g : Guards) (count : ℕ) (t : Table) (u : Union) : Type 0 where
  pub ready : IsReady t g
  pub union : IsUnion g.file.now (row_data g.row.now) count u.targets t u.node

-- each edge in a state's row is taken at exactly one letter, whose number is the index of the edge
abbrev pub IsByLetters : FileData → RowData → Type 0
IsByLetters file row = AreAtLetters 0 row.edges × (length row.edges ≡ 2 ^ length file.names)

-- the targets of the edges in a state's row, in the order of the edges
pub record AreTargets (row : RowData) (targets : List Target) : Type 0 where
  pub one_each : length targets ≡ length row.edges
  pub each : (k : ℕ) (edge : EdgeData) → slice_get row.edges k ≡ Some edge → IsTargetAt row edge targets k

-- the first pair of clashing edges of a state, given by their indices in the state's row
pub record IsFirstOfRow (file : FileData) (row : RowData) (first second : ℕ) : Type 0 where
  pub clashing : AreClashing file row first second
  pub least_second : (a b : ℕ) → AreClashing file row a b → second ≤ b
  pub least_first : (a : ℕ) → AreClashing file row a second → first ≤ a

abbrev pub IsRowFault : FileData → RowData → AutomatonFault → Type 0
IsRowFault file row ComplementedSet = ⊥
IsRowFault file row NonParity = ⊥
IsRowFault file row (Nondeterministic q first second) = (q ≡ row.state) × IsFirstOfRow file row first second
IsRowFault file row OutOfMemory = Unit {0}

-- the first `count` edges of a row have been joined, or the row is refused
pub record Joins {X : Type 0} (g : Guards) (count : ℕ) (old new : Table) (u : Union)
    (result : Result X AutomatonFault) : Type 0 where
  pub keeps : OnOk result (Keeps old new)
  pub union : OnOk result (IsUnion g.file.now (row_data g.row.now) count u.targets new u.node)
  pub refused : IfErr result (IsRowFault g.file.now (row_data g.row.now))

-- ## Steps

-- each step of the old list has the same index in the new list
abbrev pub Extends : List Step → List Step → Type 0
Extends old new = (place : ℕ) (step : Step) → slice_get old place ≡ Some step → slice_get new place ≡ Some step

-- the step with the index 0 leads to the sink, and every step leads to a state or to the sink
pub record AreSteps (states : ℕ) (steps : List Step) : Type 0 where
  pub sink : slice_get steps 0 ≡ Some (record { state = states; priority = 1 })
  pub within : (place : ℕ) (step : Step) → slice_get steps place ≡ Some step → step.state ≤ states

abbrev pub step_of_target : Chain → Target → Step
step_of_target chain target = record { state = target.state; priority = level chain (λ set. is_in set target.sets) }

-- for each target, `places` has the index of the step to this target
pub record ArePlaces (chain : Chain) (targets : List Target) (steps : List Step) (places : List ℕ) : Type 0 where
  pub one_each : length places ≡ length targets
  pub each : (k place : ℕ) (target : Target) → slice_get targets k ≡ Some target → slice_get places k ≡ Some place →
      slice_get steps place ≡ Some (step_of_target chain target)

-- the leaf is the index of the given step in the list of steps
abbrev pub Names : List Step → Option ℕ → Step → Type 0
Names steps leaf step = IsSomeAnd leaf (λ place. slice_get steps place ≡ Some step)

pub record Moves (file : FileData) (chain : Chain) (q letter : ℕ) (steps : List Step) (leaf : Option ℕ) : Type 0 where
  pub next : ℕ
  pub sets : ℕ → Bool
  pub goes : Goes file q letter sets next
  pub named : Names steps leaf (record { state = next; priority = level chain sets })

pub record Stops (file : FileData) (q letter : ℕ) (steps : List Step) (leaf : Option ℕ) : Type 0 where
  pub none : (sets : ℕ → Bool) (next : ℕ) → Goes file q letter sets next → ⊥
  pub named : Names steps leaf (record { state = file.states; priority = 1 })

pub record IsStepsOf (file : FileData) (chain : Chain) (q : ℕ) (steps : List Step) (t : Table) (node : ℕ) : Type 0 where
  pub held : IsNode t node
  pub leaves : (letter : ℕ) → IsSomeAnd (leaf_of t node letter) (λ leaf. leaf < length steps)
  pub steps_of : (letter : ℕ) → letter < 2 ^ length file.names →
      Moves file chain q letter steps (leaf_of t node letter) ⊎ Stops file q letter steps (leaf_of t node letter)
  pub by_edge : (letter : ℕ) (sets : ℕ → Bool) (next : ℕ) → Goes file q letter sets next →
      Names steps (leaf_of t node letter) (record { state = next; priority = level chain sets })
  pub clear : (first second : ℕ) → Clash file q first second → ⊥

abbrev pub IsStateFault : FileData → ℕ → AutomatonFault → Type 0
IsStateFault file q ComplementedSet = ⊥
IsStateFault file q NonParity = ⊥
IsStateFault file q (Nondeterministic p first second) =
    (p ≡ q) × Clash file q first second × ((a b : ℕ) → Clash file q a b → second ≤ b) ×
    ((a : ℕ) → Clash file q a second → first ≤ a)
IsStateFault file q OutOfMemory = Unit {0}

-- while the steps of states are built, the diagram store keeps its nodes, and the list of steps keeps its entries
pub record Grows (states : ℕ) (old new : Pairs) : Type 0 where
  pub keeps : Keeps old.store new.store
  pub extends : Extends old.steps new.steps
  pub steps : AreSteps states new.steps

-- the precondition for building the diagrams of all states' steps: the diagrams of the aliases are in the store,
-- `AreLetterSets` holds for the sets of letters, if there are any, and `AreSteps` for the list of steps
pub record IsSource (s : Source) (pairs : Pairs) : Type 0 where
  pub letters : pairs.store.propositions ≡ length s.file.now.names
  pub aliases : AreNodesOf pairs.store s.file.now.aliases s.aliases.now
  pub sets : IfSome s.sets.now (AreLetterSets s.file.now)
  pub steps : AreSteps s.file.now.states pairs.steps

-- the precondition for building the diagram of the steps of a row's state
pub record IsRowReady (s : Source) (row : RowData) (pairs : Pairs) : Type 0 where
  pub source : IsSource s pairs
  pub sound : IsSoundFile s.file.now
  pub sound_row : IsSoundRow s.file.now row

-- if the result is no error, it is the diagram of the steps of the row's state, and the diagram store and the list of
-- steps have only grown
pub record MakesSteps {E : Type 0} (s : Source) (row : RowData) (old new : Pairs) (result : Result ℕ E) : Type 0 where
  pub grows : OnOk result (Grows s.file.now.states old new)
  pub node : IfOk result (λ node. (q : ℕ) → row_of s.file.now q ≡ Some row → IsStepsOf s.file.now
      (chain_data s.levels.now.chain) q new.steps new.store node)

-- as `MakesSteps`, for a call that may also make no diagram
pub record MayMakeSteps {E : Type 0} (s : Source) (row : RowData) (old new : Pairs) (result : Result (Option ℕ) E) :
    Type 0 where
  pub grows : OnOk result (Grows s.file.now.states old new)
  pub node : IfOk result (λ made. IfSome made (λ node. (q : ℕ) → row_of s.file.now q ≡ Some row → IsStepsOf s.file.now
      (chain_data s.levels.now.chain) q new.steps new.store node))

pub record IsDraft (file : FileData) (chain : Chain) (steps : List Step) (t : Table) (nodes : List ℕ) : Type 0 where
  pub letters : t.propositions ≡ length file.names
  pub all_steps : AreSteps file.states steps
  pub one_each : length nodes ≡ file.states + 1
  pub states : (q : ℕ) → q < file.states → IsStepsOf file chain q steps t (slice_index nodes q)
  pub sink_held : IsNode t (slice_index nodes file.states)
  pub sink : (letter : ℕ) → leaf_of t (slice_index nodes file.states) letter ≡ Some 0

abbrev pub IsDraftFault : FileData → AutomatonFault → Type 0
IsDraftFault file ComplementedSet = ⊥
IsDraftFault file NonParity = ⊥
IsDraftFault file (Nondeterministic q first second) = IsFirstClash file q first second
IsDraftFault file OutOfMemory = Unit {0}
