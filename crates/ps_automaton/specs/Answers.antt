-- The correct results of `Automaton::build`: the automaton of an HOA file, or the first of three faults for which a
-- file has no automaton.
-- - `AreAlike row one other`: two edges of a state have the same target and the same acceptance sets
-- - `Clash file q first second`: two edges of the state q, given by their indices, are taken at a common letter, but
--   differ in their targets or acceptance sets
-- - `IsDeterministic file`: no two edges of a state clash
-- - `IsAdmitted file`: the file has none of the three faults
-- - `IsRefused file fault`: the file has this fault, and none of the faults before it; `OutOfMemory` is possible for
--   every file
use Rattle.std.specs.Prelude.{◌≡◌, ℕ, ◌^◌, ◌<◌, ◌≤◌, true, false, length, None, Some, slice_get}
use Rattle.ps_hoa.specs.Files.{EdgeData, RowData, FileData}
use Rattle.ps_hoa.specs.Edges.{row_of, IsTaken, is_marked}
use Rattle.ps_automaton.specs.Chains.{Chain, chain_of, has_complement}
use Rattle.ps_automaton.specs.declared.fault.AutomatonFault.{AutomatonFault}
use Rattle.ps_automaton.specs.declared.fault.AutomatonFault.TheVariants.{ComplementedSet, NonParity, Nondeterministic}
use Rattle.ps_automaton.specs.declared.fault.AutomatonFault.TheVariants.{OutOfMemory}

-- the two edges have equal targets and equal acceptance sets; the order in which the text names the sets does not
-- matter
abbrev pub AreAlike : RowData → EdgeData → EdgeData → Type 0
AreAlike row one other = (one.target ≡ other.target) × ((set : ℕ) → is_marked row one set ≡ is_marked row other set)

-- an earlier and a later edge of a state are taken at a common letter, but differ in their targets or acceptance sets
pub record AreClashing (file : FileData) (row : RowData) (first second : ℕ) : Type 0 where
  pub earlier : first < second
  pub one : EdgeData
  pub other : EdgeData
  pub at_first : slice_get row.edges first ≡ Some one
  pub at_second : slice_get row.edges second ≡ Some other
  pub letter : ℕ
  pub is_letter : letter < 2 ^ length file.names
  pub one_taken : IsTaken file row one letter
  pub other_taken : IsTaken file row other letter
  pub differ : AreAlike row one other → ⊥

pub record Clash (file : FileData) (q first second : ℕ) : Type 0 where
  pub row : RowData
  pub of_state : row_of file q ≡ Some row
  pub clashing : AreClashing file row first second

-- no two edges of a state clash, even if the state cannot be reached
abbrev pub IsDeterministic : FileData → Type 0
IsDeterministic file = (q first second : ℕ) → Clash file q first second → ⊥

-- The first pair of clashing edges in a file belongs to the first state with a clash. The later edge of the pair is the
-- state's first edge that clashes with an earlier one. The earlier edge of the pair is the first edge with which the
-- later edge clashes.
pub record IsFirstClash (file : FileData) (q first second : ℕ) : Type 0 where
  pub clash : Clash file q first second
  pub least_state : (p a b : ℕ) → Clash file p a b → q ≤ p
  pub least_second : (a b : ℕ) → Clash file q a b → second ≤ b
  pub least_first : (a : ℕ) → Clash file q a second → first ≤ a

pub record IsAdmitted (file : FileData) : Type 0 where
  pub plain : has_complement file.condition ≡ false
  pub chain : Chain
  pub is_chain : chain_of file.condition ≡ Some chain
  pub deterministic : IsDeterministic file

abbrev pub IsRefused : FileData → AutomatonFault → Type 0
IsRefused file ComplementedSet = has_complement file.condition ≡ true
IsRefused file NonParity = (has_complement file.condition ≡ false) × (chain_of file.condition ≡ None)
IsRefused file (Nondeterministic q first second) =
    (has_complement file.condition ≡ false) × (chain : Chain) × (chain_of file.condition ≡ Some chain) ×
    IsFirstClash file q first second
IsRefused file OutOfMemory = Unit {0}
