-- The and-gates that a circuit builder has made so far, and what is required of them.
-- - `Drafted`: how many variables the builder was given, and the two literals of each gate, in order
-- - `bit v literal`: the value of a literal, if each variable has the value that v gives it
-- - `MeetsEquations d v`: variable 0 is false, and the variable of each gate is the conjunction of the gate's two
--   literals
-- - `Extends old new`: all gates of `old` are also in `new`, with the same variables
-- - `IsSoundDraft d`: the invariant of a circuit builder: its gates are well formed and different from each other, and
--   the literals of all variables fit into 32 bits
use Rattle.std.specs.Prelude.{◌≡◌, ◌≢◌, ℕ, ◌+◌, ◌^◌, ◌<◌, ◌≤◌, ◌&&◌, Bool, false, not, if◌then◌else◌, List}
use Rattle.std.specs.Prelude.{length}
use Rattle.std.specs.Prelude.{slice_get, Some}
use Rattle.ps_circuit.specs.declared.builder.Sides.{Sides}
use Rattle.ps_circuit.specs.Literals.{is_negated, variable}

pub record Drafted : Type 0 where
  pub given : ℕ
  pub gates : List Sides

-- the number of variables that exist in a builder, not counting variable 0
abbrev pub variables_of : Drafted → ℕ
variables_of d = d.given + length d.gates

-- the literal exists in the builder: its variable is 0, a given variable or the variable of a gate
abbrev pub IsHeld : Drafted → ℕ → Type 0
IsHeld d literal = variable literal ≤ variables_of d

abbrev pub bit : (ℕ → Bool) → ℕ → Bool
bit v literal = if is_negated literal then not (v (variable literal)) else v (variable literal)

pub record MeetsEquations (d : Drafted) (v : ℕ → Bool) : Type 0 where
  pub constant : v 0 ≡ false
  pub each : (k : ℕ) (s : Sides) → slice_get d.gates k ≡ Some s →
      v (d.given + 1 + k) ≡ (bit v s.first && bit v s.second)

pub record Extends (old new : Drafted) : Type 0 where
  pub given : new.given ≡ old.given
  pub more : length old.gates ≤ length new.gates
  pub same : (k : ℕ) (s : Sides) → slice_get old.gates k ≡ Some s → slice_get new.gates k ≡ Some s

-- the two literals of a gate: their variables differ and are less than the gate's own variable, neither literal is
-- constant, and the greater literal is first
pub record AreSides (own : ℕ) (s : Sides) : Type 0 where
  pub below : variable s.first < own
  pub falls : s.second < s.first
  pub different : variable s.second ≢ variable s.first
  pub not_constant : 0 < variable s.second

-- the invariant of a builder: the literals of all variables fit into 32 bits, each gate's literals are allowed, and no
-- two gates have the same two literals
pub record IsSoundDraft (d : Drafted) : Type 0 where
  pub room : variables_of d < 2 ^ 31
  pub sides : (k : ℕ) (s : Sides) → slice_get d.gates k ≡ Some s → AreSides (d.given + 1 + k) s
  pub once : (k l : ℕ) (s : Sides) → slice_get d.gates k ≡ Some s → slice_get d.gates l ≡ Some s → k ≡ l

-- the builder is full: the literals of a further variable would not fit into 32 bits
abbrev pub IsFull : Drafted → Type 0
IsFull d = variables_of d ≡ 2147483647

-- there are so many variables that their literals do not all fit into 32 bits
abbrev pub HasTooMany : Drafted → Type 0
HasTooMany d = 2147483647 < variables_of d
