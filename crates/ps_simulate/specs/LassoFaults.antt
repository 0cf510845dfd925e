-- Why a circuit that reads a stem once and then a lap repeatedly has no word, or gets no verdict of an automaton.
-- - `IsWordFault role names controllable c stem lap fault`: `fault` is the first that applies of `Width`, `EmptyLap`
--   and `Symbols`, or it is out of memory
-- - `IsLassoFault role a c stem lap fault`: the same for the propositions of an automaton
use Rattle.std.specs.Prelude.{◌≡◌, ⊤, ℕ, ◌<◌, Bool, List, [], length, All}
use Rattle.ps_circuit.specs.Circuits.{CircuitData}
use Rattle.ps_automaton.specs.Automata.{AutomatonData}
use Rattle.ps_simulate.specs.Symbols.{HasSymbols}
use Rattle.ps_simulate.specs.declared.role.Role.{Role}
use Rattle.ps_simulate.specs.declared.lassos.LassoFault.{LassoFault}
use Rattle.ps_simulate.specs.declared.lassos.LassoFault.TheVariants.{Width, EmptyLap, Symbols, OutOfMemory}

-- each letter of the stem and the lap has a bit for each input
pub record AreWide (c : CircuitData) (stem lap : List (List Bool)) : Type 0 where
  pub stem_is : All (λ letter. length letter ≡ length c.inputs) stem
  pub lap_is : All (λ letter. length letter ≡ length c.inputs) lap

-- none of the faults `Width`, `EmptyLap` and `Symbols` applies
pub record HasNoWordFault (role : Role) (names : List (List ℕ)) (controllable : List ℕ) (c : CircuitData)
    (stem lap : List (List Bool)) : Type 0 where
  pub wide : AreWide c stem lap
  pub some : 0 < length lap
  pub symbols : HasSymbols role names controllable c

abbrev pub HasNoLassoFault : Role → AutomatonData → CircuitData → List (List Bool) → List (List Bool) → Type 0
HasNoLassoFault role a = HasNoWordFault role a.names a.controllable

-- the fault applies, and none that precedes it in the order `Width`, `EmptyLap`, `Symbols` applies; the fault
-- `OutOfMemory` is possible for all arguments
abbrev pub IsWordFault : Role → List (List ℕ) → List ℕ → CircuitData → List (List Bool) → List (List Bool) →
    LassoFault → Type 0
IsWordFault role names controllable c stem lap Width = ¬ AreWide c stem lap
IsWordFault role names controllable c stem lap EmptyLap = AreWide c stem lap × (lap ≡ [])
IsWordFault role names controllable c stem lap Symbols =
    AreWide c stem lap × (0 < length lap) × ¬ HasSymbols role names controllable c
IsWordFault role names controllable c stem lap OutOfMemory = ⊤

abbrev pub IsLassoFault : Role → AutomatonData → CircuitData → List (List Bool) → List (List Bool) → LassoFault → Type 0
IsLassoFault role a = IsWordFault role a.names a.controllable
