-- Total, deterministic automata with a priority on each edge, and what it means that such an automaton is the automaton
-- of an HOA file.
-- - `Auto`: a start state, and for each state and letter the next state and the priority
-- - `IsAutoOf file chain a`: a is the automaton of the file, whose acceptance condition is the chain
use Rattle.std.specs.Prelude.{◌≡◌, ℕ, zero, suc, ◌+◌, ◌^◌, ◌<◌, ◌≤◌, ◌⊎◌, max, Bool, List, [], ◌∷◌, length}
use Rattle.ps_hoa.specs.Files.{FileData}
use Rattle.ps_hoa.specs.Edges.{Goes}
use Rattle.ps_automaton.specs.Chains.{Chain, level}

pub record Auto : Type 0 where
  pub start : ℕ
  pub next : ℕ → ℕ → ℕ
  pub priority : ℕ → ℕ → ℕ

-- the step from the state q at the letter takes an edge of the file, and has the priority that the chain gives to this
-- edge
pub record TakesEdge (file : FileData) (chain : Chain) (a : Auto) (q letter : ℕ) : Type 0 where
  pub sets : ℕ → Bool
  pub goes : Goes file q letter sets (a.next q letter)
  pub priority : a.priority q letter ≡ level chain sets

-- no edge of the state q is taken at the letter, so the step leads to the sink, whose number equals the count of states
pub record TakesNone (file : FileData) (a : Auto) (q letter : ℕ) : Type 0 where
  pub none : (sets : ℕ → Bool) (next : ℕ) → Goes file q letter sets next → ⊥
  pub to_sink : a.next q letter ≡ file.states
  pub priority : a.priority q letter ≡ 1

pub record IsAutoOf (file : FileData) (chain : Chain) (a : Auto) : Type 0 where
  pub start : a.start ≡ file.start
  pub start_within : a.start ≤ file.states
  pub within : (q letter : ℕ) → q ≤ file.states → letter < 2 ^ length file.names → a.next q letter ≤ file.states
  pub steps : (q letter : ℕ) → q < file.states → letter < 2 ^ length file.names →
      TakesEdge file chain a q letter ⊎ TakesNone file a q letter
  -- every edge that is taken at a letter has the target and the priority of the automaton's step at this letter
  pub by_edge : (q letter : ℕ) (sets : ℕ → Bool) (next : ℕ) → Goes file q letter sets next →
      (a.next q letter ≡ next) × (a.priority q letter ≡ level chain sets)
  -- at every letter, the step from the sink leads back to the sink, with the priority 1
  pub sink_stays : (letter : ℕ) → letter < 2 ^ length file.names →
      (a.next file.states letter ≡ file.states) × (a.priority file.states letter ≡ 1)

-- ## Runs

-- the state in which the automaton reads the letter at the index t of a word
abbrev pub state_at : Auto → (ℕ → ℕ) → ℕ → ℕ
state_at a w zero = a.start
state_at a w (suc t) = a.next (state_at a w t) (w t)

abbrev pub priority_at : Auto → (ℕ → ℕ) → ℕ → ℕ
priority_at a w t = a.priority (state_at a w t) (w t)

-- the greatest of the values of a function at `count` successive indices, beginning at `from`
abbrev pub greatest_from : (ℕ → ℕ) → ℕ → ℕ → ℕ
greatest_from f from zero = 0
greatest_from f from (suc count) = max (f from) (greatest_from f (from + 1) count)

-- ## Reading lists of letters

abbrev pub state_behind : Auto → ℕ → List ℕ → ℕ
state_behind a q [] = q
state_behind a q (letter ∷ letters) = state_behind a (a.next q letter) letters

abbrev pub greatest_along : Auto → ℕ → List ℕ → ℕ
greatest_along a q [] = 0
greatest_along a q (letter ∷ letters) = max (a.priority q letter) (greatest_along a (a.next q letter) letters)

-- the state that the automaton reaches from q by reading a lap `laps` times
abbrev pub state_after : Auto → ℕ → List ℕ → ℕ → ℕ
state_after a q lap zero = q
state_after a q lap (suc laps) = state_behind a (state_after a q lap laps) lap

abbrev pub greatest_of_laps : Auto → ℕ → List ℕ → ℕ → ℕ
greatest_of_laps a q lap zero = 0
greatest_of_laps a q lap (suc laps) =
    max (greatest_of_laps a q lap laps) (greatest_along a (state_after a q lap laps) lap)
