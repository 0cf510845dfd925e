-- The gates that a circuit builder makes, in order, as if their number were unlimited.
-- - `Made`: the gates that were made so far, and the literal that the last call returned
-- - `gate_of d s`: the literal of the gate that reads the two literals in `s`
-- - `and_of d x y`, `or_of d x y`, `mux_of d s high low`: the literals of a conjunction, a disjunction, and a
--   multiplexer controlled by s
use Rattle.std.specs.Prelude.{ℕ, ◌+◌, ◌*◌, ◌==◌, ◌&&◌, ◌||◌, nat_lt, Bool, if◌then◌else◌, [], ◌∷◌, ◌++◌}
use Rattle.std.specs.Prelude.{◌≡◌, Err, IfOk, Result}
use Rattle.std.specs.List.{list_any, position_or_len}
use Rattle.ps_circuit.specs.declared.builder.Sides.{Sides}
use Rattle.ps_circuit.specs.declared.encode_fault.EncodeFault.{EncodeFault}
use Rattle.ps_circuit.specs.declared.encode_fault.EncodeFault.TheVariants.{CircuitTooLarge}
use Rattle.ps_circuit.specs.Building.{Drafted, Extends, HasTooMany, IsFull, IsHeld, MeetsEquations, bit}
use Rattle.ps_circuit.specs.Literals.{negated}

pub record Made : Type 0 where
  pub draft : Drafted
  pub literal : ℕ

abbrev pub has_sides : Sides → Sides → Bool
has_sides s gate = s.first == gate.first && s.second == gate.second

-- the literal of the gate with the two given literals: an existing gate is used again, and a new gate takes the next
-- variable
unfoldable pub gate_of : Drafted → Sides → Made
gate_of d s = record {
  draft = record { given = d.given; gates = if list_any (has_sides s) d.gates then d.gates else d.gates ++ s ∷ [] };
  literal = 2 * (d.given + 1 + position_or_len (has_sides s) d.gates);
}

unfoldable pub and_of : Drafted → ℕ → ℕ → Made
and_of d x y =
    if x == 0 || y == 0 || x == negated y then record { draft = d; literal = 0 }
    else if x == 1 || x == y then record { draft = d; literal = y }
    else if y == 1 then record { draft = d; literal = x }
    else if nat_lt y x then gate_of d (record { first = x; second = y })
    else gate_of d (record { first = y; second = x })

abbrev pub inverted : Made → Made
inverted made = record { draft = made.draft; literal = negated made.literal }

unfoldable pub or_of : Drafted → ℕ → ℕ → Made
or_of d x y = inverted (and_of d (negated x) (negated y))

-- the multiplexer of two different literals, neither of which is constant
unfoldable pub chosen_of : Drafted → ℕ → ℕ → ℕ → Made
chosen_of d s high low =
    let where_true = and_of d s high in
    let where_false = and_of where_true.draft (negated s) low in
    or_of where_false.draft where_true.literal where_false.literal

unfoldable pub mux_of : Drafted → ℕ → ℕ → ℕ → Made
mux_of d s high low =
    if high == low then record { draft = d; literal = high }
    else if high == 1 && low == 0 then record { draft = d; literal = s }
    else if high == 0 && low == 1 then record { draft = d; literal = negated s }
    else if high == 1 then or_of d s low
    else if high == 0 then and_of d (negated s) low
    else if low == 0 then and_of d s high
    else if low == 1 then or_of d (negated s) high
    else chosen_of d s high low

-- What a call of a builder ensures. If the number of gates were unlimited, the builder would have the gates of `all`
-- after the call, and the call would return the literal of `all`. If the call succeeds, the builder has the gates of
-- `all`, and the call returns the literal of `all`. If the variables' values v satisfy the equations of the gates, this
-- literal has the value `value v`.
pub record MakesGates (old new : Drafted) (result : Result ℕ EncodeFault) (all : Made)
    (value : (ℕ → Bool) → Bool) : Type 0 where
  -- the existing gates remain, even if the call fails
  pub extends : Extends old new
  pub held : IfOk result (IsHeld new)
  pub bit : IfOk result (λ literal. (v : ℕ → Bool) → MeetsEquations new v → bit v literal ≡ value v)
  pub made : IfOk result (λ literal. all ≡ record { draft = new; literal = literal })
  -- if the call fails because no variable is left, 2147483647 variables exist, and with all gates of `all` there would
  -- be more: a gate of `all` is missing
  pub too_large : result ≡ Err CircuitTooLarge → IsFull new
  pub above : result ≡ Err CircuitTooLarge → HasTooMany all.draft
