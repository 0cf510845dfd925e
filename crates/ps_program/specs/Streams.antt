-- The sink, which is the stream to which the program writes its answer: its state, and what each call changes.
use Rattle.std.specs.Prelude.{◌≡◌, ◌⊎◌, ◌==◌, ◌&&◌, ℕ, Bool, true, false, List, length, Option, Result, Ok, Err, nat_lt}
use Rattle.std.specs.Io.{StartsWith}
use Rattle.std.specs.Io.KnownBytes.{Appends}

-- whether a write was given some bytes and accepted none of them
abbrev pub stalls : {E : Type 0} → Result ℕ E → List ℕ → Bool
stalls (Ok n) bytes = n == 0 && nat_lt 0 (length bytes)
stalls (Err e) bytes = false

-- if it is known what a sink contained before, it now contains the same bytes, followed by a prefix of the text
abbrev pub AppendsSome : Option (List ℕ) → Option (List ℕ) → List ℕ → Type 0
AppendsSome before after text = (sent : List ℕ) × StartsWith text sent × Appends before after sent

-- Either a call to the sink failed, or a write accepted no bytes. A failed call and a write that accepts no bytes can't
-- both happen, because nothing more is written after the first of them.
abbrev pub Breaks : (has_failed has_stalled : Bool) → Type 0
Breaks has_failed has_stalled =
    ((has_failed ≡ true) × (has_stalled ≡ false)) ⊎ ((has_failed ≡ false) × (has_stalled ≡ true))

-- what a sink reports: its contents, if known, whether a call failed, whether a write accepted no bytes, and whether
-- the last call was a flush that succeeded
pub record SinkState : Type 0 where
  pub contents : Option (List ℕ)
  pub has_failed : Bool
  pub has_stalled : Bool
  pub is_flushed : Bool

abbrev pub sink_state : {W : Type 0} → (W → Option (List ℕ)) → (W → Bool) → (W → Bool) → (W → Bool) → W → SinkState
sink_state contents has_failed has_stalled is_flushed writer = record {
  contents = contents writer;
  has_failed = has_failed writer;
  has_stalled = has_stalled writer;
  is_flushed = is_flushed writer;
}
