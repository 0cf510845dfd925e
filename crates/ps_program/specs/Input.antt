-- The program's input.
use Rattle.std.specs.Prelude.{◌≡◌, ◌≤◌, ◌<◌, ◌⊎◌, ℕ, Bool, true, false, List, length, Option, Result, Ok, Err, IfSome}
use Rattle.std.specs.Io.KnownBytes.{Consumes}
use Rattle.std.specs.Global.{Vec}
use Rattle.ps_program.specs.declared.reading.InputFault.{InputFault}
use Rattle.ps_program.specs.declared.reading.InputFault.TheVariants.{Unreadable, OutOfMemory}

-- the largest number of bytes that an input may have: 64 MiB
abbrev pub input_limit : ℕ
input_limit = 67108864

-- if it is known which bytes a source still has, they are the given bytes
abbrev pub AgreesWith : Option (List ℕ) → List ℕ → Type 0
AgreesWith known bytes = IfSome known (λ left. left ≡ bytes)

-- the source still has more bytes than an input may have, or it is not known which bytes it has
abbrev pub IsTooLong : Option (List ℕ) → Type 0
IsTooLong known = (bytes : List ℕ) × AgreesWith known bytes × (input_limit < length bytes)

-- the source returned at most `most` bytes
abbrev pub ConsumesAtMost : Option (List ℕ) → Option (List ℕ) → ℕ → Type 0
ConsumesAtMost before after most =
    (taken : List ℕ) × Consumes before after taken × (length taken ≤ most)

-- the whole input, or the reason why there is none; the flag `has_failed` states whether a read failed
abbrev pub ReadsInput : Option (List ℕ) → Bool → Result (Vec ℕ) InputFault → Type 0
ReadsInput known has_failed (Ok input) =
    (has_failed ≡ false) × AgreesWith known input.items × (length input.items ≤ input_limit)
ReadsInput known has_failed (Err Unreadable) =
    (has_failed ≡ true) ⊎ ((has_failed ≡ false) × IsTooLong known)
ReadsInput known has_failed (Err OutOfMemory) = has_failed ≡ false
