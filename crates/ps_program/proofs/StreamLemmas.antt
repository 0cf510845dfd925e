-- Lemmas about the joint effect of several reads from a source, or of several writes to a sink.
use Rattle.std.proofs.Common.{◌≡◌, ℕ, ◌+◌, ◌-◌, ◌≤◌, ◌<◌, List, [], ◌++◌, length, take, drop, Some, None}
use Rattle.std.proofs.Common.{take-add, length-append, arith}
use Rattle.std.specs.Prelude.{Option}
use Rattle.std.specs.Io.KnownBytes.{Appends, Consumes}
use Rattle.std.proofs.KnownBytes.{Appends-trans, Consumes-trans}
use Rattle.std.proofs.lemmas.List.{take_rest}
use Rattle.ps_program.specs.Input.{AgreesWith, ConsumesAtMost, IsTooLong, input_limit}

-- after the first `sent` bytes of the text, one more write has appended the next `count` bytes to the sink
pub Appends-next : (a b c : Option (List ℕ)) (text : List ℕ) (sent count : ℕ) → Appends a b (take sent text)
    → Appends b c (take count (take (length text - sent) (drop sent text))) → Appends a c (take (sent + count) text)
Appends-next a b c text sent count front next = grind (arith, take_rest, take-add, Appends-trans)

-- if it is known which bytes a source still has, they begin with the bytes that a read takes
pub Consumes-agrees : (a b : Option (List ℕ)) (taken : List ℕ) → Consumes a b taken
    → (rest : List ℕ) × AgreesWith a (taken ++ rest)
Consumes-agrees None b taken p = ([], tt)
Consumes-agrees (Some x) None taken p = absurd p
Consumes-agrees (Some x) (Some y) taken p = (y, p)

-- if more bytes than an input may have were read from a source, its input is too long
pub IsTooLong-taken : (a b : Option (List ℕ)) (taken : List ℕ) → Consumes a b taken →
    input_limit < length taken → IsTooLong a
IsTooLong-taken a b taken p long = grind (arith, Consumes-agrees, length-append)

-- after some bytes were read from a source, one more read has filled the beginning of a buffer
pub ConsumesAtMost-next : (a b c : Option (List ℕ)) (taken buffer : List ℕ) (count most : ℕ) → Consumes a b taken
    → Consumes b c (take count buffer) → length (take count buffer) ≡ count → length taken + count ≤ most →
    ConsumesAtMost a c most
ConsumesAtMost-next a b c taken buffer count most first next whole small = grind (arith, Consumes-trans, length-append)

-- if the bytes read before and those in the buffer are together more than an input may have, the input is too long
pub IsTooLong-next : (a b c : Option (List ℕ)) (taken buffer : List ℕ) (count : ℕ) → Consumes a b taken
    → Consumes b c (take count buffer) → length (take count buffer) ≡ count →
    input_limit < length taken + count → IsTooLong a
IsTooLong-next a b c taken buffer count first next whole long = IsTooLong-taken a c (taken ++ take count buffer)
    (Consumes-trans a b c _ _ first next) (omega (arith, length-append taken (take count buffer), whole))
