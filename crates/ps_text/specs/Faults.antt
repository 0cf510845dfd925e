-- What a fault says about a text: why and at which offset the text is rejected, or, if the program ran out of memory,
-- nothing. In psyn's list of faults, a fault has the number and name of its cause, or of "out of memory".
use Rattle.std.specs.Prelude.{ℕ, List, Option, None, Some, Result, Ok, Err, codes}
use Rattle.ps_text.specs.declared.faults.Fault.{Fault}
use Rattle.ps_text.specs.declared.faults.Fault.TheVariants.{Text, OutOfMemory}
use Rattle.ps_text.specs.Answers.{Found}

abbrev pub found_of : {C : Type 0} → Fault C → Option (Found C)
found_of (Text cause offset) = Some (record { cause = cause; offset = offset })
found_of OutOfMemory = None

-- the result of a call is the answer to the text, or the fault that the program is out of memory
abbrev pub UnlessMemory : {V C : Type 0} → (Result V (Found C) → Type 0) → Result V (Fault C) → Type 0
UnlessMemory IsAnswer (Ok value) = IsAnswer (Ok value)
UnlessMemory IsAnswer (Err (Text cause offset)) = IsAnswer (Err (record { cause = cause; offset = offset }))
UnlessMemory IsAnswer (Err OutOfMemory) = Unit {0}

-- the number of the fault "out of memory", which is the same in every part of psyn
abbrev pub memory_number : ℕ
memory_number = 24

abbrev pub memory_name : List ℕ
memory_name = codes "OutOfMemory"

abbrev pub fault_number : {C : Type 0} → (C → ℕ) → Fault C → ℕ
fault_number number (Text cause offset) = number cause
fault_number number OutOfMemory = memory_number

abbrev pub fault_name : {C : Type 0} → (C → List ℕ) → Fault C → List ℕ
fault_name name (Text cause offset) = name cause
fault_name name OutOfMemory = memory_name
