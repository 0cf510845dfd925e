-- If there is a fault, the program writes a line instead of a result, with the word `fault`, a number and a name, and
-- with a place if the fault has one.
use Rattle.std.specs.Prelude.{ℕ, List, [], ◌++◌, Option, Some, None, codes, decimal, flat_map}
use Rattle.ps_program.specs.declared.fault.FaultLine.{FaultLine}
use Rattle.ps_program.specs.declared.fault.Place.{Place}
use Rattle.ps_program.specs.declared.fault.Place.TheVariants.{Nowhere, Byte, Edges, Cycle, Move, Edge, Count}

-- a space, and then a number in decimal digits
abbrev pub spaced : ℕ → List ℕ
spaced n = codes " " ++ decimal n

-- numbers, each after a space
abbrev pub ids_text : List ℕ → List ℕ
ids_text ids = flat_map spaced ids

-- the id of a move, or a dash if there is none, after a space
abbrev pub choice_text : Option ℕ → List ℕ
choice_text (Some id) = spaced id
choice_text None = codes " -"

-- the offset of a fault in a text, as it is written after the fault's name
abbrev pub byte_text : ℕ → List ℕ
byte_text offset = codes " at" ++ spaced offset

abbrev pub edges_text : ℕ → ℕ → ℕ → List ℕ
edges_text state first second = codes " state" ++ spaced state ++ codes " edges" ++ spaced first ++ spaced second

abbrev pub place_text : Place → List ℕ
place_text Nowhere = []
place_text (Byte offset) = byte_text offset
place_text (Edges state first second) = edges_text state first second
place_text (Cycle ids) = ids_text ids.items
place_text (Move vertex choice) = spaced vertex ++ choice_text choice
place_text (Edge vertex successor) = spaced vertex ++ spaced successor
place_text (Count vertex successor priority) = spaced vertex ++ spaced successor ++ spaced priority

-- the line that reports a fault, made of its number, name and place, without the newline that ends the line
abbrev pub line_text : ℕ → List ℕ → List ℕ → List ℕ
line_text number name place = codes "fault" ++ spaced number ++ codes " " ++ name ++ place

-- the line that reports a fault at an offset of a text, given the number and the name of its cause
abbrev pub text_line : ℕ → List ℕ → ℕ → List ℕ
text_line number name offset = line_text number name (byte_text offset)

abbrev pub fault_text : FaultLine → List ℕ
fault_text line = line_text line.number line.name.now (place_text line.place)
