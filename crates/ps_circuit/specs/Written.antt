-- The bytes of a circuit's text as the writer produces it.
-- - `line x xs`: the number x, then each number of `xs` after one space, then a newline
-- - `text_of c`: the text of circuit c: the header, the lines of the inputs, latches, outputs and gates, and a line for
--   each name
use Rattle.std.specs.Prelude.{ℕ, ◌+◌, List, [], ◌∷◌, ◌++◌, length, codes, decimal, Option, None, Some, if◌then◌else◌}
use Rattle.ps_circuit.specs.declared.parts.Latch.{Latch}
use Rattle.ps_circuit.specs.declared.parts.Gate.{Gate}
use Rattle.ps_circuit.specs.Circuits.{CircuitData}

abbrev pub fields : List ℕ → List ℕ
fields [] = []
fields (x ∷ xs) = 32 ∷ decimal x ++ fields xs

abbrev pub line : ℕ → List ℕ → List ℕ
line x xs = decimal x ++ fields xs ++ 10 ∷ []

-- the line of a latch, in which the reset is written only if it is 1
abbrev pub latch_line : Latch → List ℕ
latch_line l = if l.reset then line l.literal (l.next ∷ 1 ∷ []) else line l.literal (l.next ∷ [])

abbrev pub literal_lines : List ℕ → List ℕ
literal_lines [] = []
literal_lines (x ∷ xs) = line x [] ++ literal_lines xs

abbrev pub latch_lines : List Latch → List ℕ
latch_lines [] = []
latch_lines (l ∷ ls) = latch_line l ++ latch_lines ls

abbrev pub gate_lines : List Gate → List ℕ
gate_lines [] = []
gate_lines (g ∷ gs) = line g.literal (g.first ∷ g.second ∷ []) ++ gate_lines gs

abbrev pub symbol_line : ℕ → ℕ → Option (List ℕ) → List ℕ
symbol_line letter k None = []
symbol_line letter k (Some name) = letter ∷ decimal k ++ 32 ∷ name ++ 10 ∷ []

-- a line of the symbol table for each name in a list of optional names; the first entry of the list belongs to the
-- input, latch or output with the number k
abbrev pub symbol_lines : ℕ → ℕ → List (Option (List ℕ)) → List ℕ
symbol_lines letter k [] = []
symbol_lines letter k (n ∷ ns) = symbol_line letter k n ++ symbol_lines letter (k + 1) ns

abbrev pub header_line : CircuitData → List ℕ
header_line c =
    codes "aag" ++ fields (c.most ∷ length c.inputs ∷ length c.latches ∷ length c.outputs ∷ length c.gates ∷ []) ++
    10 ∷ []

abbrev pub text_of : CircuitData → List ℕ
text_of c =
    header_line c ++ literal_lines c.inputs ++ latch_lines c.latches ++ literal_lines c.outputs ++ gate_lines c.gates
    ++ symbol_lines 105 0 c.input_names ++ symbol_lines 108 0 c.latch_names ++ symbol_lines 111 0 c.output_names
