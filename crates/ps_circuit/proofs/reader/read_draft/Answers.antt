use Rattle.std.proofs.Common.{◌≡◌, ℕ, [], arith, rules}
use Rattle.ps_circuit.specs.declared.parts.Gate.{Gate}
use Rattle.ps_circuit.specs.declared.parts.Latch.{Latch}
use Rattle.ps_circuit.specs.Inner.Names.{names_data}
use Rattle.ps_circuit.specs.Inner.Reading.{lines_of}
use Rattle.ps_circuit.specs.Texts.{Lines, input_line, latch_line, output_line, gate_line, symbols, HeaderData}
use Rattle.ps_text.proofs.BytesAndDigits.Bytes.Lefts.{stops_at}
use Rattle.ps_circuit.proofs.ReadCircuits.CircuitTextLaws.{laws_input_line, laws_latch_line, laws_output_line}
use Rattle.ps_circuit.proofs.ReadCircuits.CircuitTextLaws.{laws_gate_line}
use Rattle.ps_circuit.proofs.ReadCircuits.CircuitTextLaws.{body_latches}
use Rattle.ps_circuit.proofs.ReadCircuits.CircuitTextLaws.{body_outputs, body_gates, first_names, chain_text}
use Rattle.ps_circuit.proofs.ReadCircuits.CircuitTextLaws.{chain_inputs}
use Rattle.ps_circuit.proofs.ReadCircuits.CircuitTextLaws.{chain_latches}
use Rattle.ps_circuit.proofs.ReadCircuits.CircuitTextLaws.{chain_outputs, chain_gates}
use Rattle.ps_circuit.proofs.ReadCircuits.LineLemmas.{is_row}
use Rattle.ps_circuit.proofs.ReadCircuits.DraftReading.{Reached, Ahead, numbers, past_header, past_lines, lines_fail}
use Rattle.ps_circuit.proofs.ReadCircuits.DraftReading.{text_unread}
use Rattle.ps_circuit.proofs.ReadCircuits.DraftReading.{symbols_fail, all_reads, draft_fails, draft_memory}
use Rattle.ps_circuit.proofs.ReadCircuits.DraftReading.{draft_trails}
use Rattle.ps_circuit.proofs.ReadCircuits.DraftReading.{draft_reads, none_named}
use Rattle.ps_circuit.proofs.ReadCircuits.DraftLemmas.{each_named, gates_placed, sound_draft}
use Rattle.ps_circuit.proofs.reader.read_draft.Goals as goal
use Rattle.ps_circuit.proofs.reader.read_draft.Goals.{After-lines, After-lines-2, After-lines-3, After-lines-4}
use Rattle.ps_circuit.proofs.reader.read_draft.Goals.{After-symbols}

-- ## The rest of the text after each section

abbrev one : After-lines-2 → After-lines
one c = (goal.at.After-lines-2 c).After-lines

abbrev two : After-lines-3 → After-lines-2
two c = (goal.at.After-lines-3 c).After-lines-2

abbrev three : After-lines-4 → After-lines-3
three c = (goal.at.After-lines-4 c).After-lines-3

abbrev four : After-symbols → After-lines-4
four c = (goal.at.After-symbols c).After-lines-4

abbrev header_of : After-lines → HeaderData
header_of c = numbers c.in_ok-header.header.most c.in_ok-header.ensures.0

abbrev inputs_of : After-lines-2 → Lines ℕ
inputs_of c = lines_of c.in_ok-inputs.inputs.items c.lines.new.noted

abbrev latches_of : After-lines-3 → Lines Latch
latches_of c = lines_of c.in_ok-latches.latches.items c.lines-2.new.noted

abbrev outputs_of : After-lines-4 → Lines ℕ
outputs_of c = lines_of c.in_ok-outputs.outputs.items c.lines-3.new.noted

abbrev gates_of : After-symbols → Lines Gate
gates_of c = lines_of c.in_ok-gates.gates.items c.lines-4.new.noted

inputs_ahead : (c : After-lines) → Ahead (input_line c.in_ok-header.header.most) (body_latches (header_of c))
    c.of_lines-cursor.result c.read_header.new.cursor c.in_ok-header.header.inputs (lines_of [] c.in_ok-noted.noted)
inputs_ahead c = record {
  n = (header_of c).inputs;
  counted = c.in_ok-header.ensures.1.inputs;
  chain = chain_inputs (header_of c) _;
  reached =
      past_header c.in_ok-header.ensures.1.most c.of_lines-cursor.ensures.small c.in_ok-header.ensures.2
      c.in_ok-noted.ensures;
}

latches_ahead : (c : After-lines-2) →
    Ahead (latch_line c.in_ok-header.header.most) (body_outputs (header_of (one c)) (inputs_of c))
    c.of_lines-cursor.result c.lines.new.cursor c.in_ok-header.header.latches (lines_of [] c.lines.new.noted)
latches_ahead c = grind (
  arith,
  chain_latches (header_of (one c)) (inputs_of c),
  past_lines (inputs_ahead (one c)) (inputs_of c) c.in_ok-inputs.ensures.exact,
)

outputs_ahead : (c : After-lines-3) →
    Ahead (output_line c.in_ok-header.header.most)
    (body_gates (header_of (one (two c))) (inputs_of (two c)) (latches_of c))
    c.of_lines-cursor.result c.lines-2.new.cursor c.in_ok-header.header.outputs (lines_of [] c.lines-2.new.noted)
outputs_ahead c = grind (
  arith,
  chain_outputs (header_of (one (two c))) (inputs_of (two c)) (latches_of c),
  past_lines (latches_ahead (two c)) (latches_of c) c.in_ok-latches.ensures.exact,
)

gates_ahead : (c : After-lines-4) → let b = two (three c) in
    Ahead (gate_line c.in_ok-header.header.most)
    (symbols c.in_ok-header.header.most (inputs_of b) (latches_of (three c)) (outputs_of c))
    c.of_lines-cursor.result c.lines-3.new.cursor c.in_ok-header.header.gates (lines_of [] c.lines-3.new.noted)
gates_ahead c = let b = two (three c) in grind (
  arith,
  chain_gates (header_of (one b)) (inputs_of b) (latches_of (three c)) (outputs_of c),
  past_lines (outputs_ahead (three c)) (outputs_of c) c.in_ok-outputs.ensures.exact,
)

behind_gates : (c : After-symbols) → let b = two (three (four c)) in
    Reached c.of_lines-cursor.result c.lines-4.new.cursor
    (symbols (header_of (one b)).most (inputs_of b) (latches_of (three (four c))) (outputs_of (four c)) (gates_of c))
behind_gates c = past_lines (gates_ahead (four c)) (gates_of c) c.in_ok-gates.ensures.exact

none_yet : (c : After-symbols) → let b = two (three (four c)) in names_data c.in_ok-names.names ≡ first_names
    c.in_ok-header.header.most (inputs_of b) (latches_of (three (four c))) (outputs_of (four c)) (gates_of c)
none_yet c =
    let b = two (three (four c)) in
    none_named c.in_ok-header.header.most (inputs_of b) (latches_of (three (four c))) (outputs_of (four c)) (gates_of c)
    c.in_ok-names.ensures.none
    (omega (arith, c.len.ensures, c.in_ok-inputs.inputs.ok.0))
    (omega (arith, c.len-2.ensures, c.in_ok-latches.latches.ok.0))
    (omega (arith, c.len-3.ensures, c.in_ok-outputs.outputs.ok.0))

-- ## The ways in which the function can return

pub returns-in_err-header-clause-exact : goal.returns-in_err-header-clause-exact
returns-in_err-header-clause-exact c = draft_fails c.args.text.now _ _ c.of_lines-cursor.ensures.stream
    (stops_at chain_text text_unread _ c.in_err-header.ensures) c.from_residual.ensures.1

pub returns-in_err-noted-clause-exact : goal.returns-in_err-noted-clause-exact
returns-in_err-noted-clause-exact c = search (rules, draft_memory)

pub returns-in_err-inputs-clause-exact : goal.returns-in_err-inputs-clause-exact
returns-in_err-inputs-clause-exact c = draft_fails c.args.text.now _ _ c.of_lines-cursor.ensures.stream
    (lines_fail (inputs_ahead (goal.at.returns-in_err-inputs-clause-exact c).After-lines) _
    c.in_err-inputs.ensures.exact) c.from_residual-in_err-inputs.ensures.1

pub returns-in_err-latches-clause-exact : goal.returns-in_err-latches-clause-exact
returns-in_err-latches-clause-exact c = draft_fails c.args.text.now _ _ c.of_lines-cursor.ensures.stream
    (lines_fail (latches_ahead (goal.at.returns-in_err-latches-clause-exact c).After-lines-2) _
    c.in_err-latches.ensures.exact) c.from_residual-in_err-latches.ensures.1

pub returns-in_err-outputs-clause-exact : goal.returns-in_err-outputs-clause-exact
returns-in_err-outputs-clause-exact c = draft_fails c.args.text.now _ _ c.of_lines-cursor.ensures.stream
    (lines_fail (outputs_ahead (goal.at.returns-in_err-outputs-clause-exact c).After-lines-3) _
    c.in_err-outputs.ensures.exact) c.from_residual-in_err-outputs.ensures.1

pub returns-in_err-gates-clause-exact : goal.returns-in_err-gates-clause-exact
returns-in_err-gates-clause-exact c = draft_fails c.args.text.now _ _ c.of_lines-cursor.ensures.stream
    (lines_fail (gates_ahead (goal.at.returns-in_err-gates-clause-exact c).After-lines-4) _
    c.in_err-gates.ensures.exact) c.from_residual-in_err-gates.ensures.1

pub returns-in_err-names-clause-exact : goal.returns-in_err-names-clause-exact
returns-in_err-names-clause-exact c = search (rules, draft_memory)

pub returns-in_err-symbols-clause-exact : goal.returns-in_err-symbols-clause-exact
returns-in_err-symbols-clause-exact c =
    let b = (goal.at.returns-in_err-symbols-clause-exact c).After-symbols in
    draft_fails c.args.text.now _ _ c.of_lines-cursor.ensures.stream
    (symbols_fail _ _ _ _ _ (behind_gates b) (none_yet b) _ c.in_err-symbols.ensures.exact)
    c.from_residual-in_err-symbols.ensures.1

pub returns-in_err-comment-clause-exact : goal.returns-in_err-comment-clause-exact
returns-in_err-comment-clause-exact c =
    let b = (goal.at.returns-in_err-comment-clause-exact c).After-symbols in
    draft_trails c.args.text.now c.comment.new.cursor _ c.of_lines-cursor.ensures.stream c.in_err-comment.ensures
    (λ m. all_reads _ _ _ _ _ (behind_gates b) (none_yet b) c.in_ok-symbols.ensures.exact m)
    c.from_residual-in_err-comment.ensures.1

pub returns-clause-exact : goal.returns-clause-exact
returns-clause-exact c =
    let b = (goal.at.returns-clause-exact c).After-symbols in
    draft_reads c.args.text.now c.of_lines-cursor.ensures.stream c.in_ok-comment.ensures.1
    (all_reads _ _ _ _ _ (behind_gates b) (none_yet b) c.in_ok-symbols.ensures.exact c.in_ok-comment.ensures.0)

pub returns-clause-sound : goal.returns-clause-sound
returns-clause-sound c =
    let b = (goal.at.returns-clause-sound c).After-symbols in let d = two (three (four b)) in
    let most = c.in_ok-header.header.most in
    let n = c.in_ok-symbols.ensures.named in
    let k = c.in_ok-names.ensures.names in
    let read = draft_reads c.args.text.now c.of_lines-cursor.ensures.stream c.in_ok-comment.ensures.1
    (all_reads _ _ _ _ _ (behind_gates b) (none_yet b) c.in_ok-symbols.ensures.exact c.in_ok-comment.ensures.0) in
    sound_draft most (names_data c.symbols.new.names) c.in_ok-header.header.small (gates_placed _ _ read.0)
    (search (rules, c.in_ok-noted.ensures, c.in_ok-inputs.ensures.grown)) c.in_ok-latches.ensures.grown
    c.in_ok-outputs.ensures.grown c.in_ok-gates.ensures.grown (search (rules, each_named, c.len.ensures))
    (search (rules, each_named, c.len-2.ensures)) (search (rules, each_named, c.len-3.ensures)) n.inputs_named
    n.latches_named n.outputs_named

pub lines-requires : goal.lines-requires
lines-requires c = is_row (laws_input_line c.in_ok-header.header.most)

pub lines-requires-2 : goal.lines-requires-2
lines-requires-2 c = is_row (laws_latch_line c.in_ok-header.header.most)

pub lines-requires-3 : goal.lines-requires-3
lines-requires-3 c = is_row (laws_output_line c.in_ok-header.header.most)

pub lines-requires-4 : goal.lines-requires-4
lines-requires-4 c = is_row (laws_gate_line c.in_ok-header.header.most)
