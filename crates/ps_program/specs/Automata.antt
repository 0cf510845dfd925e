-- Automata of HOA texts, for the commands whose first text is an HOA text.
use Rattle.std.specs.Prelude.{◌≡◌, ⊤, ℕ, List, Some, Result, Ok, Err}
use Rattle.ps_hoa.specs.CauseNames as hoa_names
use Rattle.ps_hoa.specs.Causes as hoa
use Rattle.ps_hoa.specs.Files.{FileData}
use Rattle.ps_hoa.specs.Texts.{ReadsFile}
use Rattle.ps_automaton.specs.Answers.{IsAdmitted, IsRefused}
use Rattle.ps_automaton.specs.Automata.{AutomatonData, IsBuiltFrom}
use Rattle.ps_automaton.specs.Chains.{Chain}
use Rattle.ps_automaton.specs.declared.fault.AutomatonFault.{AutomatonFault}
use Rattle.ps_mixing.specs.MixedOrSame.{IsFileOrMixed}
use Rattle.ps_program.specs.declared.answer.Refusal.{Refusal}
use Rattle.ps_program.specs.declared.answer.Refusal.TheVariants as refusal
use Rattle.ps_program.specs.Faults.{fault_text}
use Rattle.ps_program.specs.Outcomes.{Then, Reading}
use Rattle.ps_program.specs.StageFaults.{automaton_line}

-- the result of parsing an HOA text: its contents (a file), or the line that reports the first error
abbrev pub ReadsHoaText : List ℕ → Result FileData (List ℕ) → Type 0
ReadsHoaText text = Reading hoa.cause_number hoa_names.cause_name (ReadsFile text)

-- the HOA file if it has an automaton, and otherwise the line that reports why it has none
abbrev pub Builds : FileData → Result FileData (List ℕ) → Type 0
Builds file (Ok built) = IsAdmitted file × (built ≡ file)
Builds file (Err line) = (fault : AutomatonFault) × IsRefused file fault × (automaton_line fault ≡ Some line)

-- the file of an HOA text that has an automaton
abbrev pub ReadsAutomaton : List ℕ → Result FileData (List ℕ) → Type 0
ReadsAutomaton text = Then (ReadsHoaText text) Builds

-- the result for an HOA text: an automaton that `IsFor` allows for its file, or the line that reports the first fault,
-- or `OutOfMemory`
abbrev pub GivesAutomaton : (IsFor : FileData → AutomatonData → Type 0) → List ℕ → Result AutomatonData Refusal → Type 0
GivesAutomaton IsFor text (Ok automaton) = (file : FileData) × ReadsAutomaton text (Ok file) × IsFor file automaton
GivesAutomaton IsFor text (Err (refusal.Fault fault)) = ReadsAutomaton text (Err (fault_text fault))
GivesAutomaton IsFor text (Err refusal.OutOfMemory) = ⊤

-- the automaton of the file
abbrev pub IsOfFile : FileData → AutomatonData → Type 0
IsOfFile file automaton = (chain : Chain) × IsBuiltFrom file chain automaton

-- the automaton of the file, or of a mixed file of it
abbrev pub IsOfFileOrMixed : FileData → AutomatonData → Type 0
IsOfFileOrMixed file automaton = (other : FileData) × IsFileOrMixed file other × IsOfFile other automaton
