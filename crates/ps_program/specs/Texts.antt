-- The texts that the commands take, and the results of their parsers.
use Rattle.std.specs.Prelude.{◌≡◌, ◌<◌, ℕ, Bool, false, IfSome, List, [], ◌∷◌, ◌++◌, codes, length, Result, Ok, Err}
use Rattle.std.specs.Prelude.{option_map, slice_index}
use Rattle.ps_game.specs.Games.{NamedGameData}
use Rattle.ps_pgsolver.specs.Causes as game
use Rattle.ps_pgsolver.specs.Reading.{Answer}
use Rattle.ps_certificate.specs.declared.flaw.Flaw.{Flaw}
use Rattle.ps_certificate.specs.declared.flaw.Flaw.TheVariants as flaw
use Rattle.ps_certificate.specs.Certificates.{CertificateData}
use Rattle.ps_certificate.specs.Faults as certificate
use Rattle.ps_certificate.specs.Texts.{ReadsCertificate}
use Rattle.ps_circuit.specs.Causes as circuit
use Rattle.ps_circuit.specs.CauseNames as circuit_names
use Rattle.ps_circuit.specs.Circuits.{CircuitData}
use Rattle.ps_circuit.specs.Texts as circuit_text
use Rattle.ps_simulate.specs.Faults as stimulus
use Rattle.ps_simulate.specs.Stimuli.{StimulusData}
use Rattle.ps_simulate.specs.StimulusTexts as stimulus_text
use Rattle.ps_tlsf.specs.Causes as tlsf
use Rattle.ps_tlsf.specs.Reading.{answer_of}
use Rattle.ps_tlsf.specs.Specifications.{Specification}
use Rattle.ps_program.specs.Cut.{AreTexts, HasFewerSeparators}
use Rattle.ps_program.specs.Faults.{spaced, choice_text, line_text}
use Rattle.ps_program.specs.Outcomes.{Then, Reading}

-- ---- the texts of an input

abbrev pub missing_text : List ℕ
missing_text = line_text 27 (codes "MissingText") []

-- the two texts of the input, or the line for a missing text
abbrev pub CutsInTwo : List ℕ → Result (List ℕ × List ℕ) (List ℕ) → Type 0
CutsInTwo texts (Ok parts) = AreTexts texts (parts.0 ∷ parts.1 ∷ [])
CutsInTwo texts (Err line) = HasFewerSeparators 1 texts × (line ≡ missing_text)

-- the three texts of the input, or the line for a missing text, even if another text has an error
abbrev pub CutsInThree : List ℕ → Result (List ℕ × List ℕ × List ℕ) (List ℕ) → Type 0
CutsInThree texts (Ok parts) = AreTexts texts (parts.0 ∷ parts.1 ∷ parts.2 ∷ [])
CutsInThree texts (Err line) = HasFewerSeparators 2 texts × (line ≡ missing_text)

-- ---- game texts

-- the result of parsing a text as a game: the game, or the line that reports the first error
abbrev pub ReadsGameText : List ℕ → Result NamedGameData (List ℕ) → Type 0
ReadsGameText text = Reading game.cause_number game.cause_name (Answer text)

-- the result of parsing two texts of the input: a game, and a text that is parsed for this game
abbrev pub ReadsForGame : {V : Type 0} → (NamedGameData → List ℕ → Result V (List ℕ) → Type 0) → List ℕ →
    Result (NamedGameData × V) (List ℕ) → Type 0
ReadsForGame reads texts =
    Then (CutsInTwo texts) (λ parts. Then (ReadsGameText parts.0) (λ named.
    Then (reads named parts.1) (λ given outcome. outcome ≡ Ok (named, given))))

-- ---- certificate texts

-- the result of parsing a text as a certificate of the game: the certificate, or the line that reports the first error
abbrev pub ReadsCertificateText : NamedGameData → List ℕ → Result CertificateData (List ℕ) → Type 0
ReadsCertificateText named text = Reading certificate.cause_number certificate.cause_name (ReadsCertificate named text)

-- the result of parsing two texts of the input: a game, and a certificate of this game
abbrev pub ReadsCertified : List ℕ → Result (NamedGameData × CertificateData) (List ℕ) → Type 0
ReadsCertified texts = ReadsForGame ReadsCertificateText texts

-- ---- specification texts

-- the result of parsing a text as a specification: the specification, or the line that reports the first error
abbrev pub ReadsSpecificationText : List ℕ → Result Specification (List ℕ) → Type 0
ReadsSpecificationText text = Reading tlsf.cause_number tlsf.cause_name (λ answer. answer ≡ answer_of text)

-- ---- circuit texts and stimuli

-- the result of parsing a text as a circuit: the circuit, or the line that reports the first error
abbrev pub ReadsCircuitText : List ℕ → Result CircuitData (List ℕ) → Type 0
ReadsCircuitText text = Reading circuit.cause_number circuit_names.cause_name (circuit_text.ReadsCircuit text)

-- the result of parsing a text as a stimulus for `width` inputs; if `split` is true, a line `-` must divide its stem
-- from its lap
abbrev pub ReadsStimulusText : ℕ → Bool → List ℕ → Result StimulusData (List ℕ) → Type 0
ReadsStimulusText width split text =
    Reading stimulus.cause_number stimulus.cause_name (stimulus_text.ReadsStimulus text width split)

-- the result of parsing two texts of the input: a circuit, and a stimulus for it that has only a stem
abbrev pub ReadsSimulated : List ℕ → Result (CircuitData × StimulusData) (List ℕ) → Type 0
ReadsSimulated texts =
    Then (CutsInTwo texts) (λ parts. Then (ReadsCircuitText parts.0) (λ c.
    Then (ReadsStimulusText (length c.inputs) false parts.1) (λ s outcome. outcome ≡ Ok (c, s))))

-- ---- flaws

abbrev pub id_of : NamedGameData → ℕ → ℕ
id_of named v = slice_index named.ids v

-- the place in the line that reports a flaw: the ids of the flaw's vertices, and the flaw's priority, if it has one
abbrev pub flaw_place : NamedGameData → Flaw → List ℕ
flaw_place named (flaw.Move v choice) = spaced (id_of named v) ++ choice_text (option_map (id_of named) choice)
flaw_place named (flaw.Escape v w) = spaced (id_of named v) ++ spaced (id_of named w)
flaw_place named (flaw.Rank v w p) = spaced (id_of named v) ++ spaced (id_of named w) ++ spaced p

-- the line that reports a certificate's flaw
abbrev pub flaw_text : NamedGameData → Flaw → List ℕ
flaw_text named flaw = line_text (certificate.flaw_number flaw) (certificate.flaw_name flaw) (flaw_place named flaw)

-- each vertex that a certificate's flaw names is a number less than `count`
abbrev pub NamesVertices : ℕ → Flaw → Type 0
NamesVertices count (flaw.Move v choice) = (v < count) × IfSome choice (λ w. w < count)
NamesVertices count (flaw.Escape v w) = (v < count) × (w < count)
NamesVertices count (flaw.Rank v w p) = (v < count) × (w < count)
