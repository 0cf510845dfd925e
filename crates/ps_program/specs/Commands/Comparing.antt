-- The command `agree`. The answer of `agree` states whether an automaton accepts exactly the lassos that satisfy a
-- specification.
-- - `AnswersAgree texts`: what the program answers to `agree`, given the texts of a specification and an automaton
use Rattle.std.specs.Prelude.{◌≡◌, ℕ, List, [], ◌++◌, codes, flat_map, length, map, Result, Ok, Err}
use Rattle.std.specs.List.{range_with_len}
use Rattle.ps_hoa.specs.Files.{FileData}
use Rattle.ps_label.specs.Truth.{is_in}
use Rattle.ps_models.specs.AgreementFaultNames.{fault_name, fault_number}
use Rattle.ps_models.specs.Agreements.{ArePropositionsOf, IsAgreementOf}
use Rattle.ps_models.specs.declared.agreement.Agreement.{Agreement}
use Rattle.ps_models.specs.declared.agreement.Agreement.TheVariants.{Accepts, Agrees, Rejects}
use Rattle.ps_models.specs.declared.agreement.AgreementFault.{AgreementFault}
use Rattle.ps_models.specs.declared.agreement.AgreementFault.TheVariants.{Symbols}
use Rattle.ps_models.specs.declared.agreement.Lasso.{Lasso}
use Rattle.ps_simulate.specs.StimulusTexts.{digits_of}
use Rattle.ps_specification.specs.Requirements.{requirement_of}
use Rattle.ps_tlsf.specs.Specifications.{Specification}
use Rattle.ps_program.specs.Automata.{ReadsAutomaton}
use Rattle.ps_program.specs.Faults.{line_text}
use Rattle.ps_program.specs.Outcomes.{Then}
use Rattle.ps_program.specs.Replies.{Reply, text_reply}
use Rattle.ps_program.specs.Texts.{CutsInTwo, ReadsSpecificationText}

-- a line of digits: for each of so many propositions the bit that it has in the letter
abbrev pub proposition_line : (count : ℕ) → (letter : ℕ) → List ℕ
proposition_line count letter = digits_of (map (λ p. is_in p letter) (range_with_len 0 count)) ++ codes "\n"

abbrev pub proposition_lines : (count : ℕ) → (letters : List ℕ) → List ℕ
proposition_lines count letters = flat_map (proposition_line count) letters

-- the text of a lasso: a line `-` divides the stem from the lap
abbrev pub lasso_text : (count : ℕ) → Lasso → List ℕ
lasso_text count lasso =
    proposition_lines count lasso.stem.items ++ codes "-\n" ++ proposition_lines count lasso.lap.items

-- the word `agrees`; or what the automaton does, wrongly, on a lasso, and this lasso
abbrev pub agreement_text : (count : ℕ) → Agreement → List ℕ
agreement_text count Agrees = codes "agrees\n"
agreement_text count (Accepts lasso) = codes "accepts\n" ++ lasso_text count lasso
agreement_text count (Rejects lasso) = codes "rejects\n" ++ lasso_text count lasso

-- the line which reports that an automaton and a specification are not compared
abbrev pub fault_line : AgreementFault → List ℕ
fault_line fault = line_text (fault_number fault) (fault_name fault) []

-- what is printed for an automaton: that it agrees with the specification, or a lasso on which it does not; or the line
-- that reports why the two are not compared
abbrev pub TellsAgreement : Specification → FileData → Result Reply (List ℕ) → Type 0
TellsAgreement spec file (Ok reply) = (agreement : Agreement) × IsAgreementOf file (requirement_of spec) agreement
    × (reply ≡ text_reply (agreement_text (length spec.names) agreement))
TellsAgreement spec file (Err line) =
    ¬ ArePropositionsOf file.names file.controllable (requirement_of spec) × (line ≡ fault_line Symbols)

-- the answer tells a lasso on which the automaton and the specification differ
abbrev pub TellsDifference : Specification → FileData → Agreement → Type 0
TellsDifference spec file Agrees = ⊥
TellsDifference spec file agreement = IsAgreementOf file (requirement_of spec) agreement

-- parses a text as an automaton, and compares the automaton with the specification
abbrev pub ComparesText : Specification → List ℕ → Result Reply (List ℕ) → Type 0
ComparesText spec text = Then (ReadsAutomaton text) (TellsAgreement spec)

abbrev pub AnswersAgree : List ℕ → Result Reply (List ℕ) → Type 0
AnswersAgree texts =
    Then (CutsInTwo texts) (λ parts. Then (ReadsSpecificationText parts.0) (λ spec. ComparesText spec parts.1))

-- the specification and the automaton that the two texts of the input contain
abbrev pub ReadsCompared : List ℕ → Specification → FileData → Type 0
ReadsCompared texts spec file = (parts : List ℕ × List ℕ) × CutsInTwo texts (Ok parts)
    × ReadsSpecificationText parts.0 (Ok spec) × ReadsAutomaton parts.1 (Ok file)
