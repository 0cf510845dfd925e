-- What the answer to a specification guarantees.
-- - `IsAnswerTo spec role circuit`: the circuit wins for the specification: if it is a controller, the words of all its
--   lasso traces satisfy the specification, and if it is an environment, none does
-- - `KeepsSpecification text role circuit`: the text is that of a specification, and the circuit answers it
-- - `HasItsPropositions spec names controllable`: the names are those of the specification's propositions, and its
--   outputs are controllable
-- - `IsTranslation spec file`: the file's automaton has the specification's propositions, and accepts exactly the
--   lassos that satisfy the specification
-- - `IsTranslationOf spec hoa`: the HOA text is accepted, and its automaton is a translation of the specification
-- - `KeepsTranslation text hoa`: the text is that of a specification, of which the HOA text is a translation
use Rattle.std.specs.Prelude.{◌≡◌, ℕ, List, Ok}
use Rattle.ps_circuit.specs.Circuits.{CircuitData, IsCircuit}
use Rattle.ps_hoa.specs.Files.{FileData}
use Rattle.ps_models.specs.Agreements.{IsAgreeing}
use Rattle.ps_models.specs.Judgements.{IsWinningFor}
use Rattle.ps_simulate.specs.declared.role.Role.{Role}
use Rattle.ps_synthesis.specs.Promises.{IsAcceptedText}
use Rattle.ps_tlsf.specs.Names.{names_in, outputs_in}
use Rattle.ps_tlsf.specs.Reading.{answer_of}
use Rattle.ps_tlsf.specs.Specifications.{Specification}
use Rattle.ps_specification.specs.Requirements.{order_in, requirement_of}

pub record IsAnswerTo (spec : Specification) (role : Role) (circuit : CircuitData) : Type 0 where
  pub is_circuit : IsCircuit circuit
  pub wins : IsWinningFor (order_in spec) role (requirement_of spec) circuit

pub record KeepsSpecification (text : List ℕ) (role : Role) (circuit : CircuitData) : Type 0 where
  pub spec : Specification
  pub reads : answer_of text ≡ Ok spec
  pub answers : IsAnswerTo spec role circuit

-- ## Automata

abbrev pub HasItsPropositions : Specification → (names : List (List ℕ)) → (controllable : List ℕ) → Type 0
HasItsPropositions spec names controllable = (names ≡ names_in spec.names) × (controllable ≡ outputs_in spec.names)

pub record IsTranslation (spec : Specification) (file : FileData) : Type 0 where
  pub propositions : HasItsPropositions spec file.names file.controllable
  pub agrees : IsAgreeing file (requirement_of spec)

pub record IsTranslationOf (spec : Specification) (hoa : List ℕ) : Type 0 where
  pub file : FileData
  pub accepted : IsAcceptedText hoa file
  pub translates : IsTranslation spec file

pub record KeepsTranslation (text hoa : List ℕ) : Type 0 where
  pub spec : Specification
  pub reads : answer_of text ≡ Ok spec
  pub translation : IsTranslationOf spec hoa
