-- The propositions of a file are those of its automaton, for the command `agree`.
use Rattle.std.proofs.Common.{ℕ, List, subst, sym}
use Rattle.ps_automaton.specs.Automata.{AutomatonData, IsBuiltFrom}
use Rattle.ps_automaton.specs.Chains.{Chain}
use Rattle.ps_hoa.specs.Files.{FileData}
use Rattle.ps_models.specs.Agreements.{ArePropositionsOf}
use Rattle.ps_specification.specs.Requirements.{requirement_of}
use Rattle.ps_tlsf.specs.Specifications.{Specification}

pub are_of_automaton : (spec : Specification) (file : FileData) (chain : Chain) (a : AutomatonData) →
    IsBuiltFrom file chain a → ArePropositionsOf file.names file.controllable (requirement_of spec) →
    ArePropositionsOf a.names a.controllable (requirement_of spec)
are_of_automaton spec file chain a built are =
    subst (λ (names : List (List ℕ)). ArePropositionsOf names a.controllable (requirement_of spec)) (sym built.names)
    (subst (λ (own : List ℕ). ArePropositionsOf file.names own (requirement_of spec)) (sym built.controllable) are)
