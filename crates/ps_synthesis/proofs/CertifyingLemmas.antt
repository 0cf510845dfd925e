-- Lemmas that derive the result of synthesis from a solver's answer.
use Rattle.std.proofs.Common.{arith, ◌≡◌, Bool, IsTrue, Result, Ok, Err, refl, sym, subst}
use Rattle.std.specs.Prelude.{OnOk, is_ok}
use Rattle.ps_certificate.specs.Certificates.{CertificateData}
use Rattle.ps_game.specs.Games.{NamedGameData}
use Rattle.ps_solver.specs.Solvers.{Answered, MayAnswer, SolverData, answers_now}
use Rattle.ps_solver.specs.Solving.{AnswersSurely, NamesVertices}
use Rattle.ps_solver.specs.declared.fault.SolveFault.{SolveFault}
use Rattle.ps_solver.specs.declared.fault.SolveFault.TheVariants as solver
use Rattle.ps_synthesis.specs.Stages.{IsFaultFor, IsSolverFault}
use Rattle.ps_synthesis.specs.declared.fault.SynthFault.{SynthFault}
use Rattle.ps_synthesis.specs.declared.fault.SynthFault.TheVariants.{Text, Automaton, BadCycle, Certificate}
use Rattle.ps_synthesis.specs.declared.fault.SynthFault.TheVariants.{NotCertified, CircuitTooLarge, OutOfMemory}

-- a statement P holds if an Ok result implies it, and if it is known that the result is Ok
pub where_ok : {X E : Type 0} (P : Type 0) (result : Result X E) (ok : Bool) → OnOk result P → ok ≡ is_ok result →
    IsTrue ok → P
where_ok P (Ok value) ok stands same is = stands
where_ok P (Err fault) ok stands same is = cc

memory_of : (named : NamedGameData) (fault : SolveFault) (given : SynthFault) → AnswersSurely named (Err fault) →
    IsFaultFor named fault given → given ≡ OutOfMemory
memory_of named fault given surely refused = grind arith

of_memory : (May : MayAnswer) (named : NamedGameData) (given : SynthFault) → given ≡ OutOfMemory →
    IsSolverFault May named given
of_memory May named given is = subst (λ (f : SynthFault). IsSolverFault May named f) (sym is) tt

refused_as : (May : MayAnswer) (named : NamedGameData) (fault : SolveFault) (given : SynthFault) → May named (Err fault)
    → NamesVertices named (Err fault) → IsFaultFor named fault given → IsSolverFault May named given
refused_as May named (solver.BadCycle cycle) (BadCycle ids) may names refused = record {
  fault = solver.BadCycle cycle;
  answered = may;
  cycle = cycle.items;
  told = refl;
  some = names.0;
  vertices = names.1;
  ids_are = refused;
}
refused_as May named (solver.BadCycle cycle) (Text cause offset) may names refused = grind (arith, of_memory)
refused_as May named (solver.BadCycle cycle) (Automaton fault) may names refused = grind (arith, of_memory)
refused_as May named (solver.BadCycle cycle) (Certificate cause offset) may names refused = grind (arith, of_memory)
refused_as May named (solver.BadCycle cycle) NotCertified may names refused = of_memory May named NotCertified refused
refused_as May named (solver.BadCycle cycle) CircuitTooLarge may names refused = grind (arith, of_memory)
refused_as May named (solver.BadCycle cycle) OutOfMemory may names refused = tt
refused_as May named (solver.Text cause offset) given may names refused = grind arith
refused_as May named solver.OutOfMemory given may names refused = of_memory May named given refused

-- if the solver returned a fault, synthesis returns the fault that corresponds to it
pub solver_fault : (May : MayAnswer) (named : NamedGameData) (answer : Result CertificateData SolveFault)
    (fault : SolveFault) (given : SynthFault) → May named answer → NamesVertices named answer → answer ≡ Err fault →
    IsFaultFor named fault given → IsSolverFault May named given
solver_fault May named answer fault given may names is refused = grind (arith, refused_as)

-- if a fault states why the answer of a call is not a valid certificate, it states this of an answer that was possible
-- before the call, since a call gives only such answers
pub fault_might : (old new : SolverData) (named : NamedGameData) (given : SynthFault) →
    IsSolverFault (Answered old new) named given → IsSolverFault (answers_now old) named given
fault_might old new named (BadCycle ids) h = record {
  fault = h.fault;
  answered = h.answered.0;
  cycle = h.cycle;
  told = h.told;
  some = h.some;
  vertices = h.vertices;
  ids_are = h.ids_are;
}
fault_might old new named (Certificate cause offset) h = h.0
fault_might old new named NotCertified h = grind arith
fault_might old new named OutOfMemory h = h
fault_might old new named (Text cause offset) h = absurd h
fault_might old new named (Automaton fault) h = absurd h
fault_might old new named CircuitTooLarge h = absurd h
