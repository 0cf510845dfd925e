-- Lemmas about the lines that are printed for a solver's faults.
use Rattle.std.proofs.Common.{arith, ◌≡◌, Bool, true, false, Err}
use Rattle.ps_game.specs.Games.{NamedGameData}
use Rattle.ps_certificate.specs.Certificates.{CertificateData}
use Rattle.ps_solver.specs.Solvers.{SolverData, answers_now}
use Rattle.ps_synthesis.specs.Stages.{IsSolverFault}
use Rattle.ps_synthesis.specs.declared.fault.SynthFault.{SynthFault}
use Rattle.ps_synthesis.specs.declared.fault.SynthFault.TheVariants.{OutOfMemory}
use Rattle.ps_program.specs.declared.answer.Refusal.{Refusal}
use Rattle.ps_program.specs.Outcomes.{Gives}
use Rattle.ps_program.specs.Commands.Solving.{Certifies}
use Rattle.ps_program.specs.StageFaults.{IsTold}
use Rattle.ps_program.proofs.ByCommand.AutomatonLemmas.{no_line}

pub unsure : (sure : Bool) → (sure ≡ true → ⊥) → sure ≡ false
unsure sure never = grind arith

-- if the solver returns no valid certificate, the command's result is the line that reports the solver's fault, or lack
-- of memory
pub certifies_refused : (solver : SolverData) (named : NamedGameData) (fault : SynthFault) (refused : Refusal) →
    IsSolverFault (answers_now solver) named fault → (solver.is_sure ≡ true → fault ≡ OutOfMemory)
    → IsTold fault refused → Gives (λ (c : CertificateData). c) (Certifies solver named) (Err refused)
certifies_refused solver named fault refused cause surely told = grind (arith, unsure, no_line)
