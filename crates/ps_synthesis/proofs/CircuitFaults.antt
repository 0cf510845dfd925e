-- A reason why a machine can't be made into a circuit becomes a fault of synthesis.
use Rattle.std.proofs.Common.{arith, ◌≡◌, Result}
use Rattle.std.specs.Prelude.{IfErr}
use Rattle.std.specs.Result.{IsErrAnd}
use Rattle.ps_aiger.specs.Wires.{IsOutOfLiterals}
use Rattle.ps_circuit.specs.declared.encode_fault.EncodeFault.{EncodeFault}
use Rattle.ps_circuit.specs.declared.encode_fault.EncodeFault.TheVariants as circuit
use Rattle.ps_automaton.specs.Automata.{AutomatonData}
use Rattle.ps_certificate.specs.Certificates.{CertificateData}
use Rattle.ps_game.specs.Games.{ParityGame}
use Rattle.ps_machine.specs.Behaviours.{Behaviour}
use Rattle.ps_machine.specs.declared.key.Order.{Order}
use Rattle.ps_synthesis.specs.Stages.{IsCircuitFault, IsExtracted, of_circuit}
use Rattle.ps_synthesis.specs.declared.fault.SynthFault.{SynthFault}

module _ (order : Order) (a : AutomatonData) (game : ParityGame) (certificate : CertificateData) (m : Behaviour)
    (extracted : IsExtracted order a game certificate m) where
  pub cause_of : (given : EncodeFault) → (given ≡ circuit.CircuitTooLarge → IsOutOfLiterals m) →
      IsCircuitFault order a game certificate (of_circuit given)
  cause_of given large = grind arith

  pub circuit_fault : {A : Type 0} (given : EncodeFault) (answer : Result A SynthFault) →
      (given ≡ circuit.CircuitTooLarge → IsOutOfLiterals m) → IsErrAnd answer (λ (f : SynthFault). f ≡ of_circuit given)
      → IfErr answer (IsCircuitFault order a game certificate)
  circuit_fault given answer large is = grind (arith, cause_of)
