use Rattle.std.proofs.Common.{Err, ap, subst}
use Rattle.ps_machine.specs.BuiltBoards.{board_of}
use Rattle.ps_machine.specs.Extracting.{IsMachineOf}
use Rattle.ps_machine.specs.Keys.{mover_of}
use Rattle.ps_machine.specs.Machines.{behaviour}
use Rattle.ps_synthesis.specs.Stages.{IsExtracted}
use Rattle.ps_synthesis.proofs.CircuitFaults.{circuit_fault}
use Rattle.ps_synthesis.proofs.circuits.circuit_of_certificate.Goals as goal

pub returns-clause-made : goal.returns-clause-made
returns-clause-made c =
    let m = behaviour c.in_ok-machine.machine in
    let a = c.args.automaton.now in
    let game = c.args.game.now in
    let board = board_of c.args.order a in
    let mover = mover_of c.args.order in
    let extracted : IsExtracted c.args.order a game.game.game c.args.certificate.now m = record {
      is_machine = c.parts_fit.ensures.is_machine;
      propositions = c.in_ok-machine.ensures.propositions;
      machine_of = λ keys is. subst (λ ks. IsMachineOf board mover ks game.game.game c.args.certificate.now m)
          (c.one_game.ensures board mover game.keys.items keys game.game.game game.game.game c.requires.game is).0
          c.in_ok-machine.ensures.machine;
    } in
    record {
      machine = m;
      extracted = extracted;
      encodes = c.in_ok-circuit.ensures.encodes;
      tidy = c.in_ok-circuit.ensures.tidy;
      wired = c.in_ok-circuit.ensures.wired;
    }

pub returns-clause-answers : goal.returns-clause-answers
returns-clause-answers c = λ file chain built. c.certified_circuit_answers.ensures file chain c.args.automaton.now
    c.args.order c.args.game.now.keys.items c.args.game.now.game.game c.args.certificate.now
    (behaviour c.in_ok-machine.machine) c.in_ok-circuit.field-0 built c.requires.game c.requires.certified.fits
    c.requires.certified.valid c.parts_fit.ensures.is_machine
    c.in_ok-machine.ensures.propositions c.in_ok-machine.ensures.machine c.in_ok-circuit.ensures.encodes

pub returns-in_err-circuit-clause-refused : goal.returns-in_err-circuit-clause-refused
returns-in_err-circuit-clause-refused c =
    let m = behaviour c.in_ok-machine.machine in
    let a = c.args.automaton.now in
    let game = c.args.game.now in
    let board = board_of c.args.order a in
    let mover = mover_of c.args.order in
    let extracted : IsExtracted c.args.order a game.game.game c.args.certificate.now m = record {
      is_machine = c.parts_fit.ensures.is_machine;
      propositions = c.in_ok-machine.ensures.propositions;
      machine_of = λ keys is. subst (λ ks. IsMachineOf board mover ks game.game.game c.args.certificate.now m)
          (c.one_game.ensures board mover game.keys.items keys game.game.game game.game.game c.requires.game is).0
          c.in_ok-machine.ensures.machine;
    } in
    circuit_fault c.args.order a game.game.game c.args.certificate.now m extracted c.in_err-circuit.field-0.0
    c.from_residual-in_err-circuit.result (λ is. c.in_err-circuit.ensures.too_large (ap Err is))
    c.from_residual-in_err-circuit.ensures.1
