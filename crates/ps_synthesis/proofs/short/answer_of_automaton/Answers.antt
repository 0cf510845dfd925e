use Rattle.std.proofs.Common.{Err, ap}
use Rattle.ps_machine.specs.BitMachines.{bit_behaviour}
use Rattle.ps_solver.specs.Solving.{AnswersLeast}
use Rattle.ps_synthesis.specs.ShortFiles.{IsFaultOfFile}
use Rattle.ps_synthesis.specs.Stages.{of_circuit}
use Rattle.ps_synthesis.proofs.Reporting.{err_passed}
use Rattle.ps_synthesis.proofs.UnseenGames.{short_cause, short_is}
use Rattle.ps_synthesis.proofs.short.answer_of_automaton.Goals as goal

pub returns-clause-short : goal.returns-clause-short
returns-clause-short c = λ file chain admitted built. (
    let brief = rw c.in-Some.is at c.in_ok-machine.ensures.machine in
    let made = c.in_ok-short.ensures in
    short_is c.args.order file chain c.args.automaton.now built (bit_behaviour c.in-Some.machine)
    c.encoded-short.ensures.machine brief
    admitted c.in_ok-short.field-0 made.realizable made.encodes made.tidy made.wired)

pub returns-in_err-short-clause-refused : goal.returns-in_err-short-clause-refused
returns-in_err-short-clause-refused c = λ file chain admitted built. (
    let brief = rw c.in-Some.is at c.in_ok-machine.ensures.machine in
    let given = c.in_err-short.field-0.0 in
    err_passed (IsFaultOfFile AnswersLeast c.args.order file) (of_circuit given) (short_cause c.args.order file chain
    c.args.automaton.now built (bit_behaviour c.in-Some.machine) c.encoded-short.ensures.machine brief admitted given
    (λ is. c.in_err-short.ensures.too_large (ap Err is))) c.from_residual-in_err-short.result
    c.from_residual-in_err-short.ensures.1)
