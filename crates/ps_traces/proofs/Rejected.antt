-- If the automaton accepts no lasso trace of an environment's circuit, it rejects the word of the circuit's joint run
-- with every finite-state controller.
use Rattle.std.proofs.Common.{rules}
use Rattle.ps_hoa.specs.Files.{FileData}
use Rattle.ps_hoa.specs.Sound.{AreNames}
use Rattle.ps_circuit.specs.Circuits.{CircuitData}
use Rattle.ps_circuit.specs.Values.{HasOneValues}
use Rattle.ps_machine.specs.declared.key.Order.{Order}
use Rattle.ps_simulate.specs.Symbols.{HasSymbols}
use Rattle.ps_simulate.specs.declared.role.Role.TheVariants.{Environment}
use Rattle.ps_traces.specs.Traces.{NoneAccepted}
use Rattle.ps_traces.specs.Shapes.{IsInTimeWhereReached}
use Rattle.ps_traces.specs.Meetings.{FiniteController, IsController, IsRejected}
use Rattle.ps_traces.proofs.StepLetters.{has_letters}
use Rattle.ps_traces.proofs.Meetings.{in_lasso}

pub meeting_is_rejected : (order : Order) (file : FileData) (c : CircuitData) (k : FiniteController) →
    AreNames file.names → HasOneValues c → HasSymbols Environment file.names file.controllable c →
    IsInTimeWhereReached order Environment c → IsController order c k → NoneAccepted file c → IsRejected file c k
meeting_is_rejected order file c k are_names one symbols in_time is none =
    let meeting = in_lasso order c k one in_time is in
    let stem = has_letters are_names symbols meeting.stem in
    let lap = has_letters are_names symbols meeting.lap in
    record {
      meeting = meeting;
      stem_letters = stem.letters;
      lap_letters = lap.letters;
      stem_are = stem.are_letters;
      lap_are = lap.are_letters;
      rejected = none stem.letters lap.letters (search rules);
    }
