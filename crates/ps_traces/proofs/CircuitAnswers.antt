-- `IsWitness`, which has all promises about the winner's circuit, is proved from the separate laws about this circuit.
use Rattle.std.proofs.Common.{◌≡◌, ◌≢◌, ℕ, Bool, if◌then◌else◌, ap, subst}
use Rattle.std.proofs.lemmas.Bool.{ne_eqb}
use Rattle.ps_hoa.specs.Files.{FileData}
use Rattle.ps_hoa.specs.Sound.{AreNames}
use Rattle.ps_circuit.specs.Circuits.{CircuitData}
use Rattle.ps_circuit.specs.Values.{HasOneValues}
use Rattle.ps_aiger.specs.Encoded.{Encodes}
use Rattle.ps_machine.specs.Behaviours.{Behaviour, IsMachine, LassosWon}
use Rattle.ps_machine.specs.declared.key.Order.{Order}
use Rattle.ps_simulate.specs.declared.role.Role.{Role}
use Rattle.ps_simulate.specs.declared.role.Role.TheVariants.{Controller, Environment}
use Rattle.ps_traces.specs.Answers.{IsWitness, role_of}
use Rattle.ps_traces.specs.Roles.{IsMachineFor}
use Rattle.ps_traces.specs.Shapes.{HasShape}
use Rattle.ps_traces.proofs.Inputs.{each_goes_on}
use Rattle.ps_traces.proofs.StepLetters.{has_letters}
use Rattle.ps_traces.proofs.OneMeeting.{meeting_is_one}
use Rattle.ps_traces.proofs.Reached.{in_time_where_reached}
use Rattle.ps_traces.proofs.Rejected.{meeting_is_rejected}
use Rattle.ps_traces.proofs.ShapeOf.{has_shape}
use Rattle.ps_traces.proofs.Words.{all_accepted, none_accepted}

other_role : (player : ℕ) → player ≢ 0 → role_of player ≡ Environment
other_role player differ = ap (λ (b : Bool). if b then Controller else Environment) (ne_eqb player 0 differ)

pub is_answer : (order : Order) (file : FileData) (m : Behaviour) (c : CircuitData) → HasOneValues c → IsMachine m →
    IsMachineFor order (role_of m.player) file m → Encodes m c → LassosWon file m → IsWitness order file m.player c
is_answer order file m c one is is_for encodes won =
    let names : AreNames file.names = subst AreNames is_for.names is.are_names in
    let shape = has_shape order (role_of m.player) file m c is is_for encodes in
    let none = none_accepted file m c is is_for.names encodes won in
    record {
      is_circuit = encodes.is_circuit;
      shape = shape;
      accepted = all_accepted file m c is is_for.names encodes won;
      rejected = none;
      goes_on = each_goes_on c one;
      letters = has_letters names shape.symbols;
      meetings = λ player k controller.
          let environment : HasShape order Environment file c =
          subst (λ (role : Role). HasShape order role file c) (other_role m.player player) shape in
          let in_time = in_time_where_reached order Environment c environment.in_time in
          record {
            one = λ count. meeting_is_one order c k count encodes.is_circuit one in_time controller;
            rejected =
                meeting_is_rejected order file c k names one environment.symbols in_time controller (none player);
          };
    }
