-- What the state of the code stands for in the definitions.
use Rattle.std.specs.Prelude.{map}
use Rattle.ps_tlsf.specs.Steps as steps
use Rattle.ps_tlsf.specs.Inner.Views.{work_data}
use Rattle.ps_tlsf.specs.declared.steps.State.{State}
use Rattle.ps_tlsf.specs.declared.steps.Written.{Written}

abbrev pub written_data : Written → steps.Written
written_data w = record { section = w.section; start = w.start; stop = w.stop; ops = w.ops.items }

abbrev pub state_data : State → steps.State
state_data s = record {
  phase = s.phase;
  heading = s.heading;
  names = s.names;
  work = work_data s.work;
  formulas = map written_data s.formulas.items;
}
