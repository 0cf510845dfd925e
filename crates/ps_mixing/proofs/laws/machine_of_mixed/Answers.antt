use Rattle.ps_mixing.proofs.MixedFileMachines.{machine_of_file}
use Rattle.ps_mixing.proofs.laws.machine_of_mixed.Goals as goal

pub returns : goal.returns
returns c file mixing is order game of = machine_of_file order file mixing is game of
