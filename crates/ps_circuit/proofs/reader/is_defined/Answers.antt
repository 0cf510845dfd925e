use Rattle.std.proofs.Common.{rules}
use Rattle.ps_ids.proofs.Members.{Contains-any}
use Rattle.ps_circuit.proofs.reader.is_defined.Goals as goal

pub returns-else-variable-eq0-clause-defined : goal.returns-else-variable-eq0-clause-defined
returns-else-variable-eq0-clause-defined c = search (rules, Contains-any)
