use Rattle.std.proofs.Common.{arith}
use Rattle.ps_circuit.proofs.GatesAndLinks.TestedParts.{names_for}
use Rattle.ps_circuit.proofs.soundness.are_names_for.Goals as goal

pub returns-then-names-count : goal.returns-then-names-count
returns-then-names-count c =
    names_for c.args.count c.args.names.now c.are_symbol_names.result (grind arith) c.are_symbol_names.ensures
