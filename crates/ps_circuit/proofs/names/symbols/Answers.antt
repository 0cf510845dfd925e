use Rattle.std.proofs.Common.{arith, Ok, Err}
use Rattle.ps_text.specs.Parts.{many}
use Rattle.ps_circuit.specs.Texts.{symbol_line}
use Rattle.ps_circuit.specs.Inner.Names.{names_data}
use Rattle.ps_text.specs.Faults.{found_of}
use Rattle.ps_text.proofs.ParsedAnswers.Exits.{exits}
use Rattle.ps_circuit.specs.Signs.{aig_causes}
use Rattle.ps_circuit.proofs.ReadCircuits.SymbolLemmas.{symbol_shrinks, names_next, names_fail, names_end}
use Rattle.ps_circuit.proofs.names.symbols.Goals as goal

pub more-smaller : goal.more-smaller
more-smaller c = symbol_shrinks (names_data c.more.names) c.in_ok-symbol_line.ensures.exact

pub more-preserved : goal.more-preserved
more-preserved c = grind (arith, names_next)

pub returns-in_err-symbol_line-clause-exact : goal.returns-in_err-symbol_line-clause-exact
returns-in_err-symbol_line-clause-exact c =
    exits found_of aig_causes _ (many symbol_line (names_data c.args.names.now)) c.args.cursor.now _
    _ _ (c.more.invariant.carries (Err _) c.more.cursor (names_fail (names_data c.more.names) c.more.cursor _
    (grind arith) c.in_err-symbol_line.ensures.exact)) c.from_residual.ensures.1

pub returns-clause-exact : goal.returns-clause-exact
returns-clause-exact c = c.more.invariant.carries (Ok _) c.more.cursor (names_end (grind arith))
