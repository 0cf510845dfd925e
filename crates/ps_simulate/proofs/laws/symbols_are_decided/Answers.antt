use Rattle.ps_simulate.proofs.DecidedSymbols.{symbols_decided}
use Rattle.ps_simulate.proofs.laws.symbols_are_decided.Goals as goal

pub returns : goal.returns
returns c = symbols_decided
