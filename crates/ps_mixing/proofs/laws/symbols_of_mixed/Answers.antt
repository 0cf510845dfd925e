use Rattle.ps_mixing.proofs.MixedTraces.{symbols_back, symbols_there}
use Rattle.ps_mixing.proofs.laws.symbols_of_mixed.Goals as goal

pub returns : goal.returns
returns c file mixing is role circuit =
    (symbols_there file mixing is role circuit, symbols_back file mixing is role circuit)
