use Rattle.std.proofs.Common.{ℕ, ap}
use Rattle.ps_automaton.specs.declared.step.Step.{Step}
use Rattle.ps_automaton.specs.Inner.Views.{chain_data}
use Rattle.ps_automaton.proofs.levels.Levels.step_to.Goals as goal

pub returns : goal.returns
returns c =
    let made : ℕ → Step = λ priority. record { state = c.args.target.state; priority = priority } in
    ap made (c.level.ensures (chain_data c.args.self.now.chain) c.args.self.now.few c.args.self.now.table)
