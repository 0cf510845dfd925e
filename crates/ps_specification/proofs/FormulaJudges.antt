-- The judgement by a formula is a judgement by the circuits that win, and the stimuli on which others lose.
use Rattle.std.proofs.Common.{Result, Ok, Err, IfOk}
use Rattle.ps_circuit.specs.Circuits.{CircuitData}
use Rattle.ps_machine.specs.declared.key.Order.{Order}
use Rattle.ps_models.specs.Judgements.{IsJudgementFor, IsLosingFor, IsWinningFor, NamedFormula}
use Rattle.ps_product.specs.declared.fault.ProductFault.{ProductFault}
use Rattle.ps_shrink.specs.Reductions.{IsJudgementBy}
use Rattle.ps_simulate.specs.declared.role.Role.{Role}
use Rattle.ps_verify.specs.declared.judgement.Judgement.{Judgement}
use Rattle.ps_verify.specs.declared.judgement.Judgement.TheVariants.{Wins, Loses}

pub judged_for : (order : Order) (role : Role) (f : NamedFormula) (c : CircuitData)
    (result : Result Judgement ProductFault) → IfOk result (IsJudgementFor order role f c) →
    IfOk result (IsJudgementBy (IsWinningFor order role f) (IsLosingFor order role f) c)
judged_for order role f c (Ok Wins) h = h
judged_for order role f c (Ok (Loses s)) h = h
judged_for order role f c (Err fault) h = tt
