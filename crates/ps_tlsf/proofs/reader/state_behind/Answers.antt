use Rattle.std.proofs.Common.{arith, sym, ◌∙◌}
use Rattle.ps_tlsf.specs.Inner.StateViews.{state_data}
use Rattle.ps_tlsf.specs.Inner.Views.{token_data}
use Rattle.ps_tlsf.proofs.OutlinedTexts.Running.{runs, err_is, fault_read, early_end, right_end}
use Rattle.ps_tlsf.proofs.reader.state_behind.Goals as goal

pub tokens-preserved : goal.tokens-preserved
tokens-preserved c = grind (arith, runs)

pub returns-in_err-step : goal.returns-in_err-step
returns-in_err-step c =
    fault_read c.args.text.now (state_data c.tokens.state) c.tokens.tokens c.tokens.invariant
    (token_data c.in-Some.token)
    c.next.new.self c.in_err-step.field-0.0 (state_data c.step.new.state) c.from_residual.result c.in-Some.ensures
    c.in_err-step.ensures
    (err_is c.from_residual.result c.in_err-step.field-0.0 c.from_residual.ensures.1)

pub returns-then-not-is_end : goal.returns-then-not-is_end
returns-then-not-is_end c =
    early_end c.args.text.now (state_data c.tokens.state) c.tokens.tokens c.tokens.invariant c.in_default.ensures.0
    (sym c.is_end.ensures ∙ c.if-not-is_end.true)

pub returns : goal.returns
returns c =
    right_end c.args.text.now (state_data c.tokens.state) c.tokens.tokens c.tokens.invariant c.in_default.ensures.0
    (sym c.is_end.ensures ∙ c.if-not-is_end.false)
