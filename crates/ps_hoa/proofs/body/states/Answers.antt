use Rattle.std.proofs.Common.{arith, sym, ◌∙◌}
use Rattle.ps_hoa.specs.Inner.Rows.{body_data}
use Rattle.ps_hoa.specs.Grammar.Header.{header_data}
use Rattle.ps_hoa.proofs.Reading.HoaExits.{exit, loop_more, loop_fails, loop_ends, loop_shrinks}
use Rattle.ps_hoa.proofs.Reading.StateReading.{state_enters, avoids_state, state_loop}
use Rattle.ps_hoa.proofs.body.states.Goals as goal

pub more-init : goal.more-init
more-init c = grind arith

pub more-smaller : goal.more-smaller
more-smaller c = loop_shrinks (state_loop (header_data c.args.header.now)) c.in_ok-state.ensures

pub more-preserved : goal.more-preserved
more-preserved c = loop_more (state_loop (header_data c.args.header.now)) c.more.invariant c.in_ok-state.ensures

pub returns-in_err-state : goal.returns-in_err-state
returns-in_err-state c = let h = header_data c.args.header.now in
    exit _ _ _ _ (loop_fails (state_loop h) c.more.invariant (state_enters h (body_data c.more.rows) _
    (sym c.is_at_state.ensures ∙ c.more-test.true))) c.in_err-state.ensures c.from_residual.ensures.1

pub returns : goal.returns
returns c = loop_ends (state_loop (header_data c.args.header.now)) c.more.invariant (grind (arith, avoids_state))
