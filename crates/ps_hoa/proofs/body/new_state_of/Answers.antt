use Rattle.std.proofs.Common.{◌≡◌, ℕ, ◌≤◌, true, Err, refl, sym, subst, inl, ◌∙◌, arith}
use Rattle.ps_hoa.specs.Grammar.Body.{BodyData, BadIn, IsBadState, IsBadRow, has_row}
use Rattle.ps_hoa.specs.Causes.{cause_number}
use Rattle.ps_hoa.specs.Grammar.Header.{int_in, header_data}
use Rattle.ps_hoa.specs.Inner.Reads.{Takes}
use Rattle.ps_hoa.specs.Inner.Rows.{body_data}
use Rattle.ps_hoa.specs.Spans.{piece_of}
use Rattle.ps_hoa.specs.declared.fault.HoaCause.{HoaCause}
use Rattle.ps_hoa.specs.declared.fault.HoaCause.TheVariants.{StateTwice}
use Rattle.ps_hoa.proofs.Grammar.OperandLaws.{false_true}
use Rattle.ps_hoa.proofs.Reading.IntSigns.{takes_further, takes_both}
use Rattle.ps_hoa.proofs.body.new_state_of.Goals as goal

abbrev Again : BodyData → ℕ → HoaCause → Type 0
Again b n f = (has_row n b.rows ≡ true) × (f ≡ StateTwice)

pub returns-then-has : goal.returns-then-has
returns-then-has c =
    let h = header_data c.args.header.now in
    let b = body_data c.args.rows.now in
    subst (λ e. Takes {X = ℕ} (λ n. n) int_in (BadIn (IsBadRow h b)) (piece_of c.args.token) (Err e))
    (sym c.fault_at.ensures) (
      refl,
      inl (takes_further (IsBadState c.args.header.now.states) (Again b) (piece_of c.args.token) c.in_ok-state.state
          StateTwice c.in_ok-state.ensures (sym c.has.ensures ∙ c.if-has.true, refl)
          (λ g k. subst (λ z. cause_number StateTwice ≤ cause_number z) (sym k.1) (omega arith))),
    )

pub returns : goal.returns
returns c = takes_both (IsBadState c.args.header.now.states) (Again (body_data c.args.rows.now))
    (piece_of c.args.token).sign c.in_ok-state.state c.in_ok-state.ensures (λ f k. false_true (grind arith))
