use Rattle.std.proofs.Common.{arith, ap, sym, ◌∙◌}
use Rattle.ps_hoa.specs.Grammar.Conditions.{often_in}
use Rattle.ps_hoa.specs.Grammar.Operands.{is_left, is_right}
use Rattle.ps_hoa.specs.Values.{condition_of}
use Rattle.ps_hoa.proofs.Reading.HoaExits.{exit, serves_meets, value_is}
use Rattle.ps_hoa.proofs.Reading.ExpectReading.{tests_left, tests_right}
use Rattle.ps_hoa.proofs.Reading.LeafReading.{visit_unopened, visit_fails, visit_stays_open, visit_reads}
use Rattle.ps_hoa.proofs.Reading.LeafReading.{constant_serves}
use Rattle.ps_hoa.proofs.condition.ConditionsInfix.leaf.Goals as goal

pub returns-in_default : goal.returns-in_default
returns-in_default c = serves_meets condition_of _ c.constant.result (grind (arith, constant_serves)) c.constant.ensures

pub returns-in_err-expect : goal.returns-in_err-expect
returns-in_err-expect c =
    let often = ap (λ p. often_in p.sign) (sym c.peek.ensures.next) ∙ sym c.often_of.ensures ∙ c.in-Some.is in
    exit condition_of _ _ _ (visit_unopened often c.skip.ensures.rest)
    (c.in_err-expect.ensures is_left tests_left.is) c.from_residual.ensures.1

pub returns-in_err-set : goal.returns-in_err-set
returns-in_err-set c =
    let often = ap (λ p. often_in p.sign) (sym c.peek.ensures.next) ∙ sym c.often_of.ensures ∙ c.in-Some.is in
    exit condition_of _ _ _ (visit_fails often c.skip.ensures.rest
    (c.in_ok-expect.ensures is_left tests_left.is)) c.in_err-set.ensures c.from_residual-in_err-set.ensures.1

pub returns-in_err-expect-2 : goal.returns-in_err-expect-2
returns-in_err-expect-2 c =
    let often = ap (λ p. often_in p.sign) (sym c.peek.ensures.next) ∙ sym c.often_of.ensures ∙ c.in-Some.is in
    exit condition_of _ _ _ (visit_stays_open often c.skip.ensures.rest
    (c.in_ok-expect.ensures is_left tests_left.is) c.in_ok-set.ensures)
    (c.in_err-expect-2.ensures is_right tests_right.is)
    c.from_residual-in_err-expect-2.ensures.1

pub returns : goal.returns
returns c = let often = ap (λ p. often_in p.sign) (sym c.peek.ensures.next) ∙ sym c.often_of.ensures ∙ c.in-Some.is in
    value_is (sym c.visits.ensures) (visit_reads often c.skip.ensures.rest
    (c.in_ok-expect.ensures is_left tests_left.is) c.in_ok-set.ensures
    (c.in_ok-expect-2.ensures is_right tests_right.is))
