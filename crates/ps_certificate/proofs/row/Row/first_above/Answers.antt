use Rattle.std.proofs.Common.{◌≡◌, subst, arith, rules}
use Rattle.ps_certificate.specs.Sparse.{IsFirstAbove, place_at, dense_row}
use Rattle.ps_certificate.proofs.SparseRows.RowCopies.{not_above_start, not_above_end, not_above_next, above_here}
use Rattle.ps_certificate.proofs.SparseRows.Sparse.{length-counts_from}
use Rattle.ps_certificate.proofs.row.Row.first_above.Goals as goal

pub loop-number-init : goal.loop-number-init
loop-number-init c = search (rules, not_above_start)

pub returns-then-count-count_in-clause-some : goal.returns-then-count-count_in-clause-some
returns-then-count-count_in-clause-some c =
    let own = c.self.inside.placed.list.now in
    let other = c.other.inside.placed.list.now in
    let width : c.other.inside.width ≡ c.self.inside.width = search (rules, length-counts_from) in
    let there : dense_row c.self.inside.width other ≡ c.args.other.now = grind arith in
    let place = place_at own c.loop-number.number in
    subst (λ row. IsFirstAbove c.args.self.now row c.args.from place) there
    (subst (λ row. IsFirstAbove row (dense_row c.self.inside.width other) c.args.from place) c.self.view_is
    (above_here own
    other c.args.from c.loop-number.number c.loop-number.invariant c.self.inside.placed.rising c.loop-number-test.true
    c.self.inside.width c.self.invariant (omega (arith, c.if-count-count_in.true, c.count_in.ensures))))

pub loop-number-preserved : goal.loop-number-preserved
loop-number-preserved c = not_above_next c.self.inside.placed.list.now c.other.inside.placed.list.now
    c.args.from c.loop-number.number c.loop-number.invariant c.self.inside.placed.rising
    c.loop-number-test.true (omega (arith, c.if-count-count_in.false, c.count_in.ensures))

pub returns-clause-none : goal.returns-clause-none
returns-clause-none c = search (rules, length-counts_from, not_above_end)
