-- Lemmas about the table of values in which the rows (gates) of an evaluation plan are evaluated, one after another.
use Rattle.std.proofs.Common.{◌≡◌, ◌≢◌, ℕ, zero, suc, ◌<◌, ◌&&◌, Bool, false, not, cond, List, [], ◌∷◌, length, get_or}
use Rattle.std.proofs.Common.{refl, sym, ap, ap₂, ◌∙◌, arith, length-set, get_or-set_same, get_or-set_other}
use Rattle.ps_simulate.specs.declared.plan.Wire.{Wire}
use Rattle.ps_simulate.specs.declared.plan.Row.{Row}
use Rattle.ps_simulate.specs.NeededGates.{IsScheduled, numbered_row}
use Rattle.ps_simulate.specs.Plans.{read, work_row, work_out}

IsScheduled-tail : {r : Row} {rows : List Row} → IsScheduled (r ∷ rows) → IsScheduled rows
IsScheduled-tail s = record {
  once = λ k l hk hl e. omega (arith, s.once (suc k) (suc l) (omega arith) (omega arith) e);
  first_behind = λ k l hk hl e. omega (arith, s.first_behind (suc k) (suc l) (omega arith) (omega arith) e);
  second_behind = λ k l hk hl e. omega (arith, s.second_behind (suc k) (suc l) (omega arith) (omega arith) e);
}

pub length-work_out : (rows : List Row) (values : List Bool) → length (work_out rows values) ≡ length values
length-work_out [] values = refl
length-work_out (r ∷ rows) values = length-work_out rows (work_row values r) ∙ length-set values r.target _

-- evaluating rows does not change a value that is the target of no row
pub work_out-other : (rows : List Row) (values : List Bool) (p : ℕ) →
    ((k : ℕ) → k < length rows → (numbered_row rows k).target ≢ p)
    → get_or (work_out rows values) p false ≡ get_or values p false
work_out-other [] values p none = refl
work_out-other (r ∷ rows) values p none = work_out-other rows (work_row values r) p (λ k lt. none (suc k) (omega arith))
    ∙ get_or-set_other values r.target p _ false (λ e. none 0 (omega arith) (sym e))

pub read-same : (values others : List Bool) (w : Wire) → get_or values w.place false ≡ get_or others w.place false →
    read values w ≡ read others w
read-same values others w e = ap (λ (b : Bool). cond w.is_negated (not b) b) e

-- after the evaluation, the target of each row has the value of the row's gate
pub work_out-row : (rows : List Row) (values : List Bool) (k : ℕ) → IsScheduled rows →
    ((l : ℕ) → l < length rows → (numbered_row rows l).target < length values)
    → k < length rows → get_or (work_out rows values) (numbered_row rows k).target false ≡
    (read (work_out rows values) (numbered_row rows k).first &&
    read (work_out rows values) (numbered_row rows k).second)
work_out-row [] values k s within lt = absurd (omega arith)
work_out-row (r ∷ rows) values zero s within lt =
    let all = work_out (r ∷ rows) values in
    let first : read all r.first ≡ read values r.first = read-same all values r.first (work_out-other (r ∷ rows) values
    r.first.place (λ l less e. absurd (omega (arith, s.first_behind 0 l lt less (sym e))))) in
    let second : read all r.second ≡ read values r.second = read-same all values r.second (work_out-other (r ∷ rows)
    values r.second.place (λ l less e. absurd (omega (arith, s.second_behind 0 l lt less (sym e))))) in
    let kept : get_or all r.target false ≡ get_or (work_row values r) r.target false =
    work_out-other rows (work_row values r) r.target (λ l less e.
    absurd (let h : suc l ≡ 0 = s.once (suc l) 0 (omega arith) lt e in omega arith)) in
    kept ∙ get_or-set_same values r.target _ false (within 0 lt) ∙ ap₂ ◌&&◌ (sym first) (sym second)
work_out-row (r ∷ rows) values (suc k) s within lt = work_out-row rows (work_row values r) k (IsScheduled-tail s)
    (λ l less. let h : (numbered_row rows l).target < length values = within (suc l) (omega arith) in
    omega (arith, length-set values r.target (read values r.first && read values r.second))) (omega arith)
