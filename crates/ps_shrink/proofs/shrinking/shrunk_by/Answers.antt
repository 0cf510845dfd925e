use Rattle.std.proofs.Common.{◌≡◌, Err, Ok, Result, subst, sym}
use Rattle.std.specs.Prelude.{IfErr}
use Rattle.std.specs.Result.{IsErrAnd}
use Rattle.ps_product.specs.declared.fault.ProductFault.TheVariants.{OutOfMemory}
use Rattle.ps_shrink.proofs.shrinking.shrunk_by.Goals as goal

-- what holds of a fault holds of the fault that is passed on
passed : {V E : Type 0} (P : E → Type 0) (fault : E) → P fault → (result : Result V E) →
    IsErrAnd result (λ given. given ≡ fault) → IfErr result P
passed P fault h (Ok v) is = absurd is
passed P fault h (Err given) is = subst P (sym is) h

pub smaller-requires-clause-wins : goal.smaller-requires-clause-wins
smaller-requires-clause-wins g c = rw c.in-Wins.is at c.in_ok-judge.ensures.judged

pub returns-in_err-small-in-Wins-clause-refused : goal.returns-in_err-small-in-Wins-clause-refused
returns-in_err-small-in-Wins-clause-refused g c = passed (g.J.Judge.refuses c.args.judge.now c.args.circuit) OutOfMemory
    (g.met.J.Judge.memory c.args.judge.now c.args.circuit) c.from_residual-in_err-small-in-Wins.result
    c.from_residual-in_err-small-in-Wins.ensures.1

pub returns-in_ok-small-in-Wins-clause-reduced : goal.returns-in_ok-small-in-Wins-clause-reduced
returns-in_ok-small-in-Wins-clause-reduced g c =
    (rw c.in-Wins.is at c.in_ok-judge.ensures.judged, c.in_ok-small-in-Wins.ensures)

pub returns-in-Loses-clause-reduced : goal.returns-in-Loses-clause-reduced
returns-in-Loses-clause-reduced g c = rw c.in-Loses.is at c.in_ok-judge.ensures.judged
