use Rattle.std.proofs.Common.{Ok, Err, arith}
use Rattle.ps_certificate.proofs.SparseRows.Lists.{search_result, rising_far, rising_near}
use Rattle.ps_certificate.proofs.rising.Rising.first_at_least.Goals as goal

pub returns-in-Ok-clause-before : goal.returns-in-Ok-clause-before
returns-in-Ok-clause-before c k below =
    let found = search_result c.args.self.list.now c.args.number (Ok c.in-Ok.place) c.args.self.rises
    c.in-Ok.ensures.position in
    grind (arith, rising_far)

pub returns-in-Ok-clause-behind : goal.returns-in-Ok-clause-behind
returns-in-Ok-clause-behind c k above within =
    let found = search_result c.args.self.list.now c.args.number (Ok c.in-Ok.place) c.args.self.rises
    c.in-Ok.ensures.position in
    grind (arith, rising_near)

pub returns-in-Err-clause-before : goal.returns-in-Err-clause-before
returns-in-Err-clause-before c k below = let found = search_result c.args.self.list.now c.args.number
    (Err c.in-Err.place) c.args.self.rises c.in-Err.ensures.position in found.1 k below

pub returns-in-Err-clause-behind : goal.returns-in-Err-clause-behind
returns-in-Err-clause-behind c k above within =
    grind (
      arith,
      search_result c.args.self.list.now c.args.number (Err c.in-Err.place) c.args.self.rises
          c.in-Err.ensures.position,
    )
