use Rattle.std.proofs.Common.{sym, rules}
use Rattle.ps_certificate.proofs.SparseRows.Sparse.{count_first, count_none}
use Rattle.ps_certificate.proofs.row.Stored.count_in.Goals as goal
use Rattle.ps_certificate.proofs.row.Stored.count_in.Goals.{else-number-placed-via-then-number-placed+else-placed-number}
use Rattle.ps_certificate.proofs.row.Stored.count_in.Goals.{else-number-placed-via-else-number-placed}

pub returns-then-placed-number : goal.returns-then-placed-number
returns-then-placed-number c = search (rules, count_first)

pub returns-else-number-placed : goal.returns-else-number-placed
returns-else-number-placed c =
    sym (count_none c.args.self.now.list.now c.args.place c.args.number c.args.self.now.rising c.requires (search (
      rules,
      else-number-placed-via-then-number-placed+else-placed-number,
      else-number-placed-via-else-number-placed,
    )))
