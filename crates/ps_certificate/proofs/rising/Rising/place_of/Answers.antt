use Rattle.std.proofs.Common.{Err}
use Rattle.ps_certificate.proofs.SparseRows.Lists.{search_result, not_between}
use Rattle.ps_certificate.proofs.rising.Rising.place_of.Goals as goal

pub returns-in-Err-clause-none : goal.returns-in-Err-clause-none
returns-in-Err-clause-none c = let found = search_result c.args.self.list.now c.args.number (Err c.in-Err.field-0)
    c.args.self.rises c.in-Err.ensures.position in
    not_between c.args.self.list.now c.args.number c.in-Err.field-0 found.1 found.2
