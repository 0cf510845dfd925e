use Rattle.std.proofs.Common.{◌≡◌, ◌<◌, length, ap, subst, sym, arith, rules}
use Rattle.ps_certificate.specs.Lines.{entries_in, IsRowWithin}
use Rattle.ps_certificate.proofs.SparseRows.Lines.{has_line, counts_at, line_within}
use Rattle.ps_certificate.proofs.entries.Entries.counts.Goals as goal
use Rattle.ps_certificate.proofs.entries.Entries.counts.Goals.{After-index-line}

-- the line of the vertex refers to a range of the shared list
inside : (c : After-index-line) → IsRowWithin c.self.inside.placed.items c.index-line.result.now
inside c =
    let lines = c.self.inside in
    let all = entries_in lines.winners.items lines.lines.items lines.placed.items in
    let is : all ≡ c.args.self.now = c.self.view_is in
    let within : c.args.vertex < length all = subst (λ es. c.args.vertex < length es) (sym is) c.requires in
    line_within lines.winners.items lines.lines.items lines.placed.items c.args.vertex c.self.invariant within
    c.index-line.result.now c.index-line.ensures

pub index-line-requires : goal.index-line-requires
index-line-requires c = search (rules, has_line)

pub overflow_add-line : goal.overflow_add-line
overflow_add-line c =
    let at = inside (goal.at.overflow_add-line c).After-index-line in
    omega (arith, at.ends, c.self.inside.placed.ok, c.self.inside.placed.small)

pub part-nonzero-requires-clause-rises : goal.part-nonzero-requires-clause-rises
part-nonzero-requires-clause-rises c = (inside (goal.at.part-nonzero-requires-clause-rises c).After-index-line).rises

pub part-nonzero-requires-clause-ends : goal.part-nonzero-requires-clause-ends
part-nonzero-requires-clause-ends c =
    let at = inside (goal.at.part-nonzero-requires-clause-ends c).After-index-line in
    omega (arith, at.ends, ap length c.deref.ensures.value)

pub of-requires : goal.of-requires
of-requires c = search (rules, line_within)

pub returns : goal.returns
returns c = grind (arith, counts_at)
