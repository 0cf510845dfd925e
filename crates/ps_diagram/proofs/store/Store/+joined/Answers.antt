use Rattle.std.proofs.Common.{◌≡◌, ◌+◌, ◌-◌, arith}
use Rattle.ps_diagram.proofs.TreesFromData.Halving.{has_leaf_kept, part_node, parts_leads, parts_more, parts_row}
use Rattle.ps_diagram.proofs.NodeTables.KnownLemmas.{keeps_trans}
use Rattle.ps_diagram.proofs.store.Store.+joined.Goals as goal

pub parts-rest-preserved : goal.parts-rest-preserved
parts-rest-preserved t c =
    let first = c.args.first in
    let v = c.rest.invariant in
    let made = c.joined.ensures in
    let node = c.in_ok-joined.field-0 in
    let size : c.args.self.now.propositions - first ≡ c.rest.self.propositions - (first + 4) + 4 =
    omega (arith, c.requires.within, v.keeps.propositions) in
    record {
      keeps = keeps_trans v.keeps made.keeps;
      parts = parts_more node made.keeps v.parts c.in_ok-push.ensures.items
          (part_node node v.keeps c.requires.row c.in_ok-part.ensures size c.in_ok-joined.ensures.held
          c.in_ok-joined.ensures.leaf);
    }

pub parts-returns-clause-row : goal.parts-returns-clause-row
parts-returns-clause-row t c =
    let all : c.rest.rest ≡ 16 = omega arith in
    parts_row (has_leaf_kept c.rest.invariant.keeps c.args.none _ c.requires.row.nothing)
    (rw all at c.rest.invariant.parts)

pub parts-returns-clause-leads : goal.parts-returns-clause-leads
parts-returns-clause-leads t c =
    let all : c.rest.rest ≡ 16 = omega arith in
    parts_leads (has_leaf_kept c.rest.invariant.keeps c.args.none _ c.requires.row.nothing)
    (rw all at c.rest.invariant.parts)
