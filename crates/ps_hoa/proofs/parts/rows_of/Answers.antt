-- The rows so far are those before the next one in the list, so they are of other states, and have few enough edges.
use Rattle.std.proofs.Common.{◌≡◌, ◌+◌, ◌<◌, ◌≤◌, false, List, length, take, get_or, map, ap, sym, ◌∙◌, arith, rules}
use Rattle.std.proofs.lemmas.Iterator.Adapters.{YieldsList-from_vec}
use Rattle.std.proofs.lemmas.Iterator.Consumers.{YieldsList-so_far, YieldsList-turn, YieldsList-end}
use Rattle.std.proofs.lemmas.List.{get_or-map, length-map, map-id, take-map}
use Rattle.ps_hoa.specs.Grammar.Body.{has_row}
use Rattle.ps_hoa.specs.Sound.{AreRowsOnce, edges_of}
use Rattle.ps_hoa.specs.Views.{edge_data, row_data}
use Rattle.ps_hoa.specs.declared.file.Row.{Row}
use Rattle.ps_hoa.proofs.Soundness.RowsInOrder.{once_at, few_at}
use Rattle.ps_hoa.proofs.parts.rows_of.Goals as goal

module _ (rows yielded : List Row) (row : Row) (so_far : yielded ≡ take (length yielded) rows)
    (turn : (length yielded < length rows) × (row ≡ get_or rows (length yielded) row)) where
  data_so_far : map row_data yielded ≡ take (length yielded) (map row_data rows)
  data_so_far = ap (map row_data) so_far ∙ sym (take-map row_data (length yielded) rows)

  data_turn : row_data row ≡ get_or (map row_data rows) (length yielded) (row_data row)
  data_turn = ap row_data turn.1 ∙ sym (get_or-map row_data rows (length yielded) row (row_data row) turn.0)

  within_data : length yielded < length (map row_data rows)
  within_data = omega (arith, turn.0, length-map rows row_data)

  new_turn : AreRowsOnce (map row_data rows) → has_row row.state (map row_data yielded) ≡ false
  new_turn once = (λ i. has_row (data_turn i).state (data_so_far i))
      ∙ once_at (map row_data rows) (length yielded) (row_data row) within_data once

  few_turn : edges_of (map row_data yielded) + length row.edges.items ≤ edges_of (map row_data rows)
  few_turn =
      let few = few_at (map row_data rows) (length yielded) (row_data row) within_data in
      let same : edges_of (map row_data yielded) ≡ edges_of (take (length yielded) (map row_data rows)) =
      ap edges_of data_so_far in
      let many : length (map edge_data row.edges.items) ≡ length (get_or (map row_data rows) (length yielded)
      (row_data row)).edges = ap (λ d. length d.edges) data_turn in
      omega (arith, few, same, many, length-map row.edges.items edge_data)

pub push-requires-clause-new : goal.push-requires-clause-new
push-requires-clause-new c =
    let road = YieldsList-from_vec {s = c.into_iter-row-iterator.result} c.args.rows.items (search rules)
    (search (rules, arith)) in
    let turn = YieldsList-turn road c.loop-row.yielded c.loop-row.row-iterator c.loop-row.yielded_by c.next.result
    c.next.new.self c.in-Some.row c.in-Some.is c.next.ensures.steps in
    let so_far = YieldsList-so_far road c.loop-row.yielded c.loop-row.row-iterator c.loop-row.yielded_by in
    ap (has_row c.in-Some.row.state) c.loop-row.invariant.rows
    ∙ new_turn c.args.rows.items c.loop-row.yielded c.in-Some.row (sym (map-id c.loop-row.yielded) ∙ so_far) turn
    c.requires.once

pub push-requires-clause-within : goal.push-requires-clause-within
push-requires-clause-within c =
    let road = YieldsList-from_vec {s = c.into_iter-row-iterator.result} c.args.rows.items (search rules)
    (search (rules, arith)) in
    let turn = YieldsList-turn road c.loop-row.yielded c.loop-row.row-iterator c.loop-row.yielded_by c.next.result
    c.next.new.self c.in-Some.row c.in-Some.is c.next.ensures.steps in
    let so_far = YieldsList-so_far road c.loop-row.yielded c.loop-row.row-iterator c.loop-row.yielded_by in
    let few = few_turn c.args.rows.items c.loop-row.yielded c.in-Some.row (sym (map-id c.loop-row.yielded) ∙ so_far)
    turn in
    omega (arith, few, c.requires.few, c.loop-row.invariant.edges)

pub returns : goal.returns
returns c =
    let road = YieldsList-from_vec {s = c.into_iter-row-iterator.result} c.args.rows.items (search rules)
    (search (rules, arith)) in
    let all = YieldsList-end road c.loop-row.yielded c.loop-row.row-iterator c.loop-row.yielded_by c.next.result
    c.next.new.self c.in-None.is c.next.ensures.steps in
    c.loop-row.invariant.rows ∙ ap (map row_data) (sym (map-id c.loop-row.yielded) ∙ all.0)
