-- The list of rows and the table of their indices, after a row is appended.
use Rattle.std.proofs.Common.{◌≡◌, ◌++◌, ◌∷◌, [], map, arith}
use Rattle.std.proofs.lemmas.Bool.{cond-true}
use Rattle.std.proofs.lemmas.List.{map-append, length-map}
use Rattle.ps_hoa.specs.Views.{row_data}
use Rattle.ps_hoa.proofs.Reading.RowTable.{place_set}
use Rattle.ps_hoa.proofs.body.rows.Rows.push.Goals as goal

pub invariant_of-self-2-clause-places_are : goal.invariant_of-self-2-clause-places_are
invariant_of-self-2-clause-places_are c = λ state.
    let rows = c.args.self.now.rows.items in
    let pushed : c.push.new.self.items ≡ rows ++ c.args.row ∷ [] = grind (arith, cond-true) in
    grind (
      arith,
      length-map rows row_data,
      place_set c.extend.new.places.items state (map row_data rows) (row_data c.args.row),
      c.in_ok-extend.ensures.same state,
      map-append row_data rows (c.args.row ∷ []),
    )

pub invariant_of-self-2-clause-within : goal.invariant_of-self-2-clause-within
invariant_of-self-2-clause-within c = omega (arith, c.requires.within, c.len-2.ensures, c.args.row.edges.ok.0)
