-- The abstract values of stored guards, edges and rows.
-- - `guard_data`, `edge_data`, `row_data`: the abstract value of a guard, of an edge, of a row
use Rattle.std.specs.Prelude.{map, option_map}
use Rattle.ps_label.specs.Expression.{expression}
use Rattle.ps_hoa.specs.Marks.{mark_list}
use Rattle.ps_hoa.specs.Files.{GuardData, EdgeData, RowData, stated, of_state, at_letter}
use Rattle.ps_hoa.specs.declared.file.Guard.{Guard}
use Rattle.ps_hoa.specs.declared.file.Guard.TheVariants.{Stated, OfState, Letter}
use Rattle.ps_hoa.specs.declared.file.Edge.{Edge}
use Rattle.ps_hoa.specs.declared.file.Row.{Row}

abbrev pub guard_data : Guard → GuardData
guard_data (Stated label) = stated (expression label)
guard_data OfState = of_state
guard_data (Letter k) = at_letter k

abbrev pub edge_data : Edge → EdgeData
edge_data e = record { guard = guard_data e.guard; target = e.target; marks = mark_list e.marks }

abbrev pub row_data : Row → RowData
row_data r =
    record {
      state = r.state;
      label = option_map expression r.label;
      marks = mark_list r.marks;
      edges = map edge_data r.edges.items;
    }
