-- Cells whose numbers are stored in 4 bytes each, and the cells for which they stand.
use Rattle.ps_measure.specs.declared.table.CountCell.{CountCell}
use Rattle.ps_measure.specs.declared.table.NarrowCount.{NarrowCount}

abbrev pub count_cell_of : NarrowCount → CountCell
count_cell_of cell = record { place = cell.place; count = cell.count; next = cell.next }

-- the default cell for an index past the end of a list of count cells
abbrev pub no_count : CountCell
no_count = record { place = 0; count = 0; next = 0 }
