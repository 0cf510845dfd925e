use Rattle.std.proofs.Common.{ap, List, Bool, sym}
use Rattle.ps_label.specs.Truth.{label_truth, truth}
use Rattle.ps_label.proofs.Tables.{table, only_table}
use Rattle.ps_label.proofs.labels.one_table_of_truths.Goals as goal

pub returns-clause-table : goal.returns-clause-table
returns-clause-table c = table

pub returns-clause-only : goal.returns-clause-only
returns-clause-only c = only_table

pub returns-clause-label : goal.returns-clause-label
unfolding label_truth
returns-clause-label c =
    λ aliases letter known e o t. ap (λ (by : List Bool). truth by letter e) (sym (only_table aliases letter known o t))
