-- The acceptance sets of an edge or of a state as a list of numbers.
use Rattle.std.specs.Prelude.{ℕ, List, []}
use Rattle.ps_hoa.specs.declared.marks.Marks.{Marks}
use Rattle.ps_hoa.specs.declared.marks.Marks.TheVariants.{None, One, List as Listed}

abbrev pub mark_list : Marks → List ℕ
mark_list None = []
mark_list (One set) = set
mark_list (Listed sets) = sets.value.items
