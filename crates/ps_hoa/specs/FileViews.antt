-- The abstract value of a stored HOA file.
use Rattle.std.specs.Prelude.{map}
use Rattle.ps_label.specs.Truth.{expressions}
use Rattle.ps_hoa.specs.Files.{FileData}
use Rattle.ps_hoa.specs.Values.{condition_of}
use Rattle.ps_hoa.specs.Views.{row_data}
use Rattle.ps_hoa.specs.declared.file.HoaFile.TheInside.{Inside}

abbrev pub file_data : Inside → FileData
file_data f = record {
  states = f.states;
  start = f.start;
  names = f.names;
  controllable = f.controllable;
  aliases = expressions f.aliases;
  sets = f.sets;
  condition = condition_of f.condition;
  rows = map row_data f.rows.rows.items;
}
