-- The abstract value of the file that is made from parts.
-- - `parts_data parts`: the file with these parts
use Rattle.std.specs.Prelude.{map}
use Rattle.ps_label.specs.Truth.{expressions}
use Rattle.ps_hoa.specs.Files.{FileData}
use Rattle.ps_hoa.specs.Memory.{bytes_of}
use Rattle.ps_hoa.specs.Values.{condition_of}
use Rattle.ps_hoa.specs.Views.{row_data}
use Rattle.ps_hoa.specs.declared.parts.HoaParts.{HoaParts}

abbrev pub parts_data : HoaParts → FileData
parts_data parts =
    record {
      states = parts.states;
      start = parts.start;
      names = map bytes_of parts.names.items;
      controllable = parts.controllable.items;
      aliases = expressions parts.aliases;
      sets = parts.sets;
      condition = condition_of parts.condition;
      rows = map row_data parts.rows.items;
    }
