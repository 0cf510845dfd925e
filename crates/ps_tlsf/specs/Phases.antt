-- Which tokens may follow outside formulas: a transition for each place of the grammar.
use Rattle.std.specs.Prelude.{Option, None, Some, if◌then◌else◌}
use Rattle.ps_tlsf.specs.Words.{is_word}
use Rattle.ps_tlsf.specs.declared.words.Item.{Item}
use Rattle.ps_tlsf.specs.declared.words.Item.TheVariants as items
use Rattle.ps_tlsf.specs.declared.words.Sign.{Sign}
use Rattle.ps_tlsf.specs.declared.words.Sign.TheVariants as signs
use Rattle.ps_tlsf.specs.declared.phases.Block.TheVariants as blocks
use Rattle.ps_tlsf.specs.declared.phases.Phase.{Phase}
use Rattle.ps_tlsf.specs.declared.phases.Phase.TheVariants as phases

-- the next item, or the end of `INFO`
abbrev pub item_or_close : Sign → Option Phase
item_or_close (signs.Item item) = Some (phases.Colon item)
item_or_close signs.RightBrace = Some phases.Main
item_or_close sign = None

-- a tag is a word, except for the names of items
abbrev pub tag_or : Sign → Option Phase → Option Phase
tag_or (signs.Item item) other = other
tag_or sign other = if is_word sign then Some phases.BehindTag else other

abbrev pub first_value : Item → Phase
first_value items.Title = phases.Text items.Title
first_value items.Description = phases.Text items.Description
first_value items.Tags = phases.FirstTag
first_value items.Semantics = phases.Semantics
first_value items.Target = phases.Target

-- the next section, or the end of `MAIN`
abbrev pub section_or_close : Sign → Option Phase
section_or_close (signs.Names side) = Some (phases.Brace (blocks.Names side))
section_or_close (signs.Section section) = Some (phases.Brace (blocks.Formulas section))
section_or_close signs.RightBrace = Some phases.End
section_or_close sign = None

abbrev pub goes : Phase → Sign → Option Phase
goes phases.Info signs.Info = Some phases.InfoBrace
goes phases.InfoBrace signs.LeftBrace = Some phases.Items
goes phases.Items sign = item_or_close sign
goes (phases.Colon item) signs.Colon = Some (first_value item)
goes (phases.Text item) signs.Text = Some phases.Items
goes phases.FirstTag sign = tag_or sign (item_or_close sign)
goes phases.BehindTag signs.Comma = Some phases.Tag
goes phases.BehindTag sign = item_or_close sign
goes phases.Tag sign = tag_or sign None
goes phases.Semantics (signs.Order order) = Some phases.BehindOrder
goes phases.Semantics signs.Strict = Some phases.BehindStrict
goes phases.BehindOrder signs.Comma = Some phases.StrictWord
goes phases.BehindOrder sign = item_or_close sign
goes phases.StrictWord signs.Strict = Some phases.Items
goes phases.BehindStrict signs.Comma = Some phases.StrictOrder
goes phases.StrictOrder (signs.Order order) = Some phases.Items
goes phases.Target (signs.Order order) = Some phases.Items
goes phases.Main signs.Main = Some phases.MainBrace
goes phases.MainBrace signs.LeftBrace = Some phases.Sections
goes phases.Sections sign = section_or_close sign
goes (phases.Brace (blocks.Names side)) signs.LeftBrace = Some (phases.Names side)
goes (phases.Brace (blocks.Formulas section)) signs.LeftBrace = Some (phases.Formulas section)
goes (phases.Names side) signs.RightBrace = Some phases.Sections
goes (phases.Names side) sign = if is_word sign then Some (phases.BehindName side) else None
goes (phases.BehindName side) signs.Semicolon = Some (phases.Names side)
goes (phases.BehindName side) signs.RightBrace = Some phases.Sections
goes (phases.Formulas section) signs.RightBrace = Some phases.Sections
goes phase sign = None
