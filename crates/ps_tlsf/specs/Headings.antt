-- What the part `INFO` says, and which items and lists of names have occurred.
use Rattle.std.specs.Prelude.{Bool, true, false, Option, None, Some}
use Rattle.ps_tlsf.specs.Lexicon.{Token}
use Rattle.ps_tlsf.specs.declared.heading.Heading.{Heading}
use Rattle.ps_tlsf.specs.declared.words.Item.{Item}
use Rattle.ps_tlsf.specs.declared.words.Item.TheVariants as items
use Rattle.ps_tlsf.specs.declared.words.Order.{Order}
use Rattle.ps_tlsf.specs.declared.words.Order.TheVariants as orders
use Rattle.ps_tlsf.specs.declared.words.Side.{Side}
use Rattle.ps_tlsf.specs.declared.words.Side.TheVariants as sides
use Rattle.ps_tlsf.specs.declared.words.Sign.{Sign}
use Rattle.ps_tlsf.specs.declared.words.Sign.TheVariants as signs
use Rattle.ps_tlsf.specs.declared.phases.Phase.{Phase}
use Rattle.ps_tlsf.specs.declared.phases.Phase.TheVariants as phases

abbrev pub no_heading : Heading
no_heading = record {
  has_title = false;
  has_description = false;
  has_tags = false;
  has_semantics = false;
  has_target = false;
  has_inputs = false;
  has_outputs = false;
  title = None;
  semantics = None;
  target = None;
  is_strict = false;
}

abbrev pub has_item : Heading → Item → Bool
has_item h items.Title = h.has_title
has_item h items.Description = h.has_description
has_item h items.Tags = h.has_tags
has_item h items.Semantics = h.has_semantics
has_item h items.Target = h.has_target

abbrev pub has_list : Heading → Side → Bool
has_list h sides.Inputs = h.has_inputs
has_list h sides.Outputs = h.has_outputs

abbrev pub with_item : Heading → Item → Heading
with_item h items.Title = record h { has_title = true }
with_item h items.Description = record h { has_description = true }
with_item h items.Tags = record h { has_tags = true }
with_item h items.Semantics = record h { has_semantics = true }
with_item h items.Target = record h { has_target = true }

abbrev pub with_list : Heading → Side → Heading
with_list h sides.Inputs = record h { has_inputs = true }
with_list h sides.Outputs = record h { has_outputs = true }

-- both are given, and are the same order
abbrev pub agree : Option Order → Option Order → Bool
agree (Some orders.Mealy) (Some orders.Mealy) = true
agree (Some orders.Moore) (Some orders.Moore) = true
agree semantics target = false

abbrev pub agrees : Heading → Bool
agrees h = agree h.semantics h.target

abbrev pub with_order : Sign → Heading → Heading
with_order (signs.Order order) h = record h { semantics = Some order }
with_order sign h = record h { is_strict = true }

abbrev pub with_second_order : Sign → Heading → Heading
with_second_order (signs.Order order) h = record h { semantics = Some order }
with_second_order sign h = h

abbrev pub with_target : Sign → Heading → Heading
with_target (signs.Order order) h = record h { target = Some order }
with_target sign h = h

-- the heading after a token that is allowed in the given phase, outside formulas
abbrev pub heading_behind : Phase → Token → Heading → Heading
heading_behind (phases.Text items.Title) t h =
    record h { title = Some (record { start = t.start; stop = t.stop }) }
heading_behind phases.Semantics t h = with_order t.sign h
heading_behind phases.StrictWord t h = record h { is_strict = true }
heading_behind phases.StrictOrder t h = with_second_order t.sign h
heading_behind phases.Target t h = with_target t.sign h
heading_behind phase t h = h
