-- The parts are those of the mixed file, which is sound.
use Rattle.std.proofs.Common.{◌∙◌, List, ℕ, length, map, ap, subst, sym}
use Rattle.ps_hoa.specs.Sound.{IsSoundFile}
use Rattle.ps_hoa.specs.declared.parts.HoaParts.{HoaParts}
use Rattle.ps_mixing.specs.Inner.Renaming.{IsWithin}
use Rattle.ps_mixing.specs.MixedFiles.{mixed_row, renamed}
use Rattle.ps_mixing.specs.Orders.{mixing_of, place_in}
use Rattle.ps_mixing.proofs.MixedParts.{parts_same, to_limit}
use Rattle.ps_mixing.proofs.MixedSound.{mixed_is_sound}
use Rattle.ps_mixing.proofs.file.mixed.Goals as goal

pub aliases_renamed-requires : goal.aliases_renamed-requires
aliases_renamed-requires c = subst (λ (table : List ℕ). IsWithin 64 table) (sym c.deref.ensures.value) (to_limit
    c.args.file.now (mixing_of c.args.order.now) c.requires.mixing c.aliases.ensures.well_formed.few_names)

pub rows_mixed-requires-clause-within : goal.rows_mixed-requires-clause-within
rows_mixed-requires-clause-within c = to_limit c.args.file.now (mixing_of c.args.order.now) c.requires.mixing
    c.aliases.ensures.well_formed.few_names

pub of_parts-requires : goal.of_parts-requires
of_parts-requires c =
    let file = c.args.file.now in
    let mixing = mixing_of c.args.order.now in
    let parts : HoaParts = record {
      states = c.states.result;
      start = c.start.result;
      names = c.in_ok-propositions.propositions.names;
      controllable = c.in_ok-propositions.propositions.controllable;
      aliases = c.in_ok-aliases.aliases;
      sets = c.sets.result;
      condition = c.in_ok-condition.condition;
      rows = c.in_ok-rows.rows;
    } in
    let same = parts_same parts file mixing c.states.ensures.value c.start.ensures.value
    c.in_ok-propositions.ensures.names c.in_ok-propositions.ensures.controllable
    (c.in_ok-aliases.ensures ∙ (λ i. map (renamed (place_in (c.deref.ensures.value i))) (c.aliases.ensures.value i)))
    c.sets.ensures.value (c.in_ok-condition.ensures ∙ c.condition.ensures.value)
    (c.in_ok-rows.ensures (length file.names) ∙ ap (map (mixed_row (length file.names) mixing)) c.rows.ensures.value) in
    subst IsSoundFile (sym same)
    (mixed_is_sound file mixing c.requires.mixing c.states.ensures.well_formed c.requires.labels)
