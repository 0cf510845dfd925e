use Rattle.std.proofs.Common.{rules, ◌∙◌, sym, ap, take, [], get_or, flat_map}
use Rattle.std.proofs.lemmas.List.{take_more, flat_map_more}
use Rattle.std.proofs.Output.{has_written_append, has_written_of_eq}
use Rattle.ps_program.specs.Faults.{spaced}
use Rattle.ps_program.proofs.fault_text.IdsDisplay.fmt.Goals as goal

pub loop-id-preserved : goal.loop-id-preserved
loop-id-preserved g c p =
    let items = c.args.self.now.0.now in
    let index = c.loop-id.id-index in
    has_written_of_eq _ _ _ _ _ (flat_map_more spaced [] (take index items) (get_or items index 0)
    ∙ ap (flat_map spaced) (sym (take_more items index 0 (search rules)))) (search (rules, has_written_append))
