use Rattle.std.proofs.Common.{◌<◌, ap, arith, get_or, length, sym, ◌∙◌, List}
use Rattle.std.specs.Prelude.{slice_get}
use Rattle.std.proofs.lemmas.List.{length-map}
use Rattle.std.proofs.lemmas.Option.{slice_get-get_or}
use Rattle.ps_automaton.specs.declared.step.Step.{Step}
use Rattle.ps_brief.proofs.ListedStates.EnteredKeys.{key_of_step}
use Rattle.ps_brief.proofs.ListedStates.PlacedKeys.{listed_at}
use Rattle.ps_brief.proofs.listing.Listing.step_at.Goals as goal

pub returns : goal.returns
returns c =
    let steps = c.args.self.now.entered.keys in
    let none : Step = record { state = 0; priority = 0 } in
    let shown = c.as_slice.result.now in
    let within : c.args.place < length shown =
    omega (arith, c.requires, length-map steps key_of_step, ap length c.as_slice.ensures.keys) in
    listed_at steps c.args.place (get_or shown c.args.place none)
    (ap (λ (xs : List Step). slice_get xs c.args.place) (sym c.as_slice.ensures.keys)
    ∙ slice_get-get_or shown c.args.place none within)
