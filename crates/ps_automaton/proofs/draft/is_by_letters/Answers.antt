use Rattle.std.proofs.Common.{◌≡◌, List, Some, map, sym, ap, ◌∙◌}
use Rattle.std.specs.List.{slice_get}
use Rattle.std.specs.Option.{option_map}
use Rattle.std.proofs.lemmas.Option.{slice_get-map}
use Rattle.ps_hoa.specs.Views.{edge_data, guard_data}
use Rattle.ps_hoa.specs.declared.file.Edge.{Edge}
use Rattle.ps_automaton.proofs.EdgesAtLetters.Fitting.{by_letters_of}
use Rattle.ps_automaton.proofs.draft.is_by_letters.Goals as goal

pub returns-in-Letter : goal.returns-in-Letter
returns-in-Letter c = λ _ file sound.
    let row = c.args.row.now in
    let e = c.in-Some.edge.now in
    let first : slice_get row.edges.items 0 ≡ Some e =
    ap (λ (es : List Edge). slice_get es 0) (sym c.deref.ensures.value) ∙ sym c.in-Some.ensures.value in
    let at : slice_get (map edge_data row.edges.items) 0 ≡ Some (edge_data e) =
    slice_get-map edge_data row.edges.items 0 ∙ ap (option_map edge_data) first in
    by_letters_of sound _ at (ap guard_data c.in-Letter.is)
