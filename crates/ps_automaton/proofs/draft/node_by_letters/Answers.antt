use Rattle.std.proofs.Common.{◌≡◌, ℕ, ◌%◌, ◌^◌, ◌<◌, length, get_or, Some, arith}
use Rattle.std.proofs.lemmas.Nat.{pow_pos}
use Rattle.std.proofs.lemmas.Option.{slice_get-get_or}
use Rattle.ps_diagram.specs.Table.{leaf_of}
use Rattle.ps_automaton.specs.Inner.Drafts.{ArePlaces, AreSteps}
use Rattle.ps_automaton.specs.Inner.Views.{chain_data}
use Rattle.ps_automaton.proofs.EdgesAtLetters.LetterRows.{joined_by_letters}
use Rattle.ps_automaton.proofs.StepsByState.RowSteps.{steps_of_row}
use Rattle.ps_automaton.proofs.draft.node_by_letters.Goals as goal

pub returns : goal.returns
returns c =
    let ready = c.requires.ready in
    let chain = chain_data c.args.source.now.levels.now.chain in
    let made = c.in_ok-places.ensures.places in
    let targets = made.0 in
    let places = c.in_ok-places.places.items in
    let steps = c.places_of_edges.new.steps in
    let n = length c.args.source.now.file.now.names in
    let joined = joined_by_letters ready.sound_row c.requires.by_letters made.1 in
    let all_steps : AreSteps c.args.source.now.file.now.states steps =
    c.in_ok-places.ensures.within c.args.source.now.file.now.states (λ k target e. grind arith) ready.source.steps in
    let are_places : ArePlaces chain targets steps places = made.2 in
    let within : (letter : ℕ) → letter % 2 ^ n < length places = grind (arith, pow_pos n) in
    let leaf : (letter : ℕ) → leaf_of c.of_leaves.new.self c.in_ok-node.node letter ≡ Some
    (get_or places (letter % 2 ^ n) 0) = grind (arith, slice_get-get_or) in
    record {
      grows = grind arith;
      node = λ q of_state. steps_of_row ready.sound ready.sound_row c.args.source.now.levels.now.few joined
          all_steps are_places q of_state c.of_leaves.new.self c.in_ok-node.ensures.held leaf;
    }
