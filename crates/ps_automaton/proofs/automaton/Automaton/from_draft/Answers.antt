use Rattle.std.proofs.Common.{rules, arith, ◌≡◌, map, ◌∙◌}
use Rattle.ps_hoa.specs.Memory.{bytes_of}
use Rattle.ps_automaton.specs.Inner.Drafts.{IsDraft}
use Rattle.ps_automaton.proofs.StepsByState.Building.{auto_built, whole_built}
use Rattle.ps_automaton.proofs.automaton.Automaton.from_draft.Goals as goal
use Rattle.ps_automaton.proofs.automaton.Automaton.from_draft.Goals.{In_ok-controllable}

names_are : (c : In_ok-controllable) → map bytes_of c.in_ok-names.names.items ≡ c.args.file.now.names
names_are c = c.in_ok-names.ensures ∙ c.names.ensures.value

controllable_are : (c : In_ok-controllable) → c.in_ok-controllable.controllable.items ≡ c.args.file.now.controllable
controllable_are c = c.in_ok-controllable.ensures.items_if_clones_equal (λ x y e. e) ∙ c.controllable.ensures.value

pub invariant_of-result : goal.invariant_of-result
invariant_of-result c =
    rw c.into_list-steps.ensures.list (search (rules, whole_built, names_are, controllable_are))

pub returns : goal.returns
returns c =
    let a = (goal.at.returns c).In_ok-controllable in
    let draft : IsDraft c.args.file.now c.requires.0 c.into_list-steps.result.items c.args.draft.pairs.store
    c.args.draft.nodes.items = rw c.into_list-steps.ensures.list c.requires.2 in
    grind (
      arith,
      auto_built c.names.ensures.well_formed _
          draft (names_are a) (controllable_are a) c.states.ensures.value c.start.ensures.value,
    )
