use Rattle.std.proofs.Common.{arith, ℕ, length, Some, Result, Ok, Err, Option, None, IfOk, subst}
use Rattle.std.specs.Option.{IfSome}
use Rattle.std.specs.Result.{OnOk}
use Rattle.ps_diagram.specs.Products.{IsLeafByCases, meets}
use Rattle.ps_diagram.specs.Table.{leaf_of}
use Rattle.ps_hoa.specs.Views.{row_data}
use Rattle.ps_automaton.specs.Inner.Cases.{AreCases}
use Rattle.ps_automaton.specs.Inner.Drafts.{ArePlaces, AreSteps, Grows}
use Rattle.ps_automaton.specs.Inner.Views.{chain_data}
use Rattle.ps_automaton.proofs.EdgesAtLetters.FirstCases.{joined_by_cases, leaf_by_cases}
use Rattle.ps_automaton.proofs.EdgesAtLetters.LetterRows.{states_within}
use Rattle.ps_automaton.proofs.StepsByState.RowSteps.{steps_of_row}
use Rattle.ps_automaton.proofs.draft.node_of_products.Goals as goal

both_made : {E : Type 0} {P Q R : ℕ → Type 0} (result : Result (Option ℕ) E) →
    ((node : ℕ) → P node → Q node → R node) → IfOk result (λ made. IfSome made P) →
    IfOk result (λ made. IfSome made Q) → IfOk result (λ made. IfSome made R)
both_made (Ok (Some node)) f p q = f node p q
both_made (Ok None) f p q = tt
both_made (Err e) f p q = tt

whenever : {X E : Type 0} {P : Type 0} (result : Result X E) → P → OnOk result P
whenever (Ok x) p = p
whenever (Err e) p = tt

pub returns : goal.returns
returns c =
    let ready = c.requires.ready in
    let file = c.args.source.now.file.now in
    let row = row_data c.args.row.now in
    let chain = chain_data c.args.source.now.levels.now.chain in
    let targets = c.in_ok-targets.targets.items in
    let places = c.in_ok-places.places.items in
    let products = c.args.products.now in
    let cases = c.in_ok-cases.cases.items in
    let steps = c.places_of.new.steps in
    let all_steps : AreSteps file.states steps =
    c.in_ok-places.ensures.within file.states (λ k target e.
    let h = states_within ready.sound_row c.in_ok-targets.ensures k target (rw c.deref.ensures.value at e) in
    omega (arith, h)) ready.source.steps in
    let are_places : ArePlaces chain targets steps places = rw c.deref.ensures.value at c.in_ok-places.ensures.places in
    let are_cases : AreCases (length products) products places targets cases =
    rw (c.deref-2.ensures.value, c.deref-3.ensures.value) at c.in_ok-cases.ensures in
    let grown : Grows file.states c.args.pairs.now
    (record { alloc = c.args.pairs.now.alloc; store = c.of_cases.new.self; steps = steps }) =
    record { keeps = c.of_cases.ensures.keeps; extends = c.in_ok-places.ensures.extends; steps = all_steps } in
    record {
      grows = whenever c.of_cases.result grown;
      node = both_made c.of_cases.result (λ node held leaf q of_state.
          let by : (letter : ℕ) → IsLeafByCases (λ case. meets (length file.names) case.product letter) cases (Some 0)
          (leaf_of c.of_cases.new.self node letter) =
          λ letter. subst (λ n. IsLeafByCases (λ case. meets n case.product letter) cases (Some 0)
          (leaf_of c.of_cases.new.self node letter)) ready.source.letters
          (rw c.deref_mut.ensures.value at (leaf letter)) in
          steps_of_row ready.sound ready.sound_row c.args.source.now.levels.now.few
          (joined_by_cases ready.sound_row c.in_ok-targets.ensures are_places c.requires.products are_cases by)
          all_steps
          are_places q of_state c.of_cases.new.self held
          (leaf_by_cases ready.sound_row c.in_ok-targets.ensures are_places c.requires.products are_cases by))
          c.of_cases.ensures.held c.of_cases.ensures.leaf;
    }
