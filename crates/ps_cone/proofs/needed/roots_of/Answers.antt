use Rattle.std.proofs.Common.{◌≡◌, ◌++◌, ◌∷◌, [], ℕ, List, None, Option, Some, Vec, ap, sym, take, ◌∙◌}
use Rattle.std.specs.Global.{Global}
use Rattle.std.specs.List.{cons_option}
use Rattle.std.proofs.lemmas.List.{append-nil}
use Rattle.ps_circuit.specs.Drafts.{place_in}
use Rattle.ps_circuit.specs.Literals.{variable}
use Rattle.ps_cone.specs.Inner.Needed.{roots_of}
use Rattle.ps_cone.proofs.SourceLemmas.{chosen_more}
use Rattle.ps_cone.proofs.needed.roots_of.Goals as goal
use Rattle.ps_cone.proofs.needed.roots_of.Goals.{in-Some+in_ok-push, in_default}

pub loop-output-preserved : goal.loop-output-preserved
loop-output-preserved c =
    let variables = c.args.variables.now in
    let outputs = c.args.outputs.now in
    let i = c.loop-output.output-index in
    let old = roots_of variables (take i outputs) in
    let more = chosen_more (λ o. place_in variables (variable o)) outputs i c.output-item.result c.loop-output-test.true
    c.output-item.is in
    let seeks = ap (place_in variables) (c.from.ensures ∙ c.variable.ensures) in
    elim c.match-place.branch [
      | in-Some+in_ok-push w ↦
          let found : Some w.in-Some.place ≡ place_in variables (variable c.output-item.result) =
          w.in-Some.ensures.place ∙ seeks in
          ap (λ (v : Vec ℕ Global). v.items) w.roots-is ∙ w.in_ok-push.ensures.items
          ∙ ap (λ (l : List ℕ). l ++ w.in-Some.place ∷ []) c.loop-output.invariant
          ∙ ap (λ (x : Option ℕ). old ++ cons_option x []) found ∙ sym more
      | in_default w ↦
          let missing : None ≡ place_in variables (variable c.output-item.result) =
          w.in_default.ensures.place ∙ seeks in
          ap (λ (v : Vec ℕ Global). v.items) w.roots-is ∙ c.loop-output.invariant ∙ sym (append-nil old)
          ∙ ap (λ (x : Option ℕ). old ++ cons_option x []) missing ∙ sym more
    ]
