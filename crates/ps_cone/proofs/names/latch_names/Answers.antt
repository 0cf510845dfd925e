use Rattle.std.proofs.Common.{◌<◌, ◌++◌, ◌∷◌, [], ℕ, List, None, Option, Vec, ap, get_or, length, map, sym, take, ◌∙◌}
use Rattle.std.proofs.Common.{arith}
use Rattle.std.specs.Global.{Global}
use Rattle.std.proofs.lemmas.List.{get_or_default, map-append}
use Rattle.ps_circuit.specs.Drafts.{name_bytes}
use Rattle.ps_cone.specs.Parts.{selected}
use Rattle.ps_cone.proofs.SelectedLemmas.{selected_kept, selected_lost, selected_none}
use Rattle.ps_cone.proofs.names.latch_names.Goals as goal
use Rattle.ps_cone.proofs.names.latch_names.Goals.{then-needed-latch+in_ok-name+in_ok-push, else-needed-latch}

pub loop-latch-init : goal.loop-latch-init
loop-latch-init c = ap (map name_bytes) c.new-names.ensures.items ∙ sym (selected_none c.args.needed.now)

pub loop-latch-preserved : goal.loop-latch-preserved
loop-latch-preserved c =
    let i = c.loop-latch.latch in
    let needed = c.args.needed.now in
    let names = c.args.circuit.now.latch_names in
    let lt : i < length names = omega (
      arith,
      c.loop-latch-test.true,
      c.latches-latch-end.ensures.well_formed.draft.latches_named,
      ap length c.latches-latch-end.ensures.latches,
    ) in
    let lk : i < length needed = omega (
      arith,
      c.loop-latch-test.true,
      c.requires,
      ap length c.latches-latch-end.ensures.latches,
    ) in
    let own = get_or names i None in
    elim c.if-needed-latch.branch [
      | then-needed-latch+in_ok-name+in_ok-push w ↦
          let old = c.loop-latch.names.items in
          let name = w.in_ok-name.name in
          ap (λ (v : Vec (Option (Vec ℕ Global)) Global). map name_bytes v.items) w.names-is
          ∙ ap (map name_bytes) w.in_ok-push.ensures.items ∙ map-append name_bytes old (name ∷ [])
          ∙ ap (λ (l : List (Option (List ℕ))). l ++ name_bytes name ∷ []) c.loop-latch.invariant
          ∙ ap (λ (n : Option (List ℕ)). selected needed (take i names) ++ n ∷ [])
          (w.in_ok-name.ensures ∙ w.latch_name.ensures)
          ∙ sym (selected_kept needed names i own lk lt w.if-needed-latch.true (get_or_default names i None own lt))
      | else-needed-latch w ↦
          ap (λ (v : Vec (Option (Vec ℕ Global)) Global). map name_bytes v.items) w.names-is ∙ c.loop-latch.invariant
          ∙ sym (selected_lost needed names i w.if-needed-latch.false)
    ]
