use Rattle.std.proofs.Common.{◌≡◌, ◌^◌, ◌<◌, ℕ, All, Bool, List, length, map, subst, sym, ◌∙◌}
use Rattle.std.proofs.lemmas.List.{length-map}
use Rattle.ps_circuit.specs.Values.{Steps}
use Rattle.ps_diagram.specs.Table.{Keeps}
use Rattle.ps_diagram.proofs.NodeTables.KnownLemmas.{keeps_trans}
use Rattle.ps_hoa.specs.Memory.{bytes_of}
use Rattle.ps_product.specs.Truths.{IsTruth, bits_at, bits_of}
use Rattle.ps_product.proofs.CircuitFunctions.GroupLemmas.{bits_same}
use Rattle.ps_product.proofs.CircuitFunctions.TruthNodes.{truths_kept}
use Rattle.ps_tableau_product.specs.Inner.Views.{ArePadded}
use Rattle.ps_tableau_product.proofs.TableauStates.Scenes.{is_scene, roles_given}
use Rattle.ps_tableau_product.proofs.TableauStates.ViewLemmas.{are_views, padded_kept, tell_made}
use Rattle.ps_tableau_product.proofs.plan.Plan.diagrams.Goals as goal

pub grouped-requires-clause-truths : goal.grouped-requires-clause-truths
grouped-requires-clause-truths c =
    rw c.deref-2.ensures.value (truths_kept c.args.evaluated.outcome.nexts.items
    (keeps_trans c.nodes.ensures.keeps c.leaf.ensures.keeps) c.requires.nexts)

pub returns : goal.returns
returns c = λ latches wide outcome.
    let circuit = c.args.self.circuit.now in
    let ins = c.args.self.roles.now.inputs.items in
    let list = c.args.self.roles.now.outputs.items in
    let outs = c.args.evaluated.outcome.outputs.items in
    let nexts = c.args.evaluated.outcome.nexts.items in
    let t = c.args.evaluated.store in
    let u = c.grouped.new.store in
    let is = c.parts_fit.ensures in
    let scene = is_scene c.args.self.distinct (roles_given c.args.self.cast) in
    let n : Keeps t c.nodes.new.store = c.nodes.ensures.keeps in
    let l = c.in_ok-whole.ensures in
    let g = c.grouped.ensures.keeps in
    let later = keeps_trans l.keeps g in
    let all = keeps_trans n later in
    let first : ArePadded c.nodes.new.store (length c.args.self.names.now) list outs c.in_ok-nodes.nodes.items =
    rw c.deref.ensures.value at c.in_ok-nodes.ensures.nodes in
    let nodes = c.in_ok-nodes.nodes.items in
    let named : length (map bytes_of c.args.self.names.now) ≡ length c.args.self.names.now =
    length-map c.args.self.names.now bytes_of in
    let each : length list ≡ length outs = sym c.requires.one_each in
    let outs_held = truths_kept outs n c.requires.outputs in
    let padded : ArePadded u (length c.args.self.names.now) list outs nodes =
    padded_kept each outs_held later c.args.self.few first in
    let padded_here : ArePadded u (length (map bytes_of c.args.self.names.now)) list outs nodes =
    subst (λ (count : ℕ). ArePadded u count list outs nodes) (sym named) padded in
    let nexts_held : All (IsTruth c.leaf.new.self) nexts =
    truths_kept nexts (keeps_trans n l.keeps) c.requires.nexts in
    let grouped = rw c.deref-2.ensures.value at c.in_ok-classes.ensures.grouped in
    let tell = tell_made l.leaf g padded.each padded.held nexts_held c.in_ok-classes.ensures.held grouped in
    let size : length ins ≡ length circuit.inputs =
    scene.roles.inputs_each ∙ is.draft.inputs_named in
    let there : (x : ℕ) → x < 2 ^ u.propositions →
    Steps circuit latches (bits_at ins x) (bits_of u outs x) (bits_of u nexts x) = λ x lt.
    let low : x < 2 ^ t.propositions = rw (← all.propositions) lt in
    rw (bits_same outs all c.requires.outputs x, bits_same nexts all c.requires.nexts x)
    (c.outcome_is_the_step.ensures.there circuit ins latches t outs nexts x is size wide outcome low) in
    let one : (x : ℕ) (answer next : List Bool) → x < 2 ^ u.propositions →
    Steps circuit latches (bits_at ins x) answer next →
    (answer ≡ bits_of u outs x) × (next ≡ bits_of u nexts x) = λ x answer next lt s.
    let low : x < 2 ^ t.propositions = rw (← all.propositions) lt in
    let r = c.outcome_is_the_step.ensures.one circuit ins latches t outs nexts x answer next outcome low s in
    (r.0 ∙ sym (bits_same outs all c.requires.outputs x), r.1 ∙ sym (bits_same nexts all c.requires.nexts x)) in
    let propositions : u.propositions ≡ length (map bytes_of c.args.self.names.now) =
    all.propositions ∙ c.requires.store ∙ sym named in
    are_views scene c.requires.one_each padded_here is propositions tell there one
