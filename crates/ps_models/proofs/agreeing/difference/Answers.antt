use Rattle.std.proofs.Common.{◌≡◌, ◌^◌, cond, length, subst, sym, ◌∙◌, ℕ}
use Rattle.std.proofs.lemmas.List.{length-map}
use Rattle.ps_automaton.specs.Automata.{auto_of}
use Rattle.ps_formula.specs.Formulas.{not_of}
use Rattle.ps_hoa.specs.Memory.{bytes_of}
use Rattle.ps_product.proofs.CircuitFunctions.GroupLemmas.{ok_map}
use Rattle.ps_tableau_product.specs.JointGraphs.{IsJointOf}
use Rattle.ps_tableau_product.specs.Joints.{read_by}
use Rattle.ps_models.specs.Sentences.{named_formula}
use Rattle.ps_models.proofs.ComparedAutomata.Halves.{built_places, half_told}
use Rattle.ps_models.proofs.agreeing.difference.Goals as goal

pub returns : goal.returns
returns c = ok_map _ _ c.lasso_of.result c.lasso_of.ensures (λ told is file chain built.
    let f = named_formula c.args.sentence in
    let own = c.args.plan.automaton.now in
    let places = c.args.plan.places.now in
    let count : c.args.plan.count ≡ length f.names =
    c.requires.count ∙ sym (length-map c.args.sentence.names.now bytes_of) in
    let made = subst (λ (n : ℕ). IsJointOf (auto_of own) (read_by places) (2 ^ n)
    (cond c.args.accepts (not_of f.formula) f.formula) c.in_ok-graph.graph) count c.in_ok-graph.ensures in
    half_told built.is_chain built.auto c.args.sentence.distinct
    (built_places file chain own f places built c.requires.places) c.args.accepts told made is)
