use Rattle.std.proofs.Common.{◌≡◌, ◌^◌, ◌<◌, None, Option, ap, refl, sym, subst, ◌∙◌, ℕ}
use Rattle.ps_automaton.specs.Automata.{node_of}
use Rattle.ps_diagram.specs.Leaves.{chosen}
use Rattle.ps_diagram.specs.Table.{IsNode, Table, leaf_of}
use Rattle.ps_diagram.proofs.NodeTables.Cells.{keeps_refl}
use Rattle.ps_diagram.proofs.NodeTables.KnownLemmas.{keeps_trans, keeps_three}
use Rattle.ps_diagram.proofs.TreeOperations.Truths.{leaf_kept}
use Rattle.ps_product.proofs.CircuitFunctions.GroupLemmas.{ok_map}
use Rattle.ps_tableau_product.specs.Inner.Composing.{AreComposed}
use Rattle.ps_tableau_product.specs.Joints.{read_by}
use Rattle.ps_tableau_product.proofs.FairProducts.AddLemmas.{on_any}
use Rattle.ps_tableau_product.proofs.TableauStates.AlphabetLemmas.{alphabet_more, are_met, bits_kept, own_letter}
use Rattle.ps_tableau_product.proofs.TableauStates.AlphabetLemmas.{places_kept}
use Rattle.ps_tableau_product.proofs.TableauStates.AlphabetLemmas.{whole_letter}
use Rattle.ps_tableau_product.proofs.TableauStates.ComposedLemmas.{composed_kept}
use Rattle.ps_tableau_product.proofs.alphabet.Alphabet.met_anew.Goals as goal

pub diagram-requires : goal.diagram-requires
diagram-requires c =
    let same = sym c.store-store.ensures.store in
    record {
      composed = subst (λ (t : Table). AreComposed c.args.self.now.store t c.args.self.now.steps) same
          c.requires.alphabet.of_steps;
      node = subst (λ (t : Table). IsNode t c.node-node.result) same c.node-node.ensures.held;
    }

pub diagram-requires-2 : goal.diagram-requires-2
diagram-requires-2 c = record {
  composed = composed_kept c.args.self.now.guards c.in_ok-steps.ensures.keeps (keeps_refl c.args.guards.now)
      c.requires.alphabet.of_guards;
  node = c.requires.is_node;
}

pub returns-clause-alphabet : goal.returns-clause-alphabet
returns-clause-alphabet c =
    let first = c.in_ok-steps.ensures in
    let second = c.in_ok-guard.ensures in
    let last = keeps_trans c.in_ok-none.ensures.keeps c.in_ok-met.ensures.keeps in
    let t = c.choose.new.self in
    let steps = c.diagram.new.self in
    let guards = c.diagram-2.new.self in
    on_any c.leaves.result (alphabet_more c.args.self.now (record {
      store = t;
      guards = guards;
      steps = steps;
      meetings = c.args.self.now.meetings;
    })
    (keeps_three first.keeps second.keeps last) second.truths first.truths refl
    (composed_kept guards last (keeps_refl c.args.guards.now) second.composed)
    (subst (λ (other : Table). AreComposed t other steps) c.store-store.ensures.store
    (composed_kept steps (keeps_trans second.keeps last) (keeps_refl c.store-store.result.now) first.composed))
    c.requires.alphabet)

pub returns-clause-met : goal.returns-clause-met
returns-clause-met c =
    let t = c.choose.new.self in
    let before = c.none.new.self in
    let a = c.args.plan.automaton.now in
    let count = c.args.plan.count in
    let places = c.args.plan.places.now in
    let guards = c.args.guards.now in
    let self = c.args.self.now in
    let is_alphabet = c.requires.alphabet in
    let first = c.in_ok-steps.ensures in
    let second = c.in_ok-guard.ensures in
    let third = c.in_ok-none.ensures in
    let fourth = c.in_ok-met.ensures in
    let read = places_kept self.steps.truths.items first.keeps is_alphabet.own in
    let whole = bits_kept self.guards.truths.items (keeps_trans first.keeps second.keeps) is_alphabet.whole in
    let all = keeps_trans (keeps_three first.keeps second.keeps third.keeps) fourth.keeps in
    let is : (letter : ℕ) → letter < 2 ^ count → leaf_of t c.in_ok-met.met letter ≡
    chosen (leaf_of guards c.args.guard letter) (leaf_of a.store (node_of a c.args.own) (read_by places letter)) None =
    λ letter low.
    let guard : leaf_of before c.in_ok-guard.guard letter ≡ leaf_of guards c.args.guard letter =
    leaf_kept letter third.keeps second.made.held
    ∙ second.made.leaf letter letter (whole_letter whole letter low) in
    let step : leaf_of before c.in_ok-steps.steps letter ≡
    leaf_of a.store (node_of a c.args.own) (read_by places letter) =
    leaf_kept letter (keeps_trans second.keeps third.keeps) first.made.held
    ∙ first.made.leaf letter (read_by places letter) (own_letter read letter)
    ∙ ap (λ (other : Table). leaf_of other c.node-node.result (read_by places letter)) c.store-store.ensures.store
    ∙ ap (λ (n : ℕ). leaf_of a.store n (read_by places letter)) c.node-node.ensures.node in
    fourth.leaf letter
    ∙ ap (λ (o : Option ℕ). chosen o (leaf_of before c.in_ok-steps.steps letter)
    (leaf_of before c.in_ok-none.none letter)) guard
    ∙ ap (λ (o : Option ℕ). chosen (leaf_of guards c.args.guard letter) o
    (leaf_of before c.in_ok-none.none letter)) step
    ∙ ap (λ (o : Option ℕ). chosen (leaf_of guards c.args.guard letter)
    (leaf_of a.store (node_of a c.args.own) (read_by places letter)) o) (third.leaf letter) in
    ok_map _ _ c.leaves.result c.leaves.ensures (λ found leaves.
    are_met t count places a c.args.own guards c.args.guard c.in_ok-met.met found.items c.store-store.ensures.whole
    c.requires.within (all.propositions ∙ is_alphabet.propositions) is leaves)
