use Rattle.std.proofs.Common.{◌≤◌, Vec, arith, length, subst, sym, ◌∙◌, ℕ}
use Rattle.std.specs.Global.{Global}
use Rattle.ps_tableau_product.specs.Inner.Alphabets.{AreBitNodes, ArePlaceNodes}
use Rattle.ps_tableau_product.proofs.TableauStates.AlphabetLemmas.{alphabet_made}
use Rattle.ps_tableau_product.proofs.TableauStates.ComposedLemmas.{composed_none}
use Rattle.ps_tableau_product.proofs.MeetingLemmas.{meetings_none}
use Rattle.ps_tableau_product.proofs.alphabet.Alphabet.new.Goals as goal

pub returns : goal.returns
returns c = λ guards many.
    let t = c.whole_nodes.new.store in
    let plan = c.args.plan in
    let each = c.in_ok-whole.ensures.each in
    let whole_is = c.new-guards.ensures.truths in
    let own_is = c.new-steps.ensures.truths in
    let bits = subst (λ (n : ℕ). AreBitNodes t n c.in_ok-whole.whole.items) c.new-store.ensures.propositions
    c.in_ok-whole.ensures.nodes in
    let places = alphabet_made plan.few each bits plan.known
    (rw c.deref.ensures.value at c.in_ok-own.ensures) in
    let whole = subst (λ (nodes : Vec ℕ Global). AreBitNodes t plan.count nodes.items) (sym whole_is) bits in
    let own = subst (λ (nodes : Vec ℕ Global). ArePlaceNodes t plan.places.now nodes.items) (sym own_is) places in
    let for_guards : guards.propositions ≤ length c.new-guards.result.truths.items =
    subst (λ (nodes : Vec ℕ Global). guards.propositions ≤ length nodes.items) (sym whole_is)
    (omega (arith, each, many))
    in
    let letters = c.parts_fit.ensures.letters in
    let for_steps : plan.automaton.now.store.propositions ≤ length c.new-steps.result.truths.items =
    subst (λ (nodes : Vec ℕ Global). plan.automaton.now.store.propositions ≤ length nodes.items) (sym own_is)
    (omega (arith, letters, plan.one_each, places.one_each)) in
    record {
      propositions = c.whole_nodes.ensures.keeps.propositions ∙ c.new-store.ensures.propositions;
      whole = whole;
      own = own;
      of_guards = composed_none c.new-guards.result c.new-guards.ensures.known for_guards whole.held;
      of_steps = composed_none c.new-steps.result c.new-steps.ensures.known for_steps own.held;
      of_pairs = meetings_none c.new-meetings.result c.new-meetings.ensures.pairs c.new-meetings.ensures.found;
    }
