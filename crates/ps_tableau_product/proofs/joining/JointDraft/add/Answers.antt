use Rattle.std.proofs.Common.{◌≡◌, ◌^◌, arith, ap, length, refl, subst, sym}
use Rattle.ps_diagram.specs.Table.{IsNode, Table}
use Rattle.ps_tableau.specs.declared.board.Board.{Board}
use Rattle.ps_tableau_product.specs.Inner.Alphabets.{AreMet, IsAlphabet}
use Rattle.ps_tableau_product.specs.Inner.Joining.{JointDraftData, joint_draft, pairing_of, visited}
use Rattle.ps_tableau_product.proofs.FairProducts.AddLemmas.{on_any, on_ok}
use Rattle.ps_tableau_product.proofs.JointProducts.JointAdds.{adds_joint, adds_no_joint}
use Rattle.ps_tableau_product.proofs.TableauStates.StateLemmas.{cover_held}
use Rattle.ps_tableau_product.proofs.joining.JointDraft.add.Goals as goal
use Rattle.ps_tableau_product.proofs.joining.JointDraft.add.Goals.{In_ok-met}

is_met : (c : In_ok-met) → AreMet (2 ^ c.args.plan.count) c.args.plan.places.now c.args.plan.automaton.now
    c.args.visit.now.own c.args.self.now.states.tableau.guards c.args.cover.now.guard c.in_ok-met.met.items
is_met c = subst (λ (t : Table). AreMet (2 ^ c.args.plan.count) c.args.plan.places.now c.args.plan.automaton.now
    c.args.visit.now.own t c.args.cover.now.guard c.in_ok-met.met.items) c.guards.ensures c.in_ok-met.ensures.met

is_alphabet : (c : In_ok-met) → IsAlphabet c.args.plan c.args.self.now.states.tableau.guards c.met.new.self
is_alphabet c = subst (λ (t : Table). IsAlphabet c.args.plan t c.met.new.self) c.guards.ensures
    c.in_ok-met.ensures.alphabet

pub met-requires : goal.met-requires
met-requires c =
    let visit = c.requires.visit in
    let same = sym c.guards.ensures in
    let held = cover_held visit.paired.states c.args.visit.now.state visit.covers c.args.cover.now c.requires.cover in
    record {
      alphabet = subst (λ (t : Table). IsAlphabet c.args.plan t c.args.alphabet.now) same visit.alphabet;
      is_node = subst (λ (t : Table). IsNode t c.args.cover.now.guard) same held.guard;
      within = visit.own;
    }

pub returns-then-is_empty-clause-alphabet : goal.returns-then-is_empty-clause-alphabet
returns-then-is_empty-clause-alphabet c = is_alphabet (goal.at.returns-then-is_empty-clause-alphabet c).In_ok-met

pub returns-then-is_empty-clause-adds : goal.returns-then-is_empty-clause-adds
returns-then-is_empty-clause-adds c =
    let at = (goal.at.returns-then-is_empty-clause-adds c).In_ok-met in
    let none : length c.in_ok-met.met.items ≡ 0 = grind arith in
    adds_no_joint (pairing_of c.args.plan) (joint_draft c.args.self.now) (visited c.args.visit.now) c.args.cover.now
    c.in_ok-met.met.items c.requires.visit.paired c.parts_fit.ensures c.requires.visit.own (is_met at)
    c.requires.cover c.args.row.now.items none

pub returns-clause-alphabet : goal.returns-clause-alphabet
returns-clause-alphabet c =
    let at = (goal.at.returns-clause-alphabet c).In_ok-met in
    let same = ap (λ (b : Board). b.guards) (sym c.in_ok-state.ensures.board) in
    on_any c.join.result (subst (λ (t : Table). IsAlphabet c.args.plan t c.met.new.self) same (is_alphabet at))

pub returns-clause-adds : goal.returns-clause-adds
returns-clause-adds c =
    let at = (goal.at.returns-clause-adds c).In_ok-met in
    let new : JointDraftData = joint_draft (record {
      states = c.number_of.new.self;
      vertices = c.join.new.vertices;
      rows = c.args.self.now.rows;
    }) in
    on_ok c.join.result c.join.ensures (λ joins.
    adds_joint (pairing_of c.args.plan) (joint_draft c.args.self.now) (visited c.args.visit.now) c.args.cover.now
    c.in_ok-met.met.items c.requires.visit.paired c.parts_fit.ensures c.requires.visit.own (is_met at)
    c.requires.cover new c.in_ok-state.ensures (rw c.deref.ensures.value at joins) refl)
