use Rattle.std.proofs.Common.{◌∙◌, List, ℕ, sym, subst}
use Rattle.ps_ids.proofs.Members.{Contains-any, any-from_Contains}
use Rattle.ps_circuit.specs.Inner.NearAndFar.{AreKept}
use Rattle.ps_circuit.proofs.variables.Variables.push.Goals as goal

pub record-requires : goal.record-requires
record-requires c = λ le member.
    let there = sym (c.self.invariant.above c.args.variable le)
    ∙ any-from_Contains c.args.variable c.self.inside.far member in
    c.requires (rw (← c.self.view_is) (Contains-any c.args.variable c.self.inside.list.items there))

pub invariant_of-self : goal.invariant_of-self
invariant_of-self c = subst (λ (list : List ℕ). AreKept list c.self.inside.near.items c.self.inside.far)
    (sym c.reserve.ensures.items) c.self.invariant

pub invariant_of-self-in_err-record : goal.invariant_of-self-in_err-record
invariant_of-self-in_err-record c = c.in_err-record.ensures.err c.reserve.new.self.items
    (subst (λ (list : List ℕ). AreKept list c.self.inside.near.items c.self.inside.far)
    (sym c.reserve.ensures.items) c.self.invariant)

pub invariant_of-self-2 : goal.invariant_of-self-2
invariant_of-self-2 c = subst (λ (list : List ℕ). AreKept list c.record.new.near.items c.record.new.far)
    (sym c.push_reserved.ensures.items) (c.in_ok-record.ensures.ok c.reserve.new.self.items
    (subst (λ (list : List ℕ). AreKept list c.self.inside.near.items c.self.inside.far)
    (sym c.reserve.ensures.items) c.self.invariant))
