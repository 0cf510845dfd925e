use Rattle.std.proofs.Common.{arith, ◌≡◌, inl, inr}
use Rattle.std.proofs.lemmas.Bool.{cases_lt}
use Rattle.ps_diagram.proofs.TreesFromData.Alone.{bit_false}
use Rattle.ps_diagram.proofs.store.Store.first_tested.Goals as goal

pub loop-proposition-preserved : goal.loop-proposition-preserved
loop-proposition-preserved c = λ case there q low high b.
    let p = c.loop-proposition.proposition in
    let few = c.propositions-propositions.ensures.few in
    elim (cases_lt q p) [
      | inl before ↦ c.loop-proposition.invariant case there q low before b
      | inr at ↦
          let is : q ≡ p = omega arith in
          rw is (c.tested_by-tested.ensures case there p (omega arith)
          (bit_false c.tested_by-tested.result p c.if-tested-proposition-eq1.false) b)
    ]
