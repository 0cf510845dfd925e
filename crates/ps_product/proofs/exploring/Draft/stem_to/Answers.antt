use Rattle.std.proofs.Common.{◌≡◌, arith}
use Rattle.ps_product.specs.Inner.Exploring.{IsLedBy}
use Rattle.ps_product.specs.Inner.Plans.{setting_of}
use Rattle.ps_product.specs.Truths.{bits_at}
use Rattle.ps_product.proofs.ExploredProducts.NotedLeads.{stem_is, stem_more}
use Rattle.ps_product.proofs.exploring.Draft.stem_to.Goals as goal

pub loop-place-smaller : goal.loop-place-smaller
loop-place-smaller c =
    let led : IsLedBy (setting_of c.args.plan) c.args.self.now.vertices c.in-Some.lead c.loop-place.place =
    c.requires.noted.noted c.loop-place.place c.in-Some.lead c.in-Some.ensures c.loop-place-test.true in
    led.earlier

pub loop-place-preserved : goal.loop-place-preserved
loop-place-preserved c = λ last ends.
    let lead = c.in-Some.lead in
    let led : IsLedBy (setting_of c.args.plan) c.args.self.now.vertices lead c.loop-place.place =
    c.requires.noted.noted c.loop-place.place lead c.in-Some.ensures c.loop-place-test.true in
    let inputs = c.in_ok-inputs_in.field-0 in
    let inputs_are : inputs.items ≡ bits_at c.args.plan.roles.now.inputs.items lead.letter =
    rw c.deref.ensures.value at c.in_ok-inputs_in.ensures in
    rw c.in_ok-push.ensures.items
    (stem_more c.loop-place.stem.items inputs led inputs_are (c.loop-place.invariant last ends))

pub returns : goal.returns
returns c = stem_is c.args.vertex c.loop-place.stem.items c.reverse.new.self.items c.requires.noted.first
    (omega (arith, c.loop-place-test.false)) c.loop-place.invariant c.reverse.ensures.items
