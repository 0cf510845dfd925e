use Rattle.std.proofs.Common.{◌≡◌, ap, length, refl, sym, ◌∙◌}
use Rattle.std.proofs.lemmas.List.{length-map}
use Rattle.ps_product.specs.declared.edges.Edge as product
use Rattle.ps_tableau_product.specs.Inner.Exploring.{Grew}
use Rattle.ps_tableau_product.proofs.FairProducts.AddLemmas.{on_ok}
use Rattle.ps_tableau_product.proofs.FairProducts.AppendLemmas.{appended}
use Rattle.ps_tableau_product.proofs.exploring.append.Goals as goal

pub extend-requires : goal.extend-requires
extend-requires c =
    let e = c.in_ok-numbered.ensures in
    let many : length c.in_ok-numbered.numbered.letters.items ≡ length c.in_ok-numbered.numbered.numbers.items =
    ap length e.letters_are ∙ length-map c.args.edges.items (λ (d : product.Edge). d.letter) ∙ sym e.numbers_each in
    rw (c.deref.ensures.value, c.deref-2.ensures.value) many

pub returns : goal.returns
returns c = on_ok c.extend.result c.extend.ensures (λ grew.
    let numbers = c.in_ok-numbered.numbered.numbers.items in
    let letters = c.in_ok-numbered.numbered.letters.items in
    let here : Grew numbers letters c.args.cover.now c.args.row.now.items c.extend.new.row.items (length numbers) =
    rw (c.deref.ensures.value, c.deref-2.ensures.value) at grew in
    appended c.in_ok-numbered.ensures refl here)
