use Rattle.std.proofs.Common.{◌≡◌, ◌∙◌, length, arith, ap, sym}
use Rattle.std.proofs.lemmas.List.{length-map}
use Rattle.ps_hoa.specs.Memory.{bytes_of}
use Rattle.ps_mixing.specs.Orders.{mixing_of, place_in}
use Rattle.ps_mixing.proofs.MixedParts.{from_names}
use Rattle.ps_mixing.proofs.file.propositions_mixed.Goals as goal

pub names_mixed-requires-clause-few : goal.names_mixed-requires-clause-few
names_mixed-requires-clause-few c =
    let count : length c.names.result.now ≡ length c.args.file.now.names =
    sym (length-map c.names.result.now bytes_of) ∙ ap length c.names.ensures.value in
    omega (arith, count, c.names.ensures.well_formed.few_names)

pub names_mixed-requires-clause-within : goal.names_mixed-requires-clause-within
names_mixed-requires-clause-within c = λ p less.
    let count : length c.names.result.now ≡ length c.args.file.now.names =
    sym (length-map c.names.result.now bytes_of) ∙ ap length c.names.ensures.value in
    let there = from_names c.args.file.now (mixing_of c.args.order.now) c.requires p (omega (arith, less, count)) in
    let same : place_in c.deref.result.now p ≡ place_in c.args.order.now.from.items p =
    ap (λ table. place_in table p) c.deref.ensures.value in
    omega (arith, there, same, count)
