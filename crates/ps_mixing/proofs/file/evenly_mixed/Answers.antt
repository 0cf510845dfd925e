use Rattle.std.specs.Prelude.{IfOk}
use Rattle.std.proofs.Common.{ℕ, List, length, Result, Ok, Err, ◌≡◌, ◌∙◌, ap, subst, sym}
use Rattle.std.proofs.lemmas.List.{length-map}
use Rattle.ps_hoa.specs.Files.{FileData, is_among}
use Rattle.ps_hoa.specs.Memory.{bytes_of}
use Rattle.ps_mixing.specs.MixedFiles.{IsMixingOf, mixed_file}
use Rattle.ps_mixing.specs.MixedOrSame.{IsMixedFrom}
use Rattle.ps_mixing.specs.Mixings.{IsMixing, Mixing}
use Rattle.ps_mixing.specs.Orders.{mixing_of}
use Rattle.ps_mixing.proofs.file.evenly_mixed.Goals as goal

made_mixed : {E : Type 0} (file : FileData) (mixing : Mixing) → IsMixingOf file mixing → (r : Result FileData E) →
    IfOk r (λ made. made ≡ mixed_file mixing file) → IfOk r (IsMixedFrom file)
made_mixed file mixing is (Ok made) same = (mixing, is, same)
made_mixed file mixing is (Err fault) same = tt

pub returns-clause-mixed : goal.returns-clause-mixed
returns-clause-mixed c =
    let file = c.args.file.now in
    let mixing : Mixing = mixing_of c.in_ok-order.order in
    let names = c.names.result.now in
    let many : length names ≡ length file.names = sym (length-map names bytes_of) ∙ ap length c.names.ensures.value in
    let is : IsMixingOf file mixing = subst (λ (n : ℕ). IsMixing n (λ p. is_among p file.controllable) mixing) many
    (subst (λ (ps : List ℕ). IsMixing (length names) (λ p. is_among p ps) mixing) c.controllable.ensures.value
    c.in_ok-order.ensures) in
    made_mixed file mixing is c.mixed-made.result c.mixed-made.ensures
