use Rattle.std.proofs.Common.{◌≡◌, ◌∙◌, Bool, ap, false, map, sym, true}
use Rattle.std.proofs.lemmas.Bool.Decides.{Decides-eqb}
use Rattle.std.proofs.lemmas.Slice.Eq.{slice_eq-Decides}
use Rattle.ps_tlsf.specs.NameViews.{name_data}
use Rattle.ps_tlsf.specs.Names.{names_in, outputs_in}
use Rattle.ps_tlsf.specs.SpecificationViews.{specification_data}
use Rattle.ps_specification.proofs.SameNames.{items_decided}
use Rattle.ps_specification.proofs.translating.has_propositions.Goals as goal

true_false : {b : Bool} → b ≡ false → b ≡ true → ⊥
true_false is_false is_true = cc

pub returns : goal.returns
returns c =
    let spec = specification_data c.args.specification.now in
    let a = c.args.automaton.now in
    let names = items_decided (λ v. v.items) c.names.result.now c.as_slice.result.now c.eq.result c.eq.ensures in
    let wanted : map (λ v. v.items) c.as_slice.result.now ≡ names_in spec.names =
    ap (λ vs. map (λ v. v.items) vs) c.as_slice.ensures.value ∙ c.in_ok-names.ensures ∙
    ap (λ ps. names_in (map name_data ps)) c.deref.ensures.value in
    let named : c.eq.result ≡ true → a.names ≡ names_in spec.names =
    (λ yes. sym c.names.ensures.names ∙ names.0 yes ∙ wanted) in
    let known : a.names ≡ names_in spec.names → c.eq.result ≡ true =
    (λ same. names.1 (c.names.ensures.names ∙ same ∙ sym wanted)) in
    elim c.if-eq.branch [
      | goal.then-eq w ↦
          let owned = slice_eq-Decides Decides-eqb w.controllable.result.now w.as_slice-then-eq.result.now
          w.eq-then-eq.result w.eq-then-eq.ensures in
          let outputs : w.as_slice-then-eq.result.now ≡ outputs_in spec.names =
          w.as_slice-then-eq.ensures.value ∙ c.in_ok-outputs.ensures ∙
          ap (λ ps. outputs_in (map name_data ps)) c.deref-2.ensures.value in (
            λ yes. (
              named w.if-eq.true,
              sym w.controllable.ensures.controllable ∙ owned.0 (sym w.result-is ∙ yes) ∙ outputs,
            ),
            λ has. w.result-is ∙ owned.1 (w.controllable.ensures.controllable ∙ has.1 ∙ sym outputs),
          )
      | goal.else-eq w ↦ (
        λ yes. absurd (true_false (w.result-is ∙ w.if-eq.false) yes),
        λ has. absurd (true_false w.if-eq.false (known has.0)),
      )
    ]
