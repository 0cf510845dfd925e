use Rattle.std.proofs.Common.{arith, ◌≡◌, ◌∙◌, ℕ, [], ap}
use Rattle.std.specs.Prelude.{length}
use Rattle.std.proofs.lemmas.List.{length-map}
use Rattle.ps_models.specs.AgreementFaultNames.{fault_number}
use Rattle.ps_models.specs.declared.agreement.AgreementFault.TheVariants.{Symbols}
use Rattle.ps_tlsf.specs.NameViews.{name_data}
use Rattle.ps_tlsf.specs.SpecificationViews.{specification_data}
use Rattle.ps_program.specs.Commands.Comparing.{agreement_text}
use Rattle.ps_program.specs.Replies.{text_reply}
use Rattle.ps_program.specs.Faults.{line_text}
use Rattle.ps_program.proofs.ByCommand.CompareLemmas.{are_of_automaton}
use Rattle.ps_program.proofs.commands.agree.tell.Goals as goal

pub returns-in_ok-agreement_text-in-Ok : goal.returns-in_ok-agreement_text-in-Ok
returns-in_ok-agreement_text-in-Ok c = λ file chain built. (
    let spec = specification_data c.args.specification.now in
    let given = c.args.specification.now.propositions in
    let agreement = c.in-Ok.agreement in
    let counted : c.len-count.result ≡ length spec.names =
    omega (arith, length-map given.items name_data, given.ok.0, c.len-count.ensures) in (
      agreement,
      c.in-Ok.ensures.agreement file chain built,
      c.text.ensures ∙ ap text_reply (c.in_ok-agreement_text-in-Ok.ensures ∙ ap (λ (n : ℕ). agreement_text n agreement)
          counted),
    ))

pub returns-in-Err-Symbols : goal.returns-in-Err-Symbols
returns-in-Err-Symbols c = λ file chain built. (
    let refused = rw c.in-Err-Symbols.field-0-is at c.in-Err-Symbols.ensures.refused in (
      λ are. refused (are_of_automaton (specification_data c.args.specification.now) file chain c.args.automaton.now
          built are),
      ap (λ number. line_text number c.name.result.now []) c.number.ensures ∙
          ap (λ name. line_text (fault_number Symbols) name []) c.name.ensures,
    ))
