use Rattle.std.proofs.Common.{arith, ◌≡◌, false, refl, true}
use Rattle.ps_tlsf.specs.SpecificationViews.{specification_data}
use Rattle.ps_specification.proofs.TranslationReasons.{accepted_wrongly, not_compared, rejected_wrongly, translates}
use Rattle.ps_specification.proofs.translating.agrees.Goals as goal

false_true : false ≡ true → ⊥
false_true same = cc

pub returns-in-Ok-Agrees : goal.returns-in-Ok-Agrees
returns-in-Ok-Agrees c = λ file chain built. (
    let agree = rw c.in-Ok-Agrees.field-0-is at c.in-Ok-Agrees.ensures.agreement file chain built in
    let has = c.in_ok-has_propositions.ensures.0 (grind arith) in (
      λ yes. translates (specification_data c.args.specification.now) file chain c.args.automaton.now built has agree,
      λ of. refl,
    ))

pub returns-in-Ok-Accepts : goal.returns-in-Ok-Accepts
returns-in-Ok-Accepts c = λ file chain built. (
    let wrong = rw c.in-Ok-Accepts.field-0-is at c.in-Ok-Accepts.ensures.agreement file chain built in (
      λ no. absurd (false_true no),
      λ of. absurd (accepted_wrongly (specification_data c.args.specification.now) file chain c.args.automaton.now
          built c.in-Ok-Accepts.field-0-0.stem.items c.in-Ok-Accepts.field-0-0.lap.items wrong of),
    ))

pub returns-in-Ok-Rejects : goal.returns-in-Ok-Rejects
returns-in-Ok-Rejects c = λ file chain built. (
    let wrong = rw c.in-Ok-Rejects.field-0-is at c.in-Ok-Rejects.ensures.agreement file chain built in (
      λ no. absurd (false_true no),
      λ of. absurd (rejected_wrongly (specification_data c.args.specification.now) file chain c.args.automaton.now
          built c.in-Ok-Rejects.field-0-0.stem.items c.in-Ok-Rejects.field-0-0.lap.items wrong of),
    ))

pub returns-in-Err-Symbols : goal.returns-in-Err-Symbols
returns-in-Err-Symbols c = λ file chain built. (
    let refused = rw c.in-Err-Symbols.field-0-is at c.in-Err-Symbols.ensures.refused in (
      λ no. absurd (false_true no),
      λ of. absurd (not_compared (specification_data c.args.specification.now) file chain c.args.automaton.now built
          refused of),
    ))
