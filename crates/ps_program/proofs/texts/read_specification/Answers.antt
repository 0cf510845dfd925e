use Rattle.std.proofs.Common.{sym, ◌≡◌}
use Rattle.ps_tlsf.specs.Causes.{cause_number, cause_name}
use Rattle.ps_tlsf.specs.Names.{names_in}
use Rattle.ps_tlsf.specs.Reading.{answer_of}
use Rattle.ps_tlsf.specs.SpecificationViews.{specification_data}
use Rattle.ps_specification.proofs.DistinctNames.{are_distinct}
use Rattle.ps_program.proofs.ByCommand.OutcomeLemmas.{gives_parsed}
use Rattle.ps_program.proofs.texts.read_specification.Goals as goal

pub returns-in_err-read-clause-read : goal.returns-in_err-read-clause-read
returns-in_err-read-clause-read c = gives_parsed cause_number cause_name
    (λ answer. answer ≡ answer_of c.args.text.now) specification_data c.in_err-read.field-0.0 c.from_residual.result
    c.in_err-read.ensures.answer c.from_residual.ensures.1

pub returns-clause-parsed : goal.returns-clause-parsed
returns-clause-parsed c =
    let spec = specification_data c.in_ok-read.field-0 in
    record {
      roots = c.in_ok-read.ensures.roots;
      distinct = are_distinct (names_in spec.names)
          (c.names_differ.ensures.distinct c.args.text.now spec (sym c.in_ok-read.ensures.answer));
    }
