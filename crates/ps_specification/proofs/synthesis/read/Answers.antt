use Rattle.std.proofs.Common.{sym}
use Rattle.ps_tlsf.specs.Names.{names_in}
use Rattle.ps_tlsf.specs.SpecificationViews.{specification_data}
use Rattle.ps_specification.proofs.DistinctNames.{are_distinct}
use Rattle.ps_specification.proofs.synthesis.read.Goals as goal

pub returns-clause-sound : goal.returns-clause-sound
returns-clause-sound c =
    let spec = specification_data c.in_ok-read.field-0 in
    record {
      roots = c.in_ok-read.ensures.roots;
      distinct = are_distinct (names_in spec.names)
          (c.names_differ.ensures.distinct c.args.text.now spec (sym c.in_ok-read.ensures.answer));
    }
