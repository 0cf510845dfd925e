use Rattle.std.proofs.Common.{arith, sym}
use Rattle.ps_text.proofs.Combinators.Simple.{same_some}
use Rattle.ps_hoa.specs.Grammar.Header.{header_data}
use Rattle.ps_hoa.proofs.body.is_end_wrong.Goals as goal

pub returns-in-Some : goal.returns-in-Some
returns-in-Some c =
    let h = header_data c.args.header.now in
    let w = c.has_wrong_count.ensures h (sym c.propositions.ensures) in grind (arith, same_some)
