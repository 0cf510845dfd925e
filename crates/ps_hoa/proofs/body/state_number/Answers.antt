use Rattle.std.proofs.Common.{rules}
use Rattle.ps_hoa.specs.Grammar.Header.{header_data}
use Rattle.ps_hoa.specs.Inner.Rows.{body_data}
use Rattle.ps_hoa.proofs.Grammar.HeaderSigns.{of_taken, reads_token}
use Rattle.ps_hoa.proofs.Reading.BodyReading.{int_signs}
use Rattle.ps_hoa.proofs.Reading.IntSigns.{row_new}
use Rattle.ps_hoa.proofs.body.state_number.Goals as goal

pub returns-clause-part : goal.returns-clause-part
returns-clause-part c = search (rules, reads_token, int_signs)

pub returns-clause-new : goal.returns-clause-new
returns-clause-new c =
    of_taken _ c.new_state_of.result _ (λ n t. row_new (header_data c.args.header.now) (body_data c.args.rows.now) n _
    t) c.new_state_of.ensures
