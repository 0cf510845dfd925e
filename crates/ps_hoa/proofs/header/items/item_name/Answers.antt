use Rattle.ps_hoa.specs.Grammar.Header.{header_data}
use Rattle.ps_hoa.proofs.Grammar.HeaderSigns.{reads_token, signs_item}
use Rattle.ps_hoa.proofs.header.items.item_name.Goals as goal

pub returns : goal.returns
returns c = reads_token (λ i. i) (signs_item (header_data c.args.header.now)) _ _ _ _ c.item_name_of.ensures
    c.advance-token.ensures.next c.advance-token.ensures.rest
