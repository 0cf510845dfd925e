use Rattle.std.proofs.Common.{◌∙◌, sym, ap, length, eqb, arith}
use Rattle.std.proofs.lemmas.Bool.{ne_eqb}
use Rattle.ps_text.proofs.BytesAndDigits.Bytes.Moves.{left_in}
use Rattle.ps_text.proofs.cursor.Cursor.is_at_end.Goals as goal

pub returns-else-self : goal.returns-else-self
returns-else-self c = ne_eqb c.self.inside.at (length c.self.inside.text.now) c.if-self.false
    ∙ sym (left_in c.self.inside.text.now c.self.inside.at c.self.inside.unended
    (omega (arith, c.self.invariant.within, c.if-self.false)))
    ∙ ap (λ s. eqb (length s.pieces) 0) c.self.view_is
