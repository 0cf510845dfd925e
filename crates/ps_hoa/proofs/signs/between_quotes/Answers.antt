use Rattle.ps_hoa.proofs.Soundness.NameSets.{inside-range}
use Rattle.ps_hoa.proofs.signs.between_quotes.Goals as goal

pub returns : goal.returns
returns c = inside-range c.args.text.now
