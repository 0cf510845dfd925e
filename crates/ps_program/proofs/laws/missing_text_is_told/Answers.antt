use Rattle.ps_program.proofs.AtMostOne.MissingTexts.{texts_needed}
use Rattle.ps_program.proofs.laws.missing_text_is_told.Goals as goal

pub returns : goal.returns
returns g c = texts_needed g.F.KnownFinders.finders
