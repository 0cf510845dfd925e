use Rattle.ps_tlsf.proofs.OutlinedTexts.OutlineTexts.{ends_at_end, refused_fits_nowhere}
use Rattle.ps_tlsf.proofs.laws.refused_texts_lack_the_outline.Goals as goal

pub returns-clause-refused : goal.returns-clause-refused
returns-clause-refused c = refused_fits_nowhere

pub returns-clause-unfinished : goal.returns-clause-unfinished
returns-clause-unfinished c = ends_at_end
