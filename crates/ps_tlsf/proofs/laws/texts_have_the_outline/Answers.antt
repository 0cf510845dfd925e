use Rattle.ps_tlsf.proofs.OutlinedTexts.OutlineTexts.{texts_outlined}
use Rattle.ps_tlsf.proofs.laws.texts_have_the_outline.Goals as goal

pub returns : goal.returns
returns c = texts_outlined
