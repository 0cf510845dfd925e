use Rattle.ps_product.proofs.words.Words.words_differ.Goals as goal

pub returns : goal.returns
returns c = rw (← c.self.view_is) c.self.invariant
