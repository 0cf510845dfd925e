use Rattle.ps_translation.proofs.text.cover.+add_products.Given as goal

abbrev pub decreases-add_products : goal.decreases-add_products
decreases-add_products l = l.depth
