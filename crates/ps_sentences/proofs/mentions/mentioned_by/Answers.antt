use Rattle.ps_sentences.proofs.MentionLemmas.{node_mentioned, one_mentioned}
use Rattle.ps_sentences.proofs.mentions.mentioned_by.Goals as goal

pub returns-in-Proposition : goal.returns-in-Proposition
returns-in-Proposition c known each p =
    rw c.in-Proposition.is (one_mentioned c.in-Proposition.p (rw c.in-Proposition.is at c.requires) p)

pub returns-in-And : goal.returns-in-And
returns-in-And c known each =
    node_mentioned each c.args.node c.in-And.f c.in-And.g c.requires c.in-And.is
