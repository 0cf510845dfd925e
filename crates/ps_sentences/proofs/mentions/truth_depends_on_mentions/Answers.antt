use Rattle.ps_sentences.proofs.MentionLemmas.{AreSameOn, flipped, truth_as}
use Rattle.ps_sentences.proofs.mentions.truth_depends_on_mentions.Goals as goal

pub returns : goal.returns
returns c f v w same i =
    let on : AreSameOn f v w = record { each = same } in (truth_as f v w on i, truth_as f w v (flipped f on) i)
