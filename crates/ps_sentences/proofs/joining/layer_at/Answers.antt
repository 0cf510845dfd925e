use Rattle.std.proofs.Common.{refl}
use Rattle.std.proofs.lemmas.Option.{IfSome_then}
use Rattle.ps_sentences.proofs.SharingLemmas.{shared_in}
use Rattle.ps_sentences.proofs.joining.layer_at.Goals as goal

pub returns : goal.returns
returns c = IfSome_then c.shared_layer.result c.shared_layer.ensures (λ shared by.
    shared_in _ _ _ _ shared c.as_slice.ensures.value c.as_slice-2.ensures.value c.as_slice.ensures.table
    c.requires.first
    c.requires.second refl refl by)
