-- Each clause of the law `sound_labels` is proved by a lemma of its own.
use Rattle.ps_hoa.proofs.Soundness.SoundLaws.{sound_aliases_ordered, state_label, edge_label}
use Rattle.ps_hoa.proofs.laws.sound_labels.Goals as goal

pub returns-clause-aliases : goal.returns-clause-aliases
returns-clause-aliases c = sound_aliases_ordered

pub returns-clause-row : goal.returns-clause-row
returns-clause-row c = state_label

pub returns-clause-edge : goal.returns-clause-edge
returns-clause-edge c = edge_label
