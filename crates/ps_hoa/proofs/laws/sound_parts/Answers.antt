-- Each clause of the law `sound_parts` is proved by a lemma of its own.
use Rattle.ps_hoa.proofs.Soundness.SoundLaws.{sound_row, row_of_state, sound_edge}
use Rattle.ps_hoa.proofs.laws.sound_parts.Goals as goal

pub returns-clause-row : goal.returns-clause-row
returns-clause-row c = sound_row

pub returns-clause-state : goal.returns-clause-state
returns-clause-state c = row_of_state

pub returns-clause-edge : goal.returns-clause-edge
returns-clause-edge c = sound_edge
